-- Of two lists that may come, one comes before the other, or they are the same.
use Rattle.std.proofs.Common.{◌≡◌, ◌⊎◌, ◌<◌, ◌≤◌, ◌+◌, ℕ, zero, suc, List, [], ◌∷◌, length, get_or, slice_get, Some, inl, inr, refl, sym, ap, ◌∙◌, subst, arith}
use Rattle.std.proofs.lemmas.Bool.{cases_lt}
use Rattle.std.proofs.lemmas.Option.{same_Some, slice_get-get_or}
use Rattle.rh_state.specs.StateView.{StateView}
use Rattle.rh_rules.specs.declared.event.Event.{Event}
use Rattle.rh_step.specs.Runs.{step}
use Rattle.rh_explore.specs.declared.moves.Move.{Move}
use Rattle.rh_explore.specs.declared.moves.Move.TheVariants.{Wait}
use Rattle.rh_explore.specs.Moves.{event_in}
use Rattle.rh_explore.specs.Reaching.{Scope, IsMove, MayAllCome}
use Rattle.rh_explore.specs.Before.{Precedes, PartsBefore, ComesBefore}
use Rattle.rh_explore.proofs.SameEvents.{event_same, told_same}

module _ (w : Scope) (s : StateView) (d e : Event) where
  -- neither is a move in front of this place
  abbrev IsNeither : ℕ → Type 0
  IsNeither n = (k : ℕ) (m : Move) → k < n → slice_get w.moves k ≡ Some m → ((event_in s m ≡ Some d) ⊎ (event_in s m ≡ Some e)) → ⊥

  -- a move is one of them, and none in front of it is
  record IsFirstMove : Type 0 where
    pub place : ℕ
    pub move : Move
    pub listed : slice_get w.moves place ≡ Some move
    pub is : (event_in s move ≡ Some d) ⊎ (event_in s move ≡ Some e)
    pub none : IsNeither place

  first_below : (n : ℕ) → n ≤ length w.moves → IsFirstMove ⊎ IsNeither n
  first_below zero l = inr (λ k m below. absurd (omega (arith, below)))
  first_below (suc n) l = elim (first_below n (omega (arith, l))) [
    | inl f ↦ inl f
    | inr none ↦ by_move none (told_same (event_in s here) d) (told_same (event_in s here) e)
  ]
    where
      here : Move
      here = get_or w.moves n Wait

      at : slice_get w.moves n ≡ Some here
      at = slice_get-get_or w.moves n Wait (omega (arith, l))

      by_move : IsNeither n → (event_in s here ≡ Some d) ⊎ (event_in s here ≡ Some d → ⊥) → (event_in s here ≡ Some e) ⊎ (event_in s here ≡ Some e → ⊥)
          → IsFirstMove ⊎ IsNeither (suc n)
      by_move none (inl is) other = inl (record { place = n; move = here; listed = at; is = inl is; none = none })
      by_move none (inr not) (inl is) = inl (record { place = n; move = here; listed = at; is = inr is; none = none })
      by_move none (inr not) (inr nor) = inr (λ k m below listed one.
          elim (cases_lt k n) [
            | inl l ↦ none k m l listed one
            | inr past ↦
                let k_is : n ≡ k = omega (arith, past, below) in
                let m_is : here ≡ m = same_Some here m (sym at ∙ ap (slice_get w.moves) k_is ∙ listed) in
                neither not nor (subst (λ o. (event_in s o ≡ Some d) ⊎ (event_in s o ≡ Some e)) (sym m_is) one)
          ])
        where
          neither : {P Q : Type 0} → (P → ⊥) → (Q → ⊥) → P ⊎ Q → ⊥
          neither p q (inl x) = p x
          neither p q (inr x) = q x

  -- the first of them that is a move comes before the other
  by_first : (d ≡ e → ⊥) → (f : IsFirstMove) → Precedes w s d e ⊎ Precedes w s e d
  by_first differ f = elim f.is [
    | inl is ↦ inl (record {
      place = f.place;
      move = f.move;
      listed = f.listed;
      is = is;
      first = λ k m l listed other. by_place k m l listed (λ there. differ (same_Some d e (sym is ∙ ap (event_in s) there ∙ other))) (inr other);
    })
    | inr is ↦ inr (record {
      place = f.place;
      move = f.move;
      listed = f.listed;
      is = is;
      first = λ k m l listed other. by_place k m l listed (λ there. differ (sym (same_Some e d (sym is ∙ ap (event_in s) there ∙ other)))) (inl other);
    })
  ]
    where
      by_place : (k : ℕ) (m : Move) → k ≤ f.place → slice_get w.moves k ≡ Some m → (f.move ≡ m → ⊥) → ((event_in s m ≡ Some d) ⊎ (event_in s m ≡ Some e)) → ⊥
      by_place k m l listed differs one = elim (cases_lt k f.place) [
        | inl before ↦ f.none k m before listed one
        | inr past ↦
            let k_is : f.place ≡ k = omega (arith, past, l) in
            differs (same_Some f.move m (sym f.listed ∙ ap (slice_get w.moves) k_is ∙ listed))
      ]

  one_event : IsMove w s d → (Precedes w s d e ⊎ Precedes w s e d) ⊎ (d ≡ e)
  one_event listed = elim (event_same d e) [
    | inl same ↦ inr same
    | inr differ ↦ elim (first_below (listed.0 + 1) (let l = listed.2 in omega (arith, l))) [
      | inl f ↦ inl (by_first differ f)
      | inr none ↦
          absurd (none listed.0 listed.1 (omega arith)
          (slice_get-get_or w.moves listed.0 listed.1 listed.2 ∙ ap Some listed.3) (inl listed.4))
    ]
  ]

one_parts : (w : Scope) (s : StateView) (es fs : List Event) → length es ≡ length fs → MayAllCome w s es
    → (PartsBefore w s es fs ⊎ PartsBefore w s fs es) ⊎ (es ≡ fs)
one_parts w s [] [] long may = inr refl
one_parts w s [] (e ∷ fs) long may = absurd (omega (arith, long))
one_parts w s (d ∷ es) [] long may = absurd (omega (arith, long))
one_parts w s (d ∷ es) (e ∷ fs) long may = elim (one_event w s d e may.0.listed) [
  | inl parts ↦ elim parts [
    | inl p ↦ inl (inl (inl p))
    | inr p ↦ inl (inr (inl p))
  ]
  | inr same ↦ elim (one_parts w (step w.pick s d) es fs (omega (arith, long)) may.1) [
    | inl parts ↦ elim parts [
      | inl p ↦ inl (inl (inr (same, p)))
      | inr p ↦ inl (inr (inr (sym same, subst (λ x. PartsBefore w (step w.pick s x) fs es) same p)))
    ]
    | inr rest ↦ inr (λ i. same i ∷ rest i)
  ]
]

pub one_order : (w : Scope) (es fs : List Event) → MayAllCome w w.base es → (ComesBefore w es fs ⊎ ComesBefore w fs es) ⊎ (es ≡ fs)
one_order w es fs may = elim (cases_lt (length es) (length fs)) [
  | inl l ↦ inl (inl (inl l))
  | inr l ↦ elim (cases_lt (length fs) (length es)) [
    | inl m ↦ inl (inr (inl m))
    | inr m ↦
        let long : length es ≡ length fs = omega (arith, l, m) in
        elim (one_parts w w.base es fs long may) [
          | inl parts ↦ elim parts [
            | inl p ↦ inl (inl (inr (long, p)))
            | inr p ↦ inl (inr (inr (sym long, p)))
          ]
          | inr same ↦ inr same
        ]
  ]
]
