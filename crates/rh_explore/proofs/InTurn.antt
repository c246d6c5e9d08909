-- States that were found in their turn stand in the order of the lists that lead to them.
use Rattle.std.proofs.Common.{◌≡◌, ◌⊎◌, ◌<◌, ◌+◌, ℕ, zero, suc, List, [], ◌∷◌, ◌++◌, length, take, slice_get, Some, inl, inr, refl, sym, ap, ◌∙◌, subst, arith}
use Rattle.std.proofs.lemmas.Bool.{cases_lt}
use Rattle.std.proofs.lemmas.List.{length_push, take-append-le}
use Rattle.std.proofs.lemmas.Option.{same_Some, none-some, slice_get_within}
use Rattle.rh_state.specs.StateView.{StateView}
use Rattle.rh_rules.specs.declared.event.Event.{Event}
use Rattle.rh_step.specs.Runs.{step}
use Rattle.rh_keys.specs.Shifts.{Alike}
use Rattle.rh_keys.proofs.Places.{at_front, at_of}
use Rattle.rh_explore.specs.Moves.{event_in}
use Rattle.rh_explore.specs.Reaching.{Scope, MayCome, MayAllCome, behind}
use Rattle.rh_explore.specs.Before.{Precedes, PartsBefore, ComesBefore}
use Rattle.rh_explore.specs.Spaces.{Seen, IsSeen, HasWithin, IsFoundInTurn, AreInTurn}
use Rattle.rh_explore.proofs.Searched.{behind_push, behind_valid, complete, ordered_at, may_last, may_front}

-- ---- the first states of all
pub at_take : {A : Type 0} (xs : List A) (n k : ℕ) → k < n → slice_get (take n xs) k ≡ slice_get xs k
at_take [] zero k l = absurd (omega (arith, l))
at_take [] (suc n) k l = refl
at_take (x ∷ xs) zero k l = absurd (omega (arith, l))
at_take (x ∷ xs) (suc n) zero l = refl
at_take (x ∷ xs) (suc n) (suc k) l = at_take xs n k (omega (arith, l))

pub within_take : {A : Type 0} (xs : List A) (n k : ℕ) (x : A) → slice_get (take n xs) k ≡ Some x → k < n
within_take [] zero k x at = absurd (none-some x at)
within_take [] (suc n) k x at = absurd (none-some x at)
within_take (y ∷ xs) zero k x at = absurd (none-some x at)
within_take (y ∷ xs) (suc n) zero x at = omega arith
within_take (y ∷ xs) (suc n) (suc k) x at = let l = within_take xs n k x at in omega (arith, l)

-- ---- lists with one event more
pub last_of : (d : Event) (es : List Event) → (front : List Event) × (last : Event) × (d ∷ es ≡ front ++ last ∷ [])
last_of d [] = ([], d, refl)
last_of d (e ∷ es) = let rest = last_of e es in (d ∷ rest.0, rest.1, ap (λ (l : List Event). d ∷ l) rest.2)

-- where they part at the last, or before it
parts_last : (w : Scope) (s : StateView) (es fs : List Event) (d e : Event) → length es ≡ length fs → PartsBefore w s (es ++ d ∷ []) (fs ++ e ∷ [])
    → PartsBefore w s es fs ⊎ ((es ≡ fs) × Precedes w (behind w s fs) d e)
parts_last w s [] [] d e long (inl p) = inr (refl, p)
parts_last w s [] [] d e long (inr p) = absurd p.1
parts_last w s [] (y ∷ fs) d e long p = absurd (omega (arith, long))
parts_last w s (x ∷ es) [] d e long p = absurd (omega (arith, long))
parts_last w s (x ∷ es) (y ∷ fs) d e long (inl p) = inl (inl p)
parts_last w s (x ∷ es) (y ∷ fs) d e long (inr p) =
    elim (parts_last w (step w.pick s x) es fs d e (omega (arith, long)) p.1) [
      | inl before ↦ inl (inr (p.0, before))
      | inr same ↦ inr ((λ i. p.0 i ∷ same.0 i), subst (λ z. Precedes w (behind w (step w.pick s z) fs) d e) p.0 same.1)
    ]

-- ---- what is found in turn
module _ (w : Scope) (seen : List Seen) where
  -- a list that comes before that of a state leads to one that was found before it
  abbrev IsEarlier : ℕ → List Event → Type 0
  IsEarlier i es = (k : ℕ) × (x : Seen) × (k < i) × (slice_get seen k ≡ Some x) × Alike (behind w w.base es) x.state

  found_earlier : (i : ℕ) (es : List Event) (n : ℕ) → HasWithin (take i seen) (behind w w.base es) n → IsEarlier i es
  found_earlier i es n has =
      let l = within_take seen i has.0 has.1 has.2 in
      (has.0, has.1, l, sym (at_take seen i has.0 l) ∙ has.2, has.3)

  module _ (begins : slice_get seen 0 ≡ Some (record { path = []; state = w.base })) (turns : AreInTurn w seen) where
    module _ (i : ℕ) (y : Seen) (turn : IsFoundInTurn w (take i seen) y) where
      abbrev earlier : List Seen
      earlier = take i seen

      here : IsSeen w turn.from
      here = at_of (IsSeen w) earlier turn.at turn.from turn.expanded.searched.each turn.expanded.here

      at_in : turn.at < i
      at_in = within_take seen i turn.at turn.from turn.expanded.here

      longer : length y.path ≡ length turn.from.path + 1
      longer = ap (λ (p : List Event). length p) turn.path ∙ length_push turn.from.path turn.event

      -- a shorter one
      by_length : (other : List Event) → MayAllCome w w.base other → length other < length y.path → IsEarlier i other
      by_length other may l =
          found_earlier i other (length other)
          (complete w earlier turn.at turn.expanded.searched (length other)
          (λ k x past there. let order = ordered_at w earlier turn.at turn.expanded.searched turn.at k turn.from x past turn.expanded.here there in
          omega (arith, order, l, longer)) other may (omega arith))

      -- one that parts from it at the last event
      by_event : (d : Event) → MayCome w (behind w w.base turn.from.path) d → Precedes w (behind w w.base turn.from.path) d turn.event
          → IsEarlier i (turn.from.path ++ d ∷ [])
      by_event d may p =
          let to : behind w w.base turn.from.path ≡ turn.from.state = here.leads in
          let sooner : p.place < turn.place =
          elim (cases_lt p.place turn.place) [
            | inl l ↦ l
            | inr l ↦ absurd (p.first turn.place turn.move l turn.listed (ap (λ s. event_in s turn.move) to ∙ turn.is))
          ] in
          let has = turn.expanded.made p.place p.move sooner p.listed d (sym (ap (λ s. event_in s p.move) to) ∙ p.is)
          turn.from.state refl here.valid (subst (λ s. MayCome w s d) to may) in
          let is : behind w w.base (turn.from.path ++ d ∷ []) ≡ step w.pick turn.from.state d =
          behind_push w w.base turn.from.path d ∙ ap (λ s. step w.pick s d) to in
          found_earlier i (turn.from.path ++ d ∷ []) (length turn.from.path + 1)
          (subst (λ s. HasWithin earlier s (length turn.from.path + 1)) (sym is) has)

      -- one that parts from it before
      by_front : (front : List Event) (d : Event) → MayAllCome w w.base (front ++ d ∷ []) → IsEarlier turn.at front → IsEarlier i (front ++ d ∷ [])
      by_front front d may (k, x, l, there, alike) =
          let inside : slice_get earlier k ≡ Some x = at_take seen i k (omega (arith, l, at_in)) ∙ there in
          let base : Seen = record { path = []; state = w.base } in
          let is_base : slice_get earlier 0 ≡ Some base = at_take seen i 0 (omega (arith, at_in)) ∙ begins in
          let valid = (at_of (IsSeen w) earlier 0 base turn.expanded.searched.each is_base).valid in
          let has = turn.expanded.searched.closed k x d l inside (behind w w.base front) alike
          (behind_valid w w.base front valid (may_front w w.base front d may)) (may_last w w.base front d may) in
          found_earlier i (front ++ d ∷ []) (length x.path + 1)
          (subst (λ s. HasWithin earlier s (length x.path + 1)) (sym (behind_push w w.base front d)) has)

      by_turn : ((es : List Event) → MayAllCome w w.base es → ComesBefore w es turn.from.path → IsEarlier turn.at es)
          → (other : List Event) → MayAllCome w w.base other → ComesBefore w other y.path → IsEarlier i other
      by_turn go other may (inl short) = by_length other may short
      by_turn go [] may (inr (long, parts)) = absurd (omega (arith, long, longer))
      by_turn go (d ∷ es) may (inr (long, parts)) =
          let cut = last_of d es in
          let front = cut.0 in
          let last = cut.1 in
          let may' = subst (MayAllCome w w.base) cut.2 may in
          let as_long : length front ≡ length turn.from.path =
          omega (arith, long, longer, ap (λ (l : List Event). length l) cut.2, length_push front last) in
          let parts' : PartsBefore w w.base (front ++ last ∷ []) (turn.from.path ++ turn.event ∷ []) =
          subst (λ (l : List Event). PartsBefore w w.base l (turn.from.path ++ turn.event ∷ [])) cut.2
          (subst (λ (l : List Event). PartsBefore w w.base (d ∷ es) l) turn.path parts) in
          subst (IsEarlier i) (sym cut.2)
          (elim (parts_last w w.base front turn.from.path last turn.event as_long parts') [
            | inl before ↦ by_front front last may' (go front (may_front w w.base front last may') (inr (as_long, before)))
            | inr q ↦
                subst (λ (l : List Event). IsEarlier i (l ++ last ∷ [])) (sym q.0)
                (by_event last (subst (λ (l : List Event). MayCome w (behind w w.base l) last) q.0 (may_last w w.base front last may')) q.1)
          ])

    earlier_below : (n i : ℕ) (y : Seen) → i < n → slice_get seen i ≡ Some y → (other : List Event) → MayAllCome w w.base other → ComesBefore w other y.path
        → IsEarlier i other
    earlier_below zero i y l at other may before = absurd (omega (arith, l))
    earlier_below (suc n) zero y l at other may before =
        let is : record { path = []; state = w.base } ≡ y = same_Some (record { path = []; state = w.base }) y (sym begins ∙ at) in
        absurd (none_before other (subst (λ (z : Seen). ComesBefore w other z.path) (sym is) before))
      where
        none_before : (es : List Event) → ComesBefore w es [] → ⊥
        none_before es (inl l) = omega (arith, l)
        none_before [] (inr (long, parts)) = parts
        none_before (e ∷ es) (inr (long, parts)) = omega (arith, long)
    earlier_below (suc n) (suc i) y l at other may before =
        let turn = turns (suc i) y (omega arith) at in
        let l' = within_take seen (suc i) turn.at turn.from turn.expanded.here in
        by_turn (suc i) y turn
        (λ es can first. earlier_below n turn.at turn.from (omega (arith, l, l')) (sym (at_take seen (suc i) turn.at l') ∙ turn.expanded.here) es can first)
        other may before

    pub earlier_of : (i : ℕ) (y : Seen) → slice_get seen i ≡ Some y → (other : List Event) → MayAllCome w w.base other → ComesBefore w other y.path
        → IsEarlier i other
    earlier_of i y at other may before = earlier_below (suc i) i y (omega arith) at other may before

-- ---- one more
pub last_at : {A : Type 0} (xs : List A) (x : A) → slice_get (xs ++ x ∷ []) (length xs) ≡ Some x
last_at [] x = refl
last_at (y ∷ ys) x = last_at ys x

-- the last is the new one, or stood there
module _ {A : Type 0} (xs : List A) (x : A) (P : (k : ℕ) → List A → A → Type 0)
    (old : (k : ℕ) (y : A) → k < length xs → slice_get xs k ≡ Some y → P k (take k xs) y) (new : P (length xs) xs x) where
  pub each_push : (k : ℕ) (y : A) → slice_get (xs ++ x ∷ []) k ≡ Some y → P k (take k (xs ++ x ∷ [])) y
  each_push k y at =
      let within = slice_get_within (xs ++ x ∷ []) k y at in
      let all = length_push xs x in
      elim (cases_lt k (length xs)) [
        | inl l ↦ subst (λ (ys : List A). P k ys y) (sym (take-append-le k xs (x ∷ []) (omega (arith, l)))) (old k y l (sym (at_front xs (x ∷ []) k l) ∙ at))
        | inr l ↦
            let k_is : length xs ≡ k = omega (arith, l, within, all) in
            let y_is : x ≡ y = same_Some x y (sym (last_at xs x) ∙ ap (slice_get (xs ++ x ∷ [])) k_is ∙ at) in
            let whole : xs ≡ take (length xs) (xs ++ x ∷ []) = sym (take_all xs) ∙ sym (take-append-le (length xs) xs (x ∷ []) (omega arith)) in
            subst (λ n. P n (take n (xs ++ x ∷ [])) y) k_is (subst (P (length xs) (take (length xs) (xs ++ x ∷ []))) y_is (subst (λ (ys : List A). P (length xs) ys x) whole new))
      ]
    where
      take_all : (ys : List A) → take (length ys) ys ≡ ys
      take_all [] = refl
      take_all (y ∷ ys) = ap (λ (l : List A). y ∷ l) (take_all ys)

pub turn_push : (w : Scope) (seen : List Seen) (y : Seen) → AreInTurn w seen → IsFoundInTurn w seen y → AreInTurn w (seen ++ y ∷ [])
turn_push w seen y turns turn k z some at =
    each_push seen y (λ k earlier x. 0 < k → IsFoundInTurn w earlier x) (λ k x l there some. turns k x some there) (λ some. turn) k z at some
