-- The workers take turns: the first has the outcome of the next plan, and goes behind the others with those that it has left.
use Rattle.std.proofs.Common.{◌≡◌, ℕ, zero, suc, ◌+◌, ◌*◌, ◌<◌, List, [], ◌∷◌, ◌++◌, length, drop, map, Option, Some, None, get_or, slice_get, IsSome, Result, Ok, Err, IsOk, IfOk, OnOk, Vec, All}
use Rattle.std.proofs.Common.{sym, ap, subst, ◌∙◌, inl, inr, refl, arith}
use Rattle.std.specs.Option.{option_map, option_to_list}
use Rattle.std.proofs.lemmas.List.{length_push, length-drop, map-append, get_or_append_left, get_or_push}
use Rattle.std.proofs.lemmas.List.Elements.{All-nil, All-cons, All-get_or}
use Rattle.std.proofs.lemmas.Option.{slice_get-get_or}
use Rattle.std.proofs.lemmas.Bool.{cases_lt}
use Rattle.rh_trail.specs.SimView.{SimView}
use Rattle.rh_plans.specs.declared.plan.Outcome.{Outcome}
use Rattle.rh_plans.specs.declared.plan.Plan.{Plan}
use Rattle.rh_outcomes.specs.Outcomes.{outcome_of}
use Rattle.rh_sweep.specs.Working.{AreOutcomes, given}

-- what was taken from the front of a queue that isn't empty
pub taken : {X : Type 0} (r : Option X) (xs ys : List X) → xs ≡ option_to_list r ++ ys → ys ≡ drop 1 xs → 0 < length xs → IsSome r
taken (Some x) xs ys is rest some = refl
taken None xs ys is rest some = absurd (omega (arith, some, ap (λ zs. length zs) is, ap (λ zs. length zs) rest, length-drop 1 xs))

-- one more on both sides
pub more-alike : {T R Y : Type 0} (f : T → Y) (g : R → Y) (ts us : List T) (rs : List R) (t : T) (r : R) → us ≡ ts ++ t ∷ [] → map f ts ≡ map g rs
    → f t ≡ g r → map f us ≡ map g (rs ++ r ∷ [])
more-alike f g ts us rs t r more is last =
    ap (map f) more
    ∙ map-append f ts (t ∷ [])
    ∙ (λ j. is j ++ last j ∷ [])
    ∙ sym (map-append g rs (r ∷ []))

module _ {T X Z E : Type 0} (items : T → List X) where
  here : (P : List X → Type 0) (t : T) (part : Result (Vec X Z) E) → Some (items t) ≡ given part → IfOk part (λ v. P v.items) → P (items t)
  here P t (Ok v) is ok = let same : v.items ≡ items t = cc in subst P same ok
  here P t (Err e) is ok = absurd (cc is)

  -- what holds of what each worker gave holds of each turn
  pub each-given : (P : ℕ → List X → Type 0) (ts : List T) (parts : List (Result (Vec X Z) E)) → map (λ t. Some (items t)) ts ≡ map given parts
      → ((w : ℕ) (d : Result (Vec X Z) E) → w < length parts → IfOk (get_or parts w d) (λ v. P w v.items))
      → (i : ℕ) → i < length parts → P i (get_or (map items ts) i [])
  each-given P ts [] is each i inside = absurd (omega (arith, inside))
  each-given P [] (part ∷ parts) is each i inside = absurd (cc is)
  each-given P (t ∷ ts) (part ∷ parts) is each zero inside =
      let first : Some (items t) ≡ given part = cc in
      here (P 0) t part first (each 0 part inside)
  each-given P (t ∷ ts) (part ∷ parts) is each (suc i) inside =
      let others : map (λ s. Some (items s)) ts ≡ map given parts = cc in
      each-given (λ n. P (suc n)) ts parts others (λ w d within. each (suc w) d (omega (arith, within))) i (omega (arith, inside))

  given-ok : (t : T) (part : Result (Vec X Z) E) → Some (items t) ≡ given part → IsOk part
  given-ok t (Ok v) is = refl
  given-ok t (Err e) is = absurd (cc is)

  -- and each of them gave something
  pub all-ok : (ts : List T) (parts : List (Result (Vec X Z) E)) → map (λ t. Some (items t)) ts ≡ map given parts → All IsOk parts
  all-ok ts [] is = All-nil IsOk
  all-ok [] (part ∷ parts) is = absurd (cc is)
  all-ok (t ∷ ts) (part ∷ parts) is =
      let first : Some (items t) ≡ given part = cc in
      let others : map (λ s. Some (items s)) ts ≡ map given parts = cc in
      All-cons IsOk part parts (given-ok t part first) (all-ok ts parts others)

-- what holds where something was given
pub on-ok : {X E : Type 0} (r : Result X E) (P : Type 0) → IsOk r → OnOk r P → P
on-ok (Ok x) P ok is = is
on-ok (Err e) P ok is = absurd (cc ok)

-- and so of each of a list, where all were given
pub each-on-ok : {X E : Type 0} (rs : List (Result X E)) (P : ℕ → Type 0) → All IsOk rs
    → ((w : ℕ) (d : Result X E) → w < length rs → OnOk (get_or rs w d) (P w)) → (w : ℕ) → w < length rs → P w
each-on-ok [] P all each w inside = absurd (omega (arith, inside))
each-on-ok (r ∷ rs) P all each w inside =
    on-ok (get_or (r ∷ rs) w r) (P w) (All-get_or IsOk (r ∷ rs) w r inside all) (each w r inside)

module _ (s : SimView) (plans : List Plan) (k : ℕ) where
  -- the next plan is n, and the worker whose turn it is stands first
  pub record AreTurns (n : ℕ) (turns : List (List Outcome)) : Type 0 where
    pub count : length turns ≡ k
    pub each : (i : ℕ) → i < k → AreOutcomes s plans k (n + i) (get_or turns i [])

  module _ (n : ℕ) (turns : List (List Outcome)) (inside : n < length plans) where
    -- the first outcome of the worker whose turn it is, if it has one, is that of the next plan
    next-of : (turn : List Outcome) → AreTurns n (turn ∷ turns) → (d : Plan) → slice_get turn 0 ≡ Some (outcome_of s (get_or plans n d))
    next-of turn are d =
        let at : n + 0 + 0 * k ≡ n = omega arith in
        are.each 0 (omega (arith, are.count)) 0
        ∙ ap (λ m. option_map (outcome_of s) (slice_get plans m)) at
        ∙ ap (option_map (outcome_of s)) (slice_get-get_or plans n d inside)

    -- it has one
    pub has-outcome : (turn : List Outcome) → Plan → AreTurns n (turn ∷ turns) → 0 < length turn
    has-outcome [] d are = absurd (cc (next-of [] are d))
    has-outcome (o ∷ os) d are = omega arith

    pub is-outcome : (o : Outcome) (os : List Outcome) (d : Plan) → AreTurns n ((o ∷ os) ∷ turns) → o ≡ outcome_of s (get_or plans n d)
    is-outcome o os d are = let e : Some o ≡ Some (outcome_of s (get_or plans n d)) = next-of (o ∷ os) are d in cc

  -- it goes behind the others
  pub turn-more : (n : ℕ) (o : Outcome) (os : List Outcome) (turns : List (List Outcome)) → AreTurns n ((o ∷ os) ∷ turns) → AreTurns (n + 1) (turns ++ os ∷ [])
  turn-more n o os turns are = record {
    count = omega (arith, are.count, length_push turns os);
    each = λ i within. elim (cases_lt i (length turns)) [
      | inl below ↦ others i below
      | inr above ↦ last i (omega (arith, above, within, are.count))
    ];
  }
    where
      others : (i : ℕ) → i < length turns → AreOutcomes s plans k (n + 1 + i) (get_or (turns ++ os ∷ []) i [])
      others i below =
          let at : n + suc i ≡ n + 1 + i = omega arith in
          subst (λ m. AreOutcomes s plans k m (get_or (turns ++ os ∷ []) i [])) at
          (subst (AreOutcomes s plans k (n + suc i)) (sym (get_or_append_left turns (os ∷ []) [] i below))
          (are.each (suc i) (omega (arith, below, are.count))))

      last : (i : ℕ) → i ≡ length turns → AreOutcomes s plans k (n + 1 + i) (get_or (turns ++ os ∷ []) i [])
      last i same = subst (AreOutcomes s plans k (n + 1 + i)) (sym (get_or_push turns os [] i (sym same)))
          (λ j.
          let at : n + 0 + suc j * k ≡ n + 1 + i + j * k = omega (arith, same, are.count) in
          are.each 0 (omega (arith, are.count)) (suc j)
          ∙ ap (λ m. option_map (outcome_of s) (slice_get plans m)) at)
