-- The outcomes of every k-th plan.
use Rattle.std.proofs.Common.{◌≡◌, ℕ, ◌+◌, ◌*◌, ◌/◌, ◌%◌, ◌<◌, ◌≤◌, List, [], ◌∷◌, ◌++◌, length, None, Some, slice_get}
use Rattle.std.proofs.Common.{sym, ap, subst, ◌∙◌, inl, inr, arith}
use Rattle.std.specs.Option.{option_map}
use Rattle.std.proofs.lemmas.List.{length_push, get_or_append_left, get_or_push}
use Rattle.std.proofs.lemmas.Option.{slice_get-get_or, slice_get_past}
use Rattle.std.proofs.lemmas.Bool.{cases_lt}
use Rattle.std.proofs.Math.Nat.{mul-le-mul_left}
use Rattle.rh_trail.specs.SimView.{SimView}
use Rattle.rh_plans.specs.declared.plan.Outcome.{Outcome}
use Rattle.rh_plans.specs.declared.plan.Plan.{Plan}
use Rattle.rh_outcomes.specs.Outcomes.{outcome_of}
use Rattle.rh_sweep.specs.Working.{AreOutcomes, EachOf}

module _ (s : SimView) (plans : List Plan) (k first : ℕ) where
  -- the first outcomes
  abbrev pub AreFirst : List Outcome → Type 0
  AreFirst outs = (j : ℕ) → j < length outs → slice_get outs j ≡ option_map (outcome_of s) (slice_get plans (first + j * k))

  -- one more
  pub first-more : (outs : List Outcome) (o : Outcome) (n : ℕ) → n ≡ first + length outs * k
      → Some o ≡ option_map (outcome_of s) (slice_get plans n) → AreFirst outs → AreFirst (outs ++ o ∷ [])
  first-more outs o n at is each j bound = elim (cases_lt j (length outs)) [
    | inl below ↦ earlier below
    | inr above ↦ last (omega (arith, above, bound, length_push outs o))
  ]
    where
      earlier : j < length outs → slice_get (outs ++ o ∷ []) j ≡ option_map (outcome_of s) (slice_get plans (first + j * k))
      earlier below =
          slice_get-get_or (outs ++ o ∷ []) j o bound
          ∙ ap Some (get_or_append_left outs (o ∷ []) o j below)
          ∙ sym (slice_get-get_or outs j o below)
          ∙ each j below

      last : j ≡ length outs → slice_get (outs ++ o ∷ []) j ≡ option_map (outcome_of s) (slice_get plans (first + j * k))
      last same =
          slice_get-get_or (outs ++ o ∷ []) j o bound
          ∙ ap Some (get_or_push outs o o j (sym same))
          ∙ is
          ∙ ap (λ m. option_map (outcome_of s) (slice_get plans m)) (at ∙ ap (λ m. first + m * k) (sym same))

  -- all of them, where no plan is left
  pub first-all : (outs : List Outcome) (n : ℕ) → n ≡ first + length outs * k → length plans ≤ n → AreFirst outs → AreOutcomes s plans k first outs
  first-all outs n at end each j = elim (cases_lt j (length outs)) [
    | inl below ↦ each j below
    | inr above ↦
        let past : length plans ≤ first + j * k = omega (arith, mul-le-mul_left k above, at, end) in
        slice_get_past outs j above ∙ ap (option_map (outcome_of s)) (sym (slice_get_past plans (first + j * k) past))
  ]

  pub stride-more : (m n : ℕ) → n ≡ first + m * k → n + k ≡ first + (m + 1) * k
  stride-more m n at = omega (arith, at)

-- ---- what holds of the plans of a worker
module _ (P : ℕ → Type 0) (k first : ℕ) where
  -- of the first ones
  abbrev pub HoldsFirst : ℕ → Type 0
  HoldsFirst m = (j : ℕ) → j < m → P (first + j * k)

  pub holds-more : (m n : ℕ) → n ≡ first + m * k → P n → HoldsFirst m → HoldsFirst (m + 1)
  holds-more m n at here each j bound = elim (cases_lt j m) [
    | inl below ↦ each j below
    | inr above ↦
        let same : j ≡ m = omega (arith, above, bound) in
        subst P (at ∙ ap (λ i. first + i * k) (sym same)) here
  ]

  -- of all of them
  pub holds-all : (count m n : ℕ) → n ≡ first + m * k → count ≤ n → HoldsFirst m → EachOf P count k first
  holds-all count m n at end each j within = elim (cases_lt j m) [
    | inl below ↦ each j below
    | inr above ↦ absurd (omega (arith, mul-le-mul_left k above, at, end, within))
  ]

-- what holds of the plans of each worker holds of all plans
pub holds-of-all : (P : ℕ → Type 0) (k count : ℕ) → 0 < k → ((w : ℕ) → w < k → EachOf P count k w) → (n : ℕ) → n < count → P n
holds-of-all P k count some each n inside =
    let at : n % k + (n / k) * k ≡ n = omega (arith, some) in
    let worker : n % k < k = omega (arith, some) in
    subst P at (each (n % k) worker (n / k) (omega (arith, at, inside)))

-- some plan, where there are any
pub any-plan : (plans : List Plan) (n : ℕ) → n < length plans → Plan
any-plan [] n inside = absurd (omega (arith, inside))
any-plan (plan ∷ plans) n inside = plan
