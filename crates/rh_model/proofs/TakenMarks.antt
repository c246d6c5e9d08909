-- The marks without the first.
use Rattle.std.proofs.Common.{◌≡◌, ◌≢◌, ◌<◌, ◌-◌, ◌/◌, ◌%◌, ◌^◌, ◌==◌, ◌&&◌, ℕ, zero, suc, Bool, true, false, not, bit_and, min, refl, sym, ap, ◌∙◌, arith, inl, inr}
use Rattle.std.specs.Int.{bit_at, trailing_zeros, w128}
use Rattle.std.proofs.lemmas.Nat.{and_le_r}
use Rattle.std.proofs.lemmas.Nat.Bits.{bit_at_lowest, bit_at-suc, bit_at_and, bit_at-trailing_zeros}
use Rattle.std.proofs.lemmas.Bool.{cases_lt}
use Rattle.std.proofs.lemmas.Bool.Decides.{eqb_tells}
use Rattle.rh_model.specs.declared.node.App.{App}
use Rattle.rh_model.specs.Marks.{is_marked}

even : (n : ℕ) → n % 2 ≡ 1 → (n - 1) % 2 ≡ 0
even n h = omega (arith, h)

same_half : (n : ℕ) → n % 2 ≡ 1 → (n - 1) / 2 ≡ n / 2
same_half n h = omega (arith, h)

half_less : (n : ℕ) → n % 2 ≡ 0 → (n - 1) / 2 ≡ n / 2 - 1
half_less n h = omega (arith, h)

-- less one, a word with 0 below a 1 has 0 there, and the same above
less_at : (n t : ℕ) → bit_at n t ≡ 1 → ((i : ℕ) → i < t → bit_at n i ≡ 0) → bit_at (n - 1) t ≡ 0
less_at n zero one none = bit_at_lowest (n - 1) ∙ even n (sym (bit_at_lowest n) ∙ one)
less_at n (suc t) one none =
    bit_at-suc (n - 1) t ∙ ap (λ m. bit_at m t) (half_less n (sym (bit_at_lowest n) ∙ none 0 (omega arith)))
    ∙ less_at (n / 2) t (sym (bit_at-suc n t) ∙ one) (λ i lt. sym (bit_at-suc n i) ∙ none (suc i) (omega (arith, lt)))

less_above : (n t : ℕ) → bit_at n t ≡ 1 → ((i : ℕ) → i < t → bit_at n i ≡ 0) → (i : ℕ) → t < i → bit_at (n - 1) i ≡ bit_at n i
less_above n t one none zero above = absurd (omega (arith, above))
less_above n zero one none (suc j) above =
    bit_at-suc (n - 1) j ∙ ap (λ m. bit_at m j) (same_half n (sym (bit_at_lowest n) ∙ one)) ∙ sym (bit_at-suc n j)
less_above n (suc t) one none (suc j) above =
    bit_at-suc (n - 1) j ∙ ap (λ m. bit_at m j) (half_less n (sym (bit_at_lowest n) ∙ none 0 (omega arith)))
    ∙ less_above (n / 2) t (sym (bit_at-suc n t) ∙ one) (λ i lt. sym (bit_at-suc n i) ∙ none (suc i) (omega (arith, lt))) j (omega (arith, above))
    ∙ sym (bit_at-suc n j)

min_zero : (b : ℕ) → min b 0 ≡ 0
min_zero b = omega arith

zero_min : (b : ℕ) → min 0 b ≡ 0
zero_min b = omega arith

min_same : (b : ℕ) → min b b ≡ b
min_same b = omega arith

-- a word and that less one: all that it has but the lowest 1
taken_bit : (n t : ℕ) → bit_at n t ≡ 1 → ((i : ℕ) → i < t → bit_at n i ≡ 0) → (i : ℕ)
    → (bit_at (bit_and n (n - 1)) i == 1) ≡ ((bit_at n i == 1) && not (i == t))
taken_bit n t one none i = elim (cases_lt i t) [
  | inl lt ↦ rw (bit_at_and n (n - 1) i, none i lt, zero_min (bit_at (n - 1) i)) refl
  | inr ge ↦ elim (eqb_tells i t) [
    | inl same ↦ rw same.0 (ap (λ b. b == 1) (bit_at_and n (n - 1) i ∙ ap (λ j. min (bit_at n j) (bit_at (n - 1) j)) same.1
        ∙ ap (min (bit_at n t)) (less_at n t one none) ∙ min_zero (bit_at n t)) ∙ sym (and_false (bit_at n i == 1)))
    | inr other ↦ rw other.0 (ap (λ b. b == 1) (bit_at_and n (n - 1) i
        ∙ ap (min (bit_at n i)) (less_above n t one none i (omega (arith, ge, other.1))) ∙ min_same (bit_at n i)) ∙ sym (and_true (bit_at n i == 1)))
  ]
]
  where
    and_false : (p : Bool) → p && false ≡ false
    and_false true = refl
    and_false false = refl

    and_true : (p : Bool) → p && true ≡ p
    and_true true = refl
    and_true false = refl

module _ (marks : ℕ) (small : marks < 2 ^ 128) (some : marks ≢ 0) where
  abbrev low : ℕ
  low = trailing_zeros w128 marks

  abbrev first : App
  first = record { 0 = low }

  lowest : (low < 128) × (bit_at marks low ≡ 1) × ((i : ℕ) → i < low → bit_at marks i ≡ 0)
  lowest = bit_at-trailing_zeros w128 marks (omega (arith, some)) small

  pub low_marked : is_marked (record { marks = marks }) first ≡ true
  unfolding is_marked
  low_marked = ap (λ b. b == 1) lowest.1

  pub low_first : (b : App) → b.0 < low → is_marked (record { marks = marks }) b ≡ false
  unfolding is_marked
  low_first b lt = ap (λ v. v == 1) (lowest.2 b.0 lt)

  pub low_taken : (b : App) → is_marked (record { marks = bit_and marks (marks - 1) }) b ≡ (is_marked (record { marks = marks }) b && not (b.0 == first.0))
  unfolding is_marked
  low_taken b = taken_bit marks low lowest.1 lowest.2 b.0

  pub low_fewer : bit_and marks (marks - 1) < marks
  low_fewer = let le = and_le_r marks (marks - 1) in omega (arith, le, some)
