-- A mark for each application, as a bit of a number.
use Rattle.std.proofs.Common.{◌≡◌, ℕ, ◌+◌, ◌-◌, ◌*◌, ◌/◌, ◌%◌, ◌^◌, ◌==◌, ◌<◌, ◌||◌, ◌&&◌, Bool, true, false, IsTrue, nat_eq, min, refl, sym, ap, ◌∙◌, inl, inr, arith, bit_and}
use Rattle.std.specs.Int.{bit_at, from_bool}
use Rattle.std.specs.Int.RustNames.{bit_or}
use Rattle.std.specs.Int.{w128}
use Rattle.std.proofs.lemmas.Bool.{cases_lt}
use Rattle.std.proofs.lemmas.Nat.{div-add-mod', or_lt}
use Rattle.std.proofs.lemmas.Nat.Bits.{shr_and_one, bit_at-lt, bit_at-zero, bit_at_set_same, bit_at_set_other, bit_at_cat_low, bit_at_cat_high, same_from_bits}
use Rattle.std.proofs.lemmas.Nat.Bits.{bit_at_and}
use Rattle.std.proofs.lemmas.Bool.Decides.{eqb_tells, nat_tests}
use Rattle.rh_model.specs.declared.node.App.{App}
use Rattle.rh_model.specs.Marks.{is_marked}

abbrev same_app : App → App → Bool
same_app a b = a.0 == b.0

pub marked_none : (a : App) → is_marked (record { marks = 0 }) a ≡ false
unfolding is_marked
marked_none a = ap (λ b. b == 1) (bit_at-zero a.0)

pub marked_get : (marks : ℕ) (a : App) → (bit_and (marks / 2 ^ a.0) 1 == 1) ≡ is_marked (record { marks = marks }) a
unfolding is_marked
marked_get marks a = ap (λ b. b == 1) (shr_and_one marks a.0)

pub marked_set : (marks : ℕ) (app : App) → app.0 < 128 → (a : App)
    → is_marked (record { marks = bit_or marks (1 * 2 ^ app.0 % 2 ^ 128) }) a ≡ (is_marked (record { marks = marks }) a || same_app a app)
unfolding is_marked
marked_set marks app small a = elim (eqb_tells a.0 app.0) [
  | inl same ↦ rw same.0 (ap (λ b. b == 1) (ap (bit_at (bit_or marks (1 * 2 ^ app.0 % 2 ^ 128))) same.1 ∙ bit_at_set_same w128 marks app.0 small)
      ∙ sym (or_true (bit_at marks a.0 == 1)))
  | inr other ↦ rw other.0 (ap (λ b. b == 1) (bit_at_set_other w128 marks app.0 small a.0 other.1) ∙ sym (or_false (bit_at marks a.0 == 1)))
]
  where
    or_true : (p : Bool) → p || true ≡ true
    or_true true = refl
    or_true false = refl

    or_false : (p : Bool) → p || false ≡ p
    or_false true = refl
    or_false false = refl

-- ---- words with marks of 64 applications
-- the low bits of a number are those of what is left of it
kept : (n i : ℕ) → i < 64 → bit_at (n % 2 ^ 64) i ≡ bit_at n i
kept n i small = sym (bit_at_cat_low (n / 2 ^ 64) 64 (n % 2 ^ 64) i small) ∙ ap (λ m. bit_at m i) (div-add-mod' n (2 ^ 64))

-- all marks move up by one
moved : (marks bit : ℕ) → bit < 2 → marks * 2 ^ 1 % 2 ^ 64 + bit ≡ (marks * 2 ^ 1 + bit) % 2 ^ 64
moved marks bit small = omega (arith, small)

bit_small : (mark : Bool) → from_bool mark < 2
bit_small true = omega arith
bit_small false = omega arith

pub moved_first : (marks : ℕ) (mark : Bool) (a : App) → a.0 ≡ 0 → is_marked (record { marks = marks * 2 ^ 1 % 2 ^ 64 + from_bool mark }) a ≡ mark
unfolding is_marked
moved_first marks mark a first = let bit = from_bool mark in let small = bit_small mark in
    ap (λ v. v == 1) (ap (λ m. bit_at m a.0) (moved marks bit small) ∙ ap (bit_at ((marks * 2 ^ 1 + bit) % 2 ^ 64)) first
    ∙ kept (marks * 2 ^ 1 + bit) 0 (omega arith) ∙ bit_at_cat_low marks 1 bit 0 (omega arith)) ∙ at_zeroth mark
  where
    at_zeroth : (mark : Bool) → bit_at (from_bool mark) 0 == 1 ≡ mark
    at_zeroth true = refl
    at_zeroth false = ap (λ v. v == 1) (bit_at-zero 0)

pub moved_other : (marks : ℕ) (mark : Bool) (a b : App) → b.0 ≡ a.0 + 1 → b.0 < 64
    → is_marked (record { marks = marks * 2 ^ 1 % 2 ^ 64 + from_bool mark }) b ≡ is_marked (record { marks = marks }) a
unfolding is_marked
moved_other marks mark a b next few = let bit = from_bool mark in let small = bit_small mark in
    ap (λ v. v == 1) (ap (λ m. bit_at m b.0) (moved marks bit small) ∙ kept (marks * 2 ^ 1 + bit) b.0 few
    ∙ bit_at_cat_high marks 1 bit b.0 (omega (arith, small)) (omega (arith, next)) ∙ ap (bit_at marks) (back a.0 b.0 next))
  where
    back : (i j : ℕ) → j ≡ i + 1 → j - 1 ≡ i
    back i j next = omega (arith, next)

-- two of them in one
whole : (high : ℕ) → high < 2 ^ 64 → high * 2 ^ 64 % 2 ^ 128 ≡ high * 2 ^ 64
whole high small = omega (arith, small)

pub low_half : (high low : ℕ) (a : App) → high < 2 ^ 64 → a.0 < 64
    → is_marked (record { marks = high * 2 ^ 64 % 2 ^ 128 + low }) a ≡ is_marked (record { marks = low }) a
unfolding is_marked
low_half high low a small lt = ap (λ v. v == 1) (ap (λ m. bit_at (m + low) a.0) (whole high small) ∙ bit_at_cat_low high 64 low a.0 lt)

pub high_half : (high low : ℕ) (a b : App) → high < 2 ^ 64 → low < 2 ^ 64 → a.0 ≡ b.0 + 64
    → is_marked (record { marks = high * 2 ^ 64 % 2 ^ 128 + low }) a ≡ is_marked (record { marks = high }) b
unfolding is_marked
high_half high low a b small few at = ap (λ v. v == 1) (ap (λ m. bit_at (m + low) a.0) (whole high small)
    ∙ bit_at_cat_high high 64 low a.0 few (omega (arith, at)) ∙ ap (bit_at high) (back a.0 b.0 at))
  where
    back : (i j : ℕ) → i ≡ j + 64 → i - 64 ≡ j
    back i j at = omega (arith, at)

pub marks_few : (marks : ℕ) (app : App) → marks < 2 ^ 128 → bit_or marks (1 * 2 ^ app.0 % 2 ^ 128) < 2 ^ 128
marks_few marks app small = or_lt 128 marks (1 * 2 ^ app.0 % 2 ^ 128) small (below (1 * 2 ^ app.0))
  where
    below : (m : ℕ) → m % 2 ^ 128 < 2 ^ 128
    below m = omega arith

not_one : (b : ℕ) → b < 2 → b == 1 ≡ false → b ≡ 0
not_one b small h = grind (arith, nat_tests)

-- no application is marked where the word is 0
pub marks_zero : (marks : ℕ) → ((a : App) → is_marked (record { marks = marks }) a ≡ false) → marks ≡ 0
unfolding is_marked
marks_zero marks none = same_from_bits marks 0 (λ i. not_one (bit_at marks i) (bit_at-lt marks i) (none (record { 0 = i })) ∙ sym (bit_at-zero i))

pub zero_marks : (marks : ℕ) → marks ≡ 0 → (a : App) → is_marked (record { marks = marks }) a ≡ false
zero_marks marks zero a = ap (λ m. is_marked (record { marks = m }) a) zero ∙ marked_none a

-- the test for 0
pub is_zero : (b : ℕ) → IsTrue (nat_eq b 0) → b ≡ 0
is_zero b h = grind (arith, nat_tests)

-- marked in both
pub marked_both : (b c : ℕ) (a : App) → is_marked (record { marks = bit_and b c }) a ≡ (is_marked (record { marks = b }) a && is_marked (record { marks = c }) a)
unfolding is_marked
marked_both b c a = ap (λ v. v == 1) (bit_at_and b c a.0) ∙ lesser (bit_at b a.0) (bit_at c a.0) (bit_at-lt b a.0) (bit_at-lt c a.0)
  where
    lesser : (v w : ℕ) → v < 2 → w < 2 → (min v w == 1) ≡ (v == 1 && w == 1)
    lesser v w p q = elim (cases_lt v 1) [
      | inl none ↦ let e : v ≡ 0 = omega (arith, none) in rw e (ap (λ m. m == 1) (zero_min w))
      | inr some ↦ let e : v ≡ 1 = omega (arith, some, p) in rw e (ap (λ m. m == 1) (one_min w q))
    ]
      where
        zero_min : (w : ℕ) → min 0 w ≡ 0
        zero_min w = omega arith

        one_min : (w : ℕ) → w < 2 → min 1 w ≡ w
        one_min w q = omega (arith, q)
