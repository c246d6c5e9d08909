-- Commands that are counted one after the other.
use Rattle.std.proofs.Common.{◌≡◌, ◌≤◌, ◌+◌, ℕ, List, [], ◌∷◌, ◌++◌, length, filter, Bool, true, false, not, cond, refl, sym, ap, ◌∙◌, arith}
use Rattle.std.proofs.lemmas.List.{length-append}
use Rattle.std.proofs.lemmas.List.Elements.{filter-append}
use Rattle.rh_verify.specs.declared.tally.Tally.{Tally}
use Rattle.rh_verify.specs.Expected.{Check, is_checked}
use Rattle.rh_verify.specs.Blocks.{holds}
use Rattle.rh_verify.specs.Counts.{tally_of}
use Rattle.rh_verify.specs.Judging.{one_if, with_verdict, verdict_on, with_checks}

filtered : {X : Type 0} (p : X → Bool) (xs ys : List X) → length (filter p xs) + length (filter p ys) ≡ length (filter p (xs ++ ys))
filtered p xs ys = sym (ap length (filter-append p xs ys) ∙ length-append (filter p xs) (filter p ys))

pub filter_bound : {X : Type 0} (p : X → Bool) (xs : List X) → length (filter p xs) ≤ length xs
filter_bound p [] = omega arith
filter_bound p (x ∷ xs) = by (p x) (filter_bound p xs)
  where
    by : (b : Bool) → length (filter p xs) ≤ length xs → length (cond b (x ∷ filter p xs) (filter p xs)) ≤ length (x ∷ xs)
    by true rest = omega (arith, rest)
    by false rest = omega (arith, rest)

-- the commands that were counted, and more
pub counted_more : (done more : List Check) → with_checks (tally_of done) more ≡ tally_of (done ++ more)
counted_more done more = λ i. record {
  commands = sym (length-append done more) i;
  checked = filtered is_checked done more i;
  differing = filtered (λ x. not (holds x)) done more i;
}

-- one of them
pub counted_one : (t : Tally) (x : Check) → with_verdict t (verdict_on x) ≡ with_checks t (x ∷ [])
counted_one t x = λ i. record {
  commands = t.commands + 1;
  checked = t.checked + one (is_checked x) i;
  differing = t.differing + one (not (holds x)) i;
}
  where
    one : (b : Bool) → one_if b ≡ length (cond b (x ∷ []) [])
    one true = refl
    one false = refl

-- none
pub counted_none : (t : Tally) → t ≡ with_checks t []
counted_none t = λ i. record { commands = none t.commands i; checked = none t.checked i; differing = none t.differing i }
  where
    none : (n : ℕ) → n ≡ n + 0
    none n = omega arith

-- none of the counts is more than the commands are
pub within : (done : List Check) (t : Tally) (n : ℕ) → t ≡ tally_of done → length done ≤ n
    → (t.commands ≤ n) × (t.checked ≤ n) × (t.differing ≤ n)
within done t n is few = (
  omega (arith, ap (λ (u : Tally). u.commands) is, few),
  omega (arith, ap (λ (u : Tally). u.checked) is, filter_bound is_checked done, few),
  omega (arith, ap (λ (u : Tally). u.differing) is, filter_bound (λ x. not (holds x)) done, few),
)
