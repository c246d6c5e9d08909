-- Findings that tie in the order stand beside one another.
use Rattle.std.proofs.Common.{◌≡◌, ◌==◌, ℕ, List, Bool, true, false, filter, not, ◌&&◌, refl, if◌then◌else◌, arith, nat_lt, Less, Equal, Greater}
use Rattle.std.proofs.lemmas.Bool.Decides.{nat_tests}
use Rattle.std.proofs.lemmas.List.Elements.{filter_agree}
use Rattle.std.specs.Ordering.{nat_cmp, is_lt}
use Rattle.std.specs.List.Sorted.{ties}
use Rattle.rh_findings.specs.declared.finding.Finding.{Finding}
use Rattle.rh_findings.specs.Order.{place, beside}

tie_of : (m n : ℕ) (less greater same : Bool) → less ≡ nat_lt m n → greater ≡ nat_lt n m → same ≡ (n == m) → not less && not greater ≡ same
tie_of m n less greater same a b c = grind (arith, nat_tests)

chosen : (b e : Bool) → is_lt (if b then Less else (if e then Equal else Greater)) ≡ b
chosen true e = refl
chosen false true = refl
chosen false false = refl

numbers_tie : (m n : ℕ) → not (is_lt (nat_cmp m n)) && not (is_lt (nat_cmp n m)) ≡ (n == m)
numbers_tie m n = tie_of m n _ _ _ (chosen (nat_lt m n) (m == n)) (chosen (nat_lt n m) (n == m)) refl

pub beside_as_ties : (f : Finding) (fs : List Finding) → filter (ties (λ x y. is_lt (nat_cmp (place x) (place y))) f) fs ≡ beside f fs
beside_as_ties f fs = filter_agree _ _ (λ g. numbers_tie (place f) (place g)) fs
