-- Small facts of truth values, of numbers that are compared, and of values that may be missing.
use Rattle.std.proofs.Common.{◌≡◌, ◌||◌, ℕ, nat_eq, Bool, true, false, Option, Some, refl, arith}
use Rattle.std.proofs.lemmas.Bool.Decides.{nat_tests}

pub both : {P : Type 0} (p : Bool) → p ≡ true → p ≡ false → P
both p t f = cc

pub or_left : (p q : Bool) → p ≡ true → p || q ≡ true
or_left true q h = refl
or_left false q h = cc

pub or_right : (p q : Bool) → q ≡ true → p || q ≡ true
or_right true q h = refl
or_right false q h = h

pub same_refl : (n : ℕ) → nat_eq n n ≡ true
same_refl n = grind (arith, nat_tests)

pub same_number : (i j : ℕ) → nat_eq i j ≡ true → i ≡ j
same_number i j t = grind (arith, nat_tests)

pub same_some : {A : Type 0} (x y : A) → Some x ≡ Some y → x ≡ y
same_some x y e = cc
