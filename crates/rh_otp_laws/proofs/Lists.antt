-- What stands in a list that was filtered or joined from two.
use Rattle.std.proofs.Common.{◌≡◌, ◌⊎◌, ◌++◌, ℕ, zero, suc, Bool, true, false, cond, List, [], ◌∷◌, filter, slice_get, Some, refl, sym, ap, ◌∙◌, inl, inr}
use Rattle.std.specs.List.{list_any}
use Rattle.std.proofs.lemmas.Bool.{or_left, or_right, false≢true}
use Rattle.std.proofs.lemmas.Option.{none-some, same_Some}

-- it stands in the list
abbrev pub IsAt : {A : Type 0} → A → List A → Type 0
IsAt x xs = (place : ℕ) × (slice_get xs place ≡ Some x)

pub behind_it : {A : Type 0} (x y : A) (xs : List A) → IsAt x xs → IsAt x (y ∷ xs)
behind_it x y xs at = (suc at.0, at.1)

filtered_by : {A : Type 0} (p : A → Bool) (b : Bool) (x y : A) (xs : List A) → p y ≡ b → IsAt x (cond b (y ∷ filter p xs) (filter p xs))
    → (IsAt x (filter p xs) → IsAt x xs × (p x ≡ true)) → IsAt x (y ∷ xs) × (p x ≡ true)
filtered_by p true x y xs is (zero, at) rest = ((0, at), ap p (sym (same_Some y x at)) ∙ is)
filtered_by p true x y xs is (suc place, at) rest =
    let more : IsAt x xs × (p x ≡ true) = rest (place, at) in
    (behind_it x y xs more.0, more.1)
filtered_by p false x y xs is at rest =
    let more : IsAt x xs × (p x ≡ true) = rest at in
    (behind_it x y xs more.0, more.1)

-- what a filter keeps stands in the list, and passes
pub filtered : {A : Type 0} (p : A → Bool) (x : A) (xs : List A) → IsAt x (filter p xs) → IsAt x xs × (p x ≡ true)
filtered p x [] at = absurd (none-some x at.1)
filtered p x (y ∷ xs) at = filtered_by p (p y) x y xs refl at (filtered p x xs)

kept_here : {A : Type 0} (p : A → Bool) (b : Bool) (x y : A) (xs : List A) → p y ≡ b → Some y ≡ Some x → p x ≡ true
    → IsAt x (cond b (y ∷ filter p xs) (filter p xs))
kept_here p true x y xs is at passes = (0, at)
kept_here p false x y xs is at passes = absurd (false≢true (sym is ∙ ap p (same_Some y x at) ∙ passes))

kept_behind : {A : Type 0} (p : A → Bool) (b : Bool) (x y : A) (xs : List A) → IsAt x (filter p xs)
    → IsAt x (cond b (y ∷ filter p xs) (filter p xs))
kept_behind p true x y xs at = behind_it x y (filter p xs) at
kept_behind p false x y xs at = at

-- and keeps what passes
pub kept : {A : Type 0} (p : A → Bool) (x : A) (xs : List A) (place : ℕ) → slice_get xs place ≡ Some x → p x ≡ true → IsAt x (filter p xs)
kept p x [] place at passes = absurd (none-some x at)
kept p x (y ∷ xs) zero at passes = kept_here p (p y) x y xs refl at passes
kept p x (y ∷ xs) (suc place) at passes = kept_behind p (p y) x y xs (kept p x xs place at passes)

-- what stands in two lists, joined, stands in one of them
pub in_either : {A : Type 0} (x : A) (xs ys : List A) (place : ℕ) → slice_get (xs ++ ys) place ≡ Some x → IsAt x xs ⊎ IsAt x ys
in_either x [] ys place at = inr (place, at)
in_either x (y ∷ xs) ys zero at = inl (0, at)
in_either x (y ∷ xs) ys (suc place) at =
    elim (in_either x xs ys place at) [ inl there ↦ inl (behind_it x y xs there) | inr there ↦ inr there ]

pub in_first : {A : Type 0} (x : A) (xs ys : List A) (place : ℕ) → slice_get xs place ≡ Some x → IsAt x (xs ++ ys)
in_first x [] ys place at = absurd (none-some x at)
in_first x (y ∷ xs) ys zero at = (0, at)
in_first x (y ∷ xs) ys (suc place) at = behind_it x y (xs ++ ys) (in_first x xs ys place at)

pub in_second : {A : Type 0} (x : A) (xs ys : List A) → IsAt x ys → IsAt x (xs ++ ys)
in_second x [] ys at = at
in_second x (y ∷ xs) ys at = behind_it x y (xs ++ ys) (in_second x xs ys at)

-- where an element passes, any does
pub passes_any : {A : Type 0} (p : A → Bool) (x : A) (xs : List A) (place : ℕ) → slice_get xs place ≡ Some x → p x ≡ true
    → list_any p xs ≡ true
passes_any p x [] place at passes = absurd (none-some x at)
passes_any p x (y ∷ xs) zero at passes = or_left (p y) (list_any p xs) (ap p (same_Some y x at) ∙ passes)
passes_any p x (y ∷ xs) (suc place) at passes = or_right (p y) (list_any p xs) (passes_any p x xs place at passes)
