-- Elements of lists by their places.
use Rattle.std.proofs.Common.{◌≡◌, ◌<◌, ℕ, zero, suc, List, [], ◌∷◌, ◌++◌, length, get_or, map, slice_get, Some, All, AllPairs, refl, sym, ap, ◌∙◌, subst, arith}
use Rattle.std.proofs.lemmas.Option.{slice_get_within, slice_get-get_or, get_or_from_slice_get, none-some, same_Some}

-- what stands before what is added
pub at_front : {A : Type 0} (xs ys : List A) (k : ℕ) → k < length xs → slice_get (xs ++ ys) k ≡ slice_get xs k
at_front [] ys k l = absurd (omega arith)
at_front (x ∷ xs) ys zero l = refl
at_front (x ∷ xs) ys (suc k) l = at_front xs ys k (omega arith)

-- what holds of all holds of one
pub at_of : {A : Type 0} (P : A → Type 0) (xs : List A) (k : ℕ) (x : A) → All P xs → slice_get xs k ≡ Some x → P x
at_of P xs k x all at = subst P (get_or_from_slice_get xs k x x at) (all k x (slice_get_within xs k x at))

-- and what holds of each and each later one, of two
pub pair_of : {A : Type 0} (R : A → A → Type 0) (xs : List A) (i j : ℕ) (x y : A) → AllPairs R xs → i < j
    → slice_get xs i ≡ Some x → slice_get xs j ≡ Some y → R x y
pair_of R xs i j x y pairs l ax ay =
    subst (λ b. R x b) (get_or_from_slice_get xs j y x ay)
    (subst (λ a. R a (get_or xs j x)) (get_or_from_slice_get xs i x x ax) (pairs i j x l (slice_get_within xs j y ay)))

-- an element that was read stands at its place
pub there_of : {A : Type 0} (xs : List A) (k : ℕ) (x : A) → k < length xs → x ≡ get_or xs k x → slice_get xs k ≡ Some x
there_of xs k x l e = slice_get-get_or xs k x l ∙ ap Some (sym e)

-- what holds of each that stands somewhere holds of all
pub all_of : {A : Type 0} (P : A → Type 0) (xs : List A) → ((k : ℕ) (x : A) → slice_get xs k ≡ Some x → P x) → All P xs
all_of P xs each k d l = each k (get_or xs k d) (slice_get-get_or xs k d l)

-- an element of a mapped list comes of one that stands at its place
pub mapped_from : {A B : Type 0} (f : A → B) (xs : List A) (k : ℕ) (y : B) → slice_get (map f xs) k ≡ Some y → (x : A) × (slice_get xs k ≡ Some x) × (f x ≡ y)
mapped_from f [] k y h = absurd (none-some y h)
mapped_from f (x ∷ xs) zero y h = (x, refl, same_Some (f x) y h)
mapped_from f (x ∷ xs) (suc k) y h = mapped_from f xs k y h
