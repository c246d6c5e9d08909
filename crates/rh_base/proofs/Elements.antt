-- Tests, options and the elements of lists: nothing here speaks of clusters.
use Rattle.std.proofs.Common.{◌≡◌, ◌<◌, ◌+◌, ◌-◌, ◌||◌, ◌&&◌, ℕ, zero, suc, Bool, true, false, cond}
use Rattle.std.proofs.Common.{List, [], ◌∷◌, ◌++◌, map, flat_map, take, drop, length, get_or, position, slice_get, nat_lt}
use Rattle.std.proofs.Common.{Option, Some, None, option_map, unwrap_or, is_some, refl, sym, ap, ◌∙◌, subst, arith}
use Rattle.std.specs.Prelude.{All, AllPairs, IsSome}
use Rattle.std.specs.List.{filter_map, cons_option, find, range_with_len}
use Rattle.std.specs.Option.{option_or}
use Rattle.std.proofs.lemmas.Bool.Decides.{nat_tests}
use Rattle.std.proofs.lemmas.List.{take_more, map_more, drop_more, map-append, take-append-drop}
use Rattle.std.proofs.lemmas.List.Elements.{All-nil, All-cons, All-head, All-tail}
use Rattle.std.proofs.lemmas.List.FromFn.{length-range_with_len, get_or-range_with_len}
use Rattle.std.proofs.lemmas.List.Kept.{AllPairs-cons}
use Rattle.std.proofs.lemmas.List.Quantifiers.{position-Some}
use Rattle.std.proofs.lemmas.Option.{same_Some, slice_get-map, slice_get-get_or, get_or_from_slice_get}

-- ---- tests

pub or_false : (a b : Bool) → (a || b) ≡ false → b ≡ false
or_false true b h = cc
or_false false b h = h

pub or_true : (b c : Bool) → c ≡ true → (b || c) ≡ true
or_true true c h = refl
or_true false c h = h

pub and_false : (b c : Bool) → false ≡ c → false ≡ (b && c)
and_false true c h = h
and_false false c h = refl

-- ---- lists without elements

pub none_left : {A : Type 0} (xs ys : List A) → xs ++ ys ≡ [] → xs ≡ []
none_left [] ys h = refl
none_left (x ∷ xs) ys h = cc

pub none_right : {A : Type 0} (xs ys : List A) → xs ++ ys ≡ [] → ys ≡ []
none_right [] ys h = h
none_right (x ∷ xs) ys h = cc

-- nothing comes of any element
pub none_each : {A B : Type 0} (f : A → List B) (xs : List A) → flat_map f xs ≡ [] → All (λ x. f x ≡ []) xs
none_each f [] h = All-nil (λ x. f x ≡ [])
none_each f (x ∷ xs) h =
    All-cons (λ x. f x ≡ []) x xs (none_left (f x) (flat_map f xs) h) (none_each f xs (none_right (f x) (flat_map f xs) h))

-- ---- numbers in order

-- the first number of a range, and the others
pub range_more : (n m : ℕ) → n < m → range_with_len n (m - n) ≡ n ∷ range_with_len (n + 1) (m - (n + 1))
range_more n m h = let e : m - n ≡ suc (m - (n + 1)) = omega arith in ap (range_with_len n) e

-- a number that doesn't pass is passed over
pub passed_over : (p : ℕ → Bool) (n m : ℕ) → n < m → p n ≡ false
    → find p (range_with_len (n + 1) (m - (n + 1))) ≡ find p (range_with_len n (m - n))
passed_over p n m h absent =
    sym (ap (find p) (range_more n m h) ∙ ap (λ b. cond b (Some n) (find p (range_with_len (n + 1) (m - (n + 1))))) absent)

-- a number of which nothing comes is passed over
pub number_passes : {A : Type 0} (f : ℕ → List A) (n m : ℕ) → n < m → f n ≡ []
    → flat_map f (range_with_len (n + 1) (m - (n + 1))) ≡ flat_map f (range_with_len n (m - n))
number_passes f n m h here =
    sym (ap (flat_map f) (range_more n m h) ∙ ap (λ xs. xs ++ flat_map f (range_with_len (n + 1) (m - (n + 1)))) here)

-- nothing comes of each number below a limit
pub none_below : {A : Type 0} (f : ℕ → List A) (m i : ℕ) → flat_map f (range_with_len 0 m) ≡ [] → i < m → f i ≡ []
none_below f m i h inside =
    let long = length-range_with_len 0 m in
    let there : get_or (range_with_len 0 m) i 0 ≡ i = omega (arith, get_or-range_with_len 0 m i 0 inside) in
    subst (λ k. f k ≡ []) there (none_each f (range_with_len 0 m) h i 0 (omega arith))

-- ---- what a map gives

-- up to one more place
pub map_more_at : {A B : Type 0} (f : A → B) (xs : List A) (n : ℕ) (a : A) → n < length xs → slice_get xs n ≡ Some a
    → map f (take (n + 1) xs) ≡ map f (take n xs) ++ f a ∷ []
map_more_at f xs n a inside is =
    ap (map f) (take_more xs n a inside ∙ ap (λ t. take n xs ++ t ∷ []) (get_or_from_slice_get xs n a a is))
    ∙ map-append f (take n xs) (a ∷ [])

-- what holds of f at each element holds of each element of what it gives
pub at_mapped : {A B : Type 0} (f : A → B) (P : B → Type 0) → ((x : A) → P (f x)) → (o : Option A) (v : B) → option_map f o ≡ Some v → P v
at_mapped f P each None v h = cc
at_mapped f P each (Some x) v h = let is : f x ≡ v = cc in subst P is (each x)

-- the same of a list in an element
pub in_mapped : {A B C : Type 0} (f : A → B) (g : B → List C) (P : C → Type 0) → ((x : A) → All P (g (f x))) → (xs : List A) (i : ℕ)
    → All P (unwrap_or (option_map g (slice_get (map f xs) i)) [])
in_mapped f g P each xs i =
    subst (λ o. All P (unwrap_or (option_map g o) [])) (sym (slice_get-map f xs i)) (by (slice_get xs i))
  where
    by : (o : Option _) → All P (unwrap_or (option_map g (option_map f o)) [])
    by None = All-nil P
    by (Some x) = each x

-- what holds of what g makes of each element holds of what it makes of the one at a place
pub at_place : {A B C : Type 0} (P : A → Type 0) (f : A → B) (g : B → List C) (Q : List C → Type 0) → Q []
    → ((x : A) → P x → Q (g (f x))) → (xs : List A) → All P xs → (i : ℕ) → Q (unwrap_or (option_map g (slice_get (map f xs) i)) [])
at_place P f g Q nothing each [] all i = nothing
at_place P f g Q nothing each (x ∷ xs) all zero = each x (All-head P x xs all)
at_place P f g Q nothing each (x ∷ xs) all (suc i) = at_place P f g Q nothing each xs (All-tail P x xs all) i

-- ---- elements that may be missing

pub All-cons_option : {A : Type 0} (P : A → Type 0) (o : Option A) (xs : List A) → ((x : A) → o ≡ Some x → P x) → All P xs → All P (cons_option o xs)
All-cons_option P None xs each rest = rest
All-cons_option P (Some x) xs each rest = All-cons P x xs (each x refl) rest

pub AllPairs-cons_option : {A : Type 0} (R : A → A → Type 0) (o : Option A) (xs : List A) → ((x : A) → o ≡ Some x → All (R x) xs)
    → AllPairs R xs → AllPairs R (cons_option o xs)
AllPairs-cons_option R None xs each rest = rest
AllPairs-cons_option R (Some x) xs each rest = AllPairs-cons R x xs (each x refl) rest

pub cons_option-map : {A B : Type 0} (f : A → B) (o : Option A) (xs : List A) → cons_option (option_map f o) (map f xs) ≡ map f (cons_option o xs)
cons_option-map f None xs = refl
cons_option-map f (Some x) xs = refl

-- what holds of each value that f gives holds of all that it gives
pub All-filter_map : {A B : Type 0} (P : B → Type 0) (f : A → Option B) → ((x : A) (y : B) → f x ≡ Some y → P y) → (xs : List A) → All P (filter_map f xs)
All-filter_map P f each [] = All-nil P
All-filter_map P f each (x ∷ xs) = All-cons_option P (f x) (filter_map f xs) (each x) (All-filter_map P f each xs)

-- ---- options

-- from one of two
pub from_either : {A : Type 0} {P : Type 0} (o p : Option A) (v : A) → (o ≡ Some v → P) → (p ≡ Some v → P) → option_or o p ≡ Some v → P
from_either None p v f g h = g h
from_either (Some w) p v f g h = f h

-- what holds of the one and of the other holds of the one that is chosen
pub one_of : {A : Type 0} (b : Bool) (x : A) (o : Option A) (v : A) (Q : A → Type 0) → Q x → (o ≡ Some v → Q v) → cond b (Some x) o ≡ Some v → Q v
one_of true x o v Q here rest h = subst Q (same_Some x v h) here
one_of false x o v Q here rest h = rest h

-- ---- the first place

pub placed : (n m k : ℕ) → n ≡ k → k < m → cond (nat_lt n m) (Some n) None ≡ Some k
placed n m k e l = grind (arith, nat_tests)

-- what holds of f at each place of a list holds of f at the place that is found
pub at_position : {A B : Type 0} (p : A → Bool) (xs : List A) (d : A) (f : ℕ → B) (P : B → Type 0) → ((i : ℕ) → i < length xs → P (f i))
    → (o : Option ℕ) → position p xs ≡ o → (v : B) → option_map f o ≡ Some v → P v
at_position p xs d f P each None e v h = cc
at_position p xs d f P each (Some i) e v h = let is : f i ≡ v = cc in subst P is (each i (position-Some p xs i d e).0)

-- a place of a list has an element
pub some_inside : {A : Type 0} (xs : List A) (i : ℕ) (d : A) → i < length xs → IsSome (slice_get xs i)
some_inside xs i d inside = ap is_some (slice_get-get_or xs i d inside)

-- a list that ends with an element isn't empty
pub append-cons_not_empty : {A : Type 0} (xs : List A) (x : A) → xs ++ x ∷ [] ≡ [] → true ≡ false
append-cons_not_empty [] x h = cc
append-cons_not_empty (y ∷ xs) x h = cc

-- where the element at i is x
module _ {A B : Type 0} (f : A → B) (xs : List A) (i : ℕ) (x : A) (inside : i < length xs) (is : x ≡ get_or xs i x) where
  pub map-take_more : map f (take (i + 1) xs) ≡ map f (take i xs) ++ f x ∷ []
  map-take_more = map_more f xs i x inside ∙ ap (λ y. map f (take i xs) ++ f y ∷ []) (sym is)

  pub map-around : map f xs ≡ map f (take i xs) ++ f x ∷ map f (drop (i + 1) xs)
  map-around =
      ap (map f) (sym (take-append-drop i xs)) ∙ map-append f (take i xs) (drop i xs)
      ∙ ap (λ ys. map f (take i xs) ++ map f ys) (drop_more xs i x inside)
      ∙ ap (λ y. map f (take i xs) ++ f y ∷ map f (drop (i + 1) xs)) (sym is)
