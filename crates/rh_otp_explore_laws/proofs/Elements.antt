-- Elements of lists that are made of others.
use Rattle.std.proofs.Common.{◌≡◌, ◌≤◌, ◌+◌, ◌-◌, ◌++◌, ◌⊎◌, inl, inr, ℕ, zero, suc, Bool, true, false, cond, List, [], ◌∷◌, length, take, Option, Some, None, refl, sym, ap, ◌∙◌, subst, arith}
use Rattle.std.specs.Prelude.{All}
use Rattle.std.specs.List.{Contains, flat_map, filter_map, cons_option, find}
use Rattle.std.proofs.lemmas.List.Elements.{All-nil, All-cons, All-head, All-tail, All-append, Contains-append_left, Contains-append_right}
use Rattle.std.proofs.lemmas.Option.{same_Some}
use Rattle.std.proofs.Math.Seq.{take-append-add}

-- ---- all elements

-- what holds of all that comes of each element holds of all that comes of them
pub all_of_each : {A B : Type 0} (P : B → Type 0) (f : A → List B) (xs : List A) → All (λ x. All P (f x)) xs → All P (flat_map f xs)
all_of_each P f [] all = All-nil P
all_of_each P f (x ∷ xs) all =
    All-append P (f x) (flat_map f xs) (All-head (λ y. All P (f y)) x xs all) (all_of_each P f xs (All-tail (λ y. All P (f y)) x xs all))

module _ {A B : Type 0} (Q : A → Type 0) (P : B → Type 0) (f : A → Option B) (so : (x : A) (y : B) → Q x → f x ≡ Some y → P y) where
  with_first : (x : A) (o : Option B) (rest : List B) → Q x → f x ≡ o → All P rest
      → All P (cons_option o rest)
  with_first x None rest q is all = all
  with_first x (Some y) rest q is all = All-cons P y rest (so x y q is) all

  -- what holds of each value that comes of an element holds of all that come
  pub all_that_come : (xs : List A) → All Q xs → All P (filter_map f xs)
  all_that_come [] all = All-nil P
  all_that_come (x ∷ xs) all =
      with_first x (f x) (filter_map f xs) (All-head Q x xs all) refl (all_that_come xs (All-tail Q x xs all))

-- ---- an element

contains_first : {A : Type 0} (x : A) (xs : List A) → Contains (x ∷ xs) x
contains_first x xs = (0, omega arith, refl)

-- an element is the first one, or one of the others
pub first_or_later : {A : Type 0} (y : A) (xs : List A) (x : A) → Contains (y ∷ xs) x → (y ≡ x) ⊎ Contains xs x
first_or_later y xs x (zero, inside, is) = inl is
first_or_later y xs x (suc k, inside, is) = inr (k, omega (arith, inside), is)

-- what comes of an element is among what comes of all
pub among_each : {A B : Type 0} (f : A → List B) (xs : List A) (x : A) (y : B) → Contains xs x → Contains (f x) y → Contains (flat_map f xs) y
among_each f [] x y there of = absurd (omega (arith, there.1))
among_each f (z ∷ xs) x y there of = by (first_or_later z xs x there) (λ later. among_each f xs x y later of)
  where
    by : (z ≡ x) ⊎ Contains xs x → (Contains xs x → Contains (flat_map f xs) y) → Contains (f z ++ flat_map f xs) y
    by (inl is) rest = Contains-append_left (f z) (flat_map f xs) y (subst (λ u. Contains (f u) y) (sym is) of)
    by (inr later) rest = Contains-append_right (f z) (flat_map f xs) y (rest later)

pub among_values : {A B : Type 0} (f : A → Option B) (xs : List A) (x : A) (y : B) → Contains xs x → f x ≡ Some y → Contains (filter_map f xs) y
among_values f [] x y there is = absurd (omega (arith, there.1))
among_values {A} {B} f (z ∷ xs) x y there is = by (first_or_later z xs x there) (λ later. among_values f xs x y later is)
  where
    here : (o : Option B) → o ≡ Some y → Contains (cons_option o (filter_map f xs)) y
    here o has = subst (λ o'. Contains (cons_option o' (filter_map f xs)) y) (sym has) (contains_first y (filter_map f xs))

    past : (o : Option B) → Contains (filter_map f xs) y → Contains (cons_option o (filter_map f xs)) y
    past None later = later
    past (Some u) later = Contains-append_right (u ∷ []) (filter_map f xs) y later

    by : (z ≡ x) ⊎ Contains xs x → (Contains xs x → Contains (filter_map f xs) y) → Contains (filter_map f (z ∷ xs)) y
    by (inl same) rest = here (f z) (ap f same ∙ is)
    by (inr later) rest = past (f z) (rest later)

-- what is among the first elements is among more of them
pub among_more : {A : Type 0} (xs ys : List A) (n : ℕ) (x : A) → length xs ≤ n → Contains xs x → Contains (take n (xs ++ ys)) x
among_more xs ys n x enough there =
    let same : length xs + (n - length xs) ≡ n = omega (arith, enough) in
    let taken : take n (xs ++ ys) ≡ xs ++ take (n - length xs) ys =
    ap (λ (k : ℕ). take k (xs ++ ys)) (sym same) ∙ take-append-add xs ys (n - length xs) in
    subst (λ l. Contains l x) (sym taken) (Contains-append_left xs (take (n - length xs) ys) x there)

-- ---- the first element that passes

module _ {A : Type 0} (p : A → Bool) where
  -- none does where none is found
  pub none_passes : (xs : List A) → find p xs ≡ None → (x : A) → Contains xs x → p x ≡ false
  none_passes [] none x there = absurd (omega (arith, there.1))
  none_passes (y ∷ xs) none x there = by (p y) refl none (first_or_later y xs x there) (λ rest later. none_passes xs rest x later)
    where
      by : (b : Bool) → p y ≡ b → cond b (Some y) (find p xs) ≡ None → (y ≡ x) ⊎ Contains xs x
          → (find p xs ≡ None → Contains xs x → p x ≡ false) → p x ≡ false
      by true is some at others = cc
      by false is rest (inl same) others = ap p (sym same) ∙ is
      by false is rest (inr later) others = others rest later

  -- the one that is found is among them, and passes
  pub found_passes : (xs : List A) (x : A) → find p xs ≡ Some x → Contains xs x × (p x ≡ true)
  found_passes [] x found = cc
  found_passes (y ∷ xs) x found = by (p y) refl found (found_passes xs x)
    where
      by : (b : Bool) → p y ≡ b → cond b (Some y) (find p xs) ≡ Some x → (find p xs ≡ Some x → Contains xs x × (p x ≡ true))
          → Contains (y ∷ xs) x × (p x ≡ true)
      by true is here others =
          let same : y ≡ x = same_Some y x here in
          (subst (Contains (y ∷ xs)) same (contains_first y xs), ap p (sym same) ∙ is)
      by false is rest others =
          let later = others rest in
          (Contains-append_right (y ∷ []) xs x later.0, later.1)
