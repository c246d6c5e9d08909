-- Lists with the same elements in another order: what stands together of each place, and what each place has of each kind.
use Rattle.std.proofs.Common.{◌≡◌, ◌++◌, ◌&&◌, ℕ, suc, Bool, true, false, cond, List, [], ◌∷◌, filter, map, refl, sym, ap, subst, ◌∙◌, append_assoc, arith}
use Rattle.std.specs.List.{flat_map}
use Rattle.std.specs.Prelude.{All}
use Rattle.std.proofs.lemmas.List.{map-append}
use Rattle.std.proofs.lemmas.List.Elements.{All-head, All-tail}
use Rattle.std.specs.List.Sorted.{IsPermutation}
use Rattle.std.proofs.lemmas.List.Sorted.{IsPermutation-refl, IsPermutation-sym, IsPermutation-trans, IsPermutation-cons, IsPermutation-append, IsPermutation-append_left, IsPermutation-append_right, IsPermutation-append_comm, IsPermutation-middle}

-- ---- pieces

-- a list is changed in front of another one
swapped : {B : Type 0} (xs ys zs : List B) → IsPermutation (xs ++ (ys ++ zs)) (ys ++ (xs ++ zs))
swapped xs ys zs =
    subst (λ l. IsPermutation l (ys ++ (xs ++ zs))) (append_assoc xs ys zs)
    (subst (IsPermutation ((xs ++ ys) ++ zs)) (append_assoc ys xs zs)
    (IsPermutation-append_left zs (xs ++ ys) (ys ++ xs) (IsPermutation-append_comm xs ys)))

-- what two functions give, each of all, or both of each
pub zipped : {A B : Type 0} (f g : A → List B) (xs : List A)
    → IsPermutation (flat_map f xs ++ flat_map g xs) (flat_map (λ x. f x ++ g x) xs)
zipped f g [] = IsPermutation-refl []
zipped f g (x ∷ xs) =
    subst (λ l. IsPermutation l ((f x ++ g x) ++ flat_map (λ y. f y ++ g y) xs))
    (sym (append_assoc (f x) (flat_map f xs) (g x ++ flat_map g xs)))
    (subst (λ l. IsPermutation (f x ++ (flat_map f xs ++ (g x ++ flat_map g xs))) l)
    (sym (append_assoc (f x) (g x) (flat_map (λ y. f y ++ g y) xs)))
    (IsPermutation-append_right (f x) (flat_map f xs ++ (g x ++ flat_map g xs)) (g x ++ flat_map (λ y. f y ++ g y) xs)
    (IsPermutation-trans _ _ _ (swapped (flat_map f xs) (g x) (flat_map g xs))
    (IsPermutation-append_right (g x) (flat_map f xs ++ flat_map g xs) (flat_map (λ y. f y ++ g y) xs) (zipped f g xs)))))

-- what each gives may stand in another order
pub each_permuted : {A B : Type 0} (P : A → Type 0) (f g : A → List B) → ((x : A) → P x → IsPermutation (f x) (g x)) → (xs : List A)
    → All P xs → IsPermutation (flat_map f xs) (flat_map g xs)
each_permuted P f g same [] all = IsPermutation-refl []
each_permuted P f g same (x ∷ xs) all =
    IsPermutation-append (f x) (g x) (flat_map f xs) (flat_map g xs) (same x (All-head P x xs all))
    (each_permuted P f g same xs (All-tail P x xs all))

-- ---- by places

-- how many pass the test
abbrev pub passing : {A : Type 0} → (A → Bool) → List A → ℕ
passing p [] = 0
passing p (x ∷ xs) = cond (p x) (suc (passing p xs)) (passing p xs)

module _ {A B : Type 0} (q : A → B → Bool) where
  abbrev of_each : List B → List A → List B
  of_each xs places = flat_map (λ m. filter (q m) xs) places

  -- no place has it
  none_more : (x : B) (xs : List B) (places : List A) → passing (λ m. q m x) places ≡ 0 → of_each (x ∷ xs) places ≡ of_each xs places
  none_more x xs [] none = refl
  none_more x xs (m ∷ places) none = by (q m x) none (none_more x xs places)
    where
      by : (b : Bool) → cond b (suc (passing (λ k. q k x) places)) (passing (λ k. q k x) places) ≡ 0
          → (passing (λ k. q k x) places ≡ 0 → of_each (x ∷ xs) places ≡ of_each xs places)
          → cond b (x ∷ filter (q m) xs) (filter (q m) xs) ++ of_each (x ∷ xs) places ≡ filter (q m) xs ++ of_each xs places
      by true some rest = absurd (omega (arith, some))
      by false is rest = ap (λ l. filter (q m) xs ++ l) (rest is)

  -- one place has it, once
  one_more : (x : B) (xs : List B) (places : List A) → passing (λ m. q m x) places ≡ 1
      → IsPermutation (x ∷ of_each xs places) (of_each (x ∷ xs) places)
  one_more x xs [] none = absurd (omega (arith, none))
  one_more x xs (m ∷ places) one = by (q m x) one (one_more x xs places)
    where
      by : (b : Bool) → cond b (suc (passing (λ k. q k x) places)) (passing (λ k. q k x) places) ≡ 1
          → (passing (λ k. q k x) places ≡ 1 → IsPermutation (x ∷ of_each xs places) (of_each (x ∷ xs) places))
          → IsPermutation (x ∷ (filter (q m) xs ++ of_each xs places))
          (cond b (x ∷ filter (q m) xs) (filter (q m) xs) ++ of_each (x ∷ xs) places)
      by true here rest =
          subst (λ l. IsPermutation (x ∷ (filter (q m) xs ++ of_each xs places)) (x ∷ (filter (q m) xs ++ l)))
          (sym (none_more x xs places (omega (arith, here)))) (IsPermutation-refl _)
      by false later rest =
          IsPermutation-trans _ _ _ (IsPermutation-sym _ _ (IsPermutation-middle (filter (q m) xs) x (of_each xs places)))
          (IsPermutation-append_right (filter (q m) xs) (x ∷ of_each xs places) (of_each (x ∷ xs) places) (rest later))

  -- where each element belongs to one place, the list is what each place has of it, one behind the other
  pub by_places : (places : List A) (xs : List B) → All (λ (x : B). passing (λ m. q m x) places ≡ 1) xs
      → IsPermutation xs (flat_map (λ m. filter (q m) xs) places)
  by_places places [] all = subst (IsPermutation []) (sym (nothing places)) (IsPermutation-refl [])
    where
      nothing : (ms : List A) → of_each [] ms ≡ []
      nothing [] = refl
      nothing (m ∷ ms) = nothing ms
  by_places places (x ∷ xs) all =
      IsPermutation-trans _ _ _
      (IsPermutation-cons x xs (of_each xs places) (by_places places xs (All-tail (λ (y : B). passing (λ m. q m y) places ≡ 1) x xs all)))
      (one_more x xs places (All-head (λ (y : B). passing (λ m. q m y) places ≡ 1) x xs all))

-- ---- the same lists

-- what stands of each, the same
pub each_same : {A B : Type 0} (P : A → Type 0) (f g : A → List B) → ((x : A) → P x → f x ≡ g x) → (xs : List A) → All P xs
    → flat_map f xs ≡ flat_map g xs
each_same P f g same [] all = refl
each_same P f g same (x ∷ xs) all = λ i. same x (All-head P x xs all) i ++ each_same P f g same xs (All-tail P x xs all) i

pub map_same : {A B : Type 0} (f g : A → B) → ((x : A) → f x ≡ g x) → (xs : List A) → map f xs ≡ map g xs
map_same f g same [] = refl
map_same f g same (x ∷ xs) = λ i. same x i ∷ map_same f g same xs i

pub map_map : {A B C : Type 0} (g : B → C) (f : A → B) (xs : List A) → map g (map f xs) ≡ map (λ x. g (f x)) xs
map_map g f [] = refl
map_map g f (x ∷ xs) = ap (λ l. g (f x) ∷ l) (map_map g f xs)

pub map_flat : {A B C : Type 0} (g : B → C) (f : A → List B) (xs : List A) → map g (flat_map f xs) ≡ flat_map (λ x. map g (f x)) xs
map_flat g f [] = refl
map_flat g f (x ∷ xs) = map-append g (f x) (flat_map f xs) ∙ ap (λ l. map g (f x) ++ l) (map_flat g f xs)

-- one of each that passes
pub flat_if : {A B : Type 0} (p : A → Bool) (f : A → B) (xs : List A) → flat_map (λ x. cond (p x) (f x ∷ []) []) xs ≡ map f (filter p xs)
flat_if p f [] = refl
flat_if p f (x ∷ xs) = by (p x) (flat_if p f xs)
  where
    by : (b : Bool) → flat_map (λ y. cond (p y) (f y ∷ []) []) xs ≡ map f (filter p xs)
        → cond b (f x ∷ []) [] ++ flat_map (λ y. cond (p y) (f y ∷ []) []) xs ≡ map f (cond b (x ∷ filter p xs) (filter p xs))
    by true rest = ap (λ l. f x ∷ l) rest
    by false rest = rest

pub filter_same : {A : Type 0} (P : A → Type 0) (p q : A → Bool) → ((x : A) → P x → p x ≡ q x) → (xs : List A) → All P xs
    → filter p xs ≡ filter q xs
filter_same P p q same [] all = refl
filter_same P p q same (x ∷ xs) all =
    λ i. cond (same x (All-head P x xs all) i) (x ∷ filter_same P p q same xs (All-tail P x xs all) i)
    (filter_same P p q same xs (All-tail P x xs all) i)

pub filter_filter : {A : Type 0} (p q : A → Bool) (xs : List A) → filter q (filter p xs) ≡ filter (λ x. p x && q x) xs
filter_filter p q [] = refl
filter_filter p q (x ∷ xs) = by (p x) (filter_filter p q xs)
  where
    by : (b : Bool) → filter q (filter p xs) ≡ filter (λ y. p y && q y) xs
        → filter q (cond b (x ∷ filter p xs) (filter p xs))
        ≡ cond (b && q x) (x ∷ filter (λ y. p y && q y) xs) (filter (λ y. p y && q y) xs)
    by true rest = ap (λ l. cond (q x) (x ∷ l) l) rest
    by false rest = rest

-- of those that pass two functions give the same where they do so of each
pub map_passing : {A B : Type 0} (p : A → Bool) (f g : A → B) → ((x : A) → p x ≡ true → f x ≡ g x) → (xs : List A)
    → map f (filter p xs) ≡ map g (filter p xs)
map_passing p f g same [] = refl
map_passing p f g same (x ∷ xs) = by (p x) refl (map_passing p f g same xs)
  where
    by : (b : Bool) → p x ≡ b → map f (filter p xs) ≡ map g (filter p xs)
        → map f (cond b (x ∷ filter p xs) (filter p xs)) ≡ map g (cond b (x ∷ filter p xs) (filter p xs))
    by true is rest = λ i. same x is i ∷ rest i
    by false fails rest = rest
