-- The first of those with the fewest edits, with one name more.
use Rattle.std.proofs.Common.{nat_le, ◌≡◌, ◌≤◌, ◌<◌, ◌==◌, ◌⊎◌, inl, inr, ℕ, true, false, cond, List, [], ◌∷◌, ◌++◌, map, min, fold, Option, Some, None, refl, sym, ap, ◌∙◌, arith, append-nil, nat_lt, ◌+◌, length, get_or, take}
use Rattle.std.specs.List.{filter}
use Rattle.std.proofs.lemmas.Bool.Decides.{nat_tests}
use Rattle.std.proofs.lemmas.List.{map-append, take_more}
use Rattle.std.proofs.lemmas.List.Elements.{filter-append}
use Rattle.std.proofs.lemmas.List.Sums.{fold_push}
use Rattle.rh_base.specs.Lists.{lightest, head}
use Rattle.rh_base.proofs.Lists.{cases}
use Rattle.rh_term_lint.specs.Near.{edits, is_near, nearest}

-- ---- tests of numbers
equal : (m n : ℕ) → m ≡ n → (m == n) ≡ true
equal m n h = grind (arith, nat_tests)

other : (m n : ℕ) → n < m → (m == n) ≡ false
other m n h = grind (arith, nat_tests)

same : (m n : ℕ) → (m == n) ≡ true → m ≡ n
same m n h = grind (arith, nat_tests)

min_left : (m n : ℕ) → m ≤ n → min m n ≡ m
min_left m n h = grind (arith, nat_tests)

min_right : (m n : ℕ) → n ≤ m → min m n ≡ n
min_right m n h = grind (arith, nat_tests)

-- the least of two is one of them
one_of : (m n : ℕ) → (min m n ≡ m) ⊎ (min m n ≡ n)
one_of m n = cases (nat_le m n) (λ t. inl (first_of_two t)) (λ f. inr (second_of_two f))
  where
    first_of_two : nat_le m n ≡ true → min m n ≡ m
    first_of_two t = grind (arith, nat_tests)

    second_of_two : nat_le m n ≡ false → min m n ≡ n
    second_of_two f = grind (arith, nat_tests)

fold_le : (m : ℕ) (ns : List ℕ) → fold min m ns ≤ m
fold_le m [] = omega arith
fold_le m (n ∷ ns) = let h = fold_le (min m n) ns in let l = at_most m n in omega (arith, h, l)
  where
    at_most : (a b : ℕ) → min a b ≤ a
    at_most a b = grind (arith, nat_tests)

at_most_right : (a b : ℕ) → min a b ≤ b
at_most_right a b = grind (arith, nat_tests)

module _ {A : Type 0} (w : A → ℕ) where
  -- the first of this weight
  abbrev first : ℕ → List A → Option A
  first m xs = head (filter (λ x. w x == m) xs)

  first_here : (m : ℕ) (x : A) (xs : List A) → (w x == m) ≡ true → first m (x ∷ xs) ≡ Some x
  first_here m x xs h = ap (λ b. head (cond b (x ∷ filter (λ y. w y == m) xs) (filter (λ y. w y == m) xs))) h

  first_later : (m : ℕ) (x : A) (xs : List A) → (w x == m) ≡ false → first m (x ∷ xs) ≡ first m xs
  first_later m x xs h = ap (λ b. head (cond b (x ∷ filter (λ y. w y == m) xs) (filter (λ y. w y == m) xs))) h

  -- nothing is lighter than the least
  none_lighter : (k n : ℕ) (xs : List A) → k < fold min n (map w xs) → filter (λ x. w x == k) xs ≡ []
  none_lighter k n [] h = refl
  none_lighter k n (x ∷ xs) h =
      let l = fold_le (min n (w x)) (map w xs) in
      let r = at_most_right n (w x) in
      ap (λ b. cond b (x ∷ filter (λ y. w y == k) xs) (filter (λ y. w y == k) xs)) (other (w x) k (omega (arith, h, l, r)))
      ∙ none_lighter k (min n (w x)) xs h

  -- an element of this weight comes first among those of its weight
  abbrev Leads : ℕ → List A → Type 0
  Leads m xs = (z : A) × (first m xs ≡ Some z) × (w z ≡ m)

  leads_more : (m : ℕ) (x : A) (xs : List A) → Leads m xs → Leads m (x ∷ xs)
  leads_more m x xs l = cases (w x == m)
      (λ t. (x, first_here m x xs t, same (w x) m t))
      (λ f. (l.0, first_later m x xs f ∙ l.1, l.2))

  leads_here : (m : ℕ) (x : A) (xs : List A) → w x ≡ m → Leads m (x ∷ xs)
  leads_here m x xs e = (x, first_here m x xs (equal (w x) m e), e)

  attained : (n : ℕ) (xs : List A) → (fold min n (map w xs) ≡ n) ⊎ Leads (fold min n (map w xs)) xs
  attained n [] = inl refl
  attained n (x ∷ xs) = by (attained (min n (w x)) xs)
    where
      m : ℕ
      m = fold min (min n (w x)) (map w xs)

      least_here : m ≡ min n (w x) → (min n (w x) ≡ n) ⊎ (min n (w x) ≡ w x) → (m ≡ n) ⊎ Leads m (x ∷ xs)
      least_here e (inl l) = inl (e ∙ l)
      least_here e (inr r) = inr (leads_here m x xs (sym (e ∙ r)))

      by : (m ≡ min n (w x)) ⊎ Leads m xs → (m ≡ n) ⊎ Leads m (x ∷ xs)
      by (inl e) = least_here e (one_of n (w x))
      by (inr l) = inr (leads_more m x xs l)

  -- of any there is a first of the least weight
  leads : (x : A) (xs : List A) → Leads (fold min (w x) (map w xs)) (x ∷ xs)
  leads x xs = by (attained (w x) xs)
    where
      by : (fold min (w x) (map w xs) ≡ w x) ⊎ Leads (fold min (w x) (map w xs)) xs → Leads (fold min (w x) (map w xs)) (x ∷ xs)
      by (inl e) = leads_here (fold min (w x) (map w xs)) x xs (sym e)
      by (inr l) = leads_more (fold min (w x) (map w xs)) x xs l

  -- the lighter one of an element and the first of the lightest before it
  abbrev pub lighter : A → Option A → Option A
  lighter x None = Some x
  lighter x (Some y) = cond (nat_lt (w x) (w y)) (Some x) (Some y)

  head_front : (xs ys : List A) (z : A) → head xs ≡ Some z → head (xs ++ ys) ≡ Some z
  head_front [] ys z h = cc
  head_front (x ∷ xs) ys z h = h

  -- lighter than all: it alone has its weight
  lightest_last : (y : A) (ys : List A) (x : A) → w x < fold min (w y) (map w ys) → first (w x) ((y ∷ ys) ++ x ∷ []) ≡ Some x
  lightest_last y ys x h =
      let l = fold_le (w y) (map w ys) in
      ap head (filter-append (λ v. w v == w x) (y ∷ ys) (x ∷ []))
      ∙ ap (λ zs. head (zs ++ filter (λ v. w v == w x) (x ∷ [])))
      (ap (λ b. cond b (y ∷ filter (λ v. w v == w x) ys) (filter (λ v. w v == w x) ys)) (other (w y) (w x) (omega (arith, h, l)))
      ∙ none_lighter (w x) (w y) ys h)
      ∙ first_here (w x) x [] (equal (w x) (w x) refl)

  lightest_before : (m : ℕ) (y : A) (ys : List A) (x z : A) → first m (y ∷ ys) ≡ Some z → first m ((y ∷ ys) ++ x ∷ []) ≡ Some z
  lightest_before m y ys x z h =
      ap head (filter-append (λ v. w v == m) (y ∷ ys) (x ∷ []))
      ∙ head_front (filter (λ v. w v == m) (y ∷ ys)) (filter (λ v. w v == m) (x ∷ [])) z h

  below : (a b m : ℕ) → b ≡ m → nat_lt a b ≡ true → a < m
  below a b m e t = grind (arith, nat_tests)

  not_below : (a b m : ℕ) → b ≡ m → nat_lt a b ≡ false → m ≤ a
  not_below a b m e f = grind (arith, nat_tests)

  -- one element more
  pub lightest_more : (xs : List A) (x : A) → head (lightest w (xs ++ x ∷ [])) ≡ lighter x (head (lightest w xs))
  lightest_more [] x = first_here (w x) x [] (equal (w x) (w x) refl)
  lightest_more (y ∷ ys) x = cases (nat_lt (w x) (w z))
      (λ t. let h = below (w x) (w z) m l.2 t in
      ap (λ k. first k ((y ∷ ys) ++ x ∷ [])) (e ∙ min_right m (w x) (omega (arith, h))) ∙ lightest_last y ys x h
      ∙ sym (ap (lighter x) l.1 ∙ ap (λ b. cond b (Some x) (Some z)) t))
      (λ f. ap (λ k. first k ((y ∷ ys) ++ x ∷ [])) (e ∙ min_left m (w x) (not_below (w x) (w z) m l.2 f)) ∙ lightest_before m y ys x z l.1
      ∙ sym (ap (lighter x) l.1 ∙ ap (λ b. cond b (Some x) (Some z)) f))
    where
      m : ℕ
      m = fold min (w y) (map w ys)

      l : Leads m (y ∷ ys)
      l = leads y ys

      z : A
      z = l.0

      e : fold min (w y) (map w (ys ++ x ∷ [])) ≡ min m (w x)
      e = ap (fold min (w y)) (map-append w ys (x ∷ [])) ∙ fold_push min (w y) (map w ys) (w x)

-- ---- the nearest, with one name more
nearest_more : (word : List ℕ) (names : List (List ℕ)) (name : List ℕ)
    → nearest word (names ++ name ∷ []) ≡ cond (is_near word name) (lighter (edits word) name (nearest word names)) (nearest word names)
unfolding nearest
nearest_more word names name = cases (is_near word name)
    (λ t. ap (λ ns. head (lightest (edits word) ns)) (split ∙ ap (λ b. near ++ cond b (name ∷ []) []) t)
    ∙ lightest_more (edits word) near name
    ∙ sym (ap (λ b. cond b (lighter (edits word) name (head (lightest (edits word) near))) (head (lightest (edits word) near))) t))
    (λ f. ap (λ ns. head (lightest (edits word) ns)) (split ∙ ap (λ b. near ++ cond b (name ∷ []) []) f ∙ append-nil near)
    ∙ sym (ap (λ b. cond b (lighter (edits word) name (head (lightest (edits word) near))) (head (lightest (edits word) near))) f))
  where
    near : List (List ℕ)
    near = filter (is_near word) names

    split : filter (is_near word) (names ++ name ∷ []) ≡ near ++ cond (is_near word name) (name ∷ []) []
    split = filter-append (is_near word) names (name ∷ [])

pub far : (word name : List ℕ) (best : Option (List ℕ)) → is_near word name ≡ false → (names : List (List ℕ)) → best ≡ nearest word names
    → best ≡ nearest word (names ++ name ∷ [])
far word name best f names h =
    h ∙ sym (nearest_more word names name ∙ ap (λ b. cond b (lighter (edits word) name (nearest word names)) (nearest word names)) f)

pub near_more : (word name : List ℕ) (best : Option (List ℕ)) → is_near word name ≡ true → (names : List (List ℕ)) → best ≡ nearest word names
    → lighter (edits word) name best ≡ nearest word (names ++ name ∷ [])
near_more word name best t names h =
    ap (lighter (edits word) name) h
    ∙ sym (nearest_more word names name ∙ ap (λ b. cond b (lighter (edits word) name (nearest word names)) (nearest word names)) t)

pub nearer : (word name found : List ℕ) → edits word name < edits word found → lighter (edits word) name (Some found) ≡ Some name
nearer word name found h = ap (λ b. cond b (Some name) (Some found)) (is_less (edits word name) (edits word found) h)
  where
    is_less : (m n : ℕ) → m < n → nat_lt m n ≡ true
    is_less m n l = grind (arith, nat_tests)

pub no_nearer : (word name found : List ℕ) → edits word found ≤ edits word name → lighter (edits word) name (Some found) ≡ Some found
no_nearer word name found h = ap (λ b. cond b (Some name) (Some found)) (not_less (edits word name) (edits word found) h)
  where
    not_less : (m n : ℕ) → n ≤ m → nat_lt m n ≡ false
    not_less m n l = grind (arith, nat_tests)

pub map_more : {A B : Type 0} (f : A → B) (xs : List A) (i : ℕ) (d : A) → i < length xs
    → map f (take (i + 1) xs) ≡ map f (take i xs) ++ f (get_or xs i d) ∷ []
map_more f xs i d h = ap (map f) (take_more xs i d h) ∙ map-append f (take i xs) (get_or xs i d ∷ [])
