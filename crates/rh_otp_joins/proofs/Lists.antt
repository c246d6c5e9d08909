-- How often a node stands in a list, and where.
use Rattle.std.proofs.Common.{◌≡◌, ◌<◌, ◌≤◌, ◌||◌, ◌⊎◌, ◌+◌, ◌++◌, ◌==◌, ℕ, suc, Bool, true, false, not, cond, List, [], ◌∷◌, map, filter, length, slice_get, position, Some, None, refl, sym, ap, subst, ◌∙◌, inl, inr, arith}
use Rattle.std.specs.List.{remove, position_or_len}
use Rattle.std.specs.Prelude.{All}
use Rattle.std.proofs.lemmas.Bool.{eq-eqb, eqb-true, false≢true, or_right, or_cases, cases_Bool, lt-ltb}
use Rattle.std.proofs.lemmas.List.Elements.{All-nil, All-cons}
use Rattle.rh_model.specs.ClusterView.{is_in}
use Rattle.rh_model.specs.declared.node.Node.{Node}
use Rattle.rh_otp_crashes.proofs.Crossing.{same_node}

-- one more where it is so
abbrev pub more_if : Bool → ℕ → ℕ
more_if true k = suc k
more_if false k = k

-- how often the node stands in the list
abbrev pub count_of : Node → List Node → ℕ
count_of m [] = 0
count_of m (x ∷ nodes) = more_if (x.0 == m.0) (count_of m nodes)

pub counts_itself : (m : Node) (nodes : List Node) → count_of m (m ∷ nodes) ≡ suc (count_of m nodes)
counts_itself m nodes = ap (λ (b : Bool). more_if b (count_of m nodes)) (eq-eqb m.0 m.0 refl)

-- The first of a list that is this node, by a test of what stands for each; or none is.
pub record FoundAt {A : Type 0} (f : Node → A) (q : A → Bool) (x : Node) (nodes : List Node) : Type 0 where
  pub place : ℕ
  pub left : List Node
  pub found : position_or_len q (map f nodes) ≡ place
  pub is : slice_get (map f nodes) place ≡ Some (f x)
  pub others : remove (map f nodes) place ≡ map f left
  pub counts : (m : Node) → count_of m nodes ≡ more_if (x.0 == m.0) (count_of m left)
  pub shorter : length nodes ≡ suc (length left)
  pub within : place < length (map f nodes)

pub record NotFound {A : Type 0} (f : Node → A) (q : A → Bool) (x : Node) (nodes : List Node) : Type 0 where
  pub none : count_of x nodes ≡ 0
  pub fails : All (λ (a : A). q a ≡ false) (map f nodes)

pub searched : {A : Type 0} (f : Node → A) (q : A → Bool) (x : Node) → ((m : Node) → q (f m) ≡ (m.0 == x.0)) → (nodes : List Node)
    → FoundAt f q x nodes ⊎ NotFound f q x nodes
searched {A} f q x tests [] = inr (record { none = refl; fails = All-nil (λ (a : A). q a ≡ false) })
searched {A} f q x tests (m ∷ nodes) = by (cases_Bool (m.0 == x.0)) (searched f q x tests nodes)
  where
    swapped : (k : Node) (b c : Bool) (j : ℕ) → more_if b (more_if c j) ≡ more_if c (more_if b j)
    swapped k true true j = refl
    swapped k true false j = refl
    swapped k false c j = refl

    by : ((m.0 == x.0) ≡ true) ⊎ ((m.0 == x.0) ≡ false) → FoundAt f q x nodes ⊎ NotFound f q x nodes
        → FoundAt f q x (m ∷ nodes) ⊎ NotFound f q x (m ∷ nodes)
    by (inl here) rest = inl (record {
      place = 0;
      left = nodes;
      found = ap (λ (b : Bool). cond (not b) (1 + position_or_len q (map f nodes)) 0) (tests m ∙ here);
      is = ap (λ (k : Node). Some (f k)) (same_node m x (eqb-true m.0 x.0 here));
      others = refl;
      counts = λ k. ap (λ (y : Node). more_if (y.0 == k.0) (count_of k nodes)) (same_node m x (eqb-true m.0 x.0 here));
      shorter = refl;
      within = omega arith;
    })
    by (inr other) (inl at) = inl (record {
      place = suc at.place;
      left = m ∷ at.left;
      found = ap (λ (b : Bool). cond (not b) (1 + position_or_len q (map f nodes)) 0) (tests m ∙ other)
          ∙ (let same : position_or_len q (map f nodes) ≡ at.place = at.found in omega (arith, same));
      is = at.is;
      others = ap (λ (l : List A). f m ∷ l) at.others;
      counts = λ k. ap (more_if (m.0 == k.0)) (at.counts k) ∙ swapped k (m.0 == k.0) (x.0 == k.0) (count_of k at.left);
      shorter = let s : length nodes ≡ suc (length at.left) = at.shorter in omega (arith, s);
      within = let w : at.place < length (map f nodes) = at.within in omega (arith, w);
    })
    by (inr other) (inr none) = inr (record {
      none = ap (λ (b : Bool). more_if b (count_of x nodes)) other ∙ none.none;
      fails = All-cons (λ (a : A). q a ≡ false) (f m) (map f nodes) (tests m ∙ other) none.fails;
    })

pub at_place : {A : Type 0} (q : A → Bool) (xs : List A) (p : ℕ) → position_or_len q xs ≡ p → p < length xs → position q xs ≡ Some p
at_place q xs p is within =
    ap (λ (b : Bool). cond b (Some (position_or_len q xs)) None)
    (lt-ltb (position_or_len q xs) (length xs) (omega (arith, is, within)))
    ∙ ap Some is

-- ---- lists that name nodes

pub in_counted : (m : Node) (nodes : List Node) → 1 ≤ count_of m nodes → is_in m nodes ≡ true
in_counted m [] among = absurd (omega (arith, among))
in_counted m (x ∷ nodes) among = by (m.0 == x.0) refl (x.0 == m.0) refl (in_counted m nodes)
  where
    by : (c : Bool) → (m.0 == x.0) ≡ c → (d : Bool) → (x.0 == m.0) ≡ d → (1 ≤ count_of m nodes → is_in m nodes ≡ true)
        → (m.0 == x.0 || is_in m nodes) ≡ true
    by true is d is_too rest = ap (λ (c : Bool). c || is_in m nodes) is
    by false is true is_too rest = absurd (false≢true (sym is ∙ eq-eqb m.0 x.0 (sym (eqb-true x.0 m.0 is_too))))
    by false is false is_too rest =
        or_right (m.0 == x.0) (is_in m nodes) (rest (subst (λ (c : Bool). 1 ≤ more_if c (count_of m nodes)) is_too among))

pub counted_in_list : (m : Node) (nodes : List Node) → is_in m nodes ≡ true → 1 ≤ count_of m nodes
counted_in_list m [] among = absurd (false≢true among)
counted_in_list m (x ∷ nodes) among = by (or_cases (m.0 == x.0) (is_in m nodes) among) (counted_in_list m nodes)
  where
    more : (c : Bool) (k : ℕ) → 1 ≤ k → 1 ≤ more_if c k
    more true k less = omega (arith, less)
    more false k less = less

    by : ((m.0 == x.0) ≡ true) ⊎ (is_in m nodes ≡ true) → (is_in m nodes ≡ true → 1 ≤ count_of m nodes)
        → 1 ≤ more_if (x.0 == m.0) (count_of m nodes)
    by (inl is) rest =
        let one : more_if (x.0 == m.0) (count_of m nodes) ≡ suc (count_of m nodes) =
        ap (λ (c : Bool). more_if c (count_of m nodes)) (eq-eqb x.0 m.0 (sym (eqb-true m.0 x.0 is))) in
        omega (arith, one)
    by (inr among) rest = more (x.0 == m.0) (count_of m nodes) (rest among)

pub count_both : (m : Node) (xs ys : List Node) → count_of m (xs ++ ys) ≡ count_of m xs + count_of m ys
count_both m [] ys = omega arith
count_both m (x ∷ xs) ys = by (x.0 == m.0) (count_both m xs ys)
  where
    by : (c : Bool) → count_of m (xs ++ ys) ≡ count_of m xs + count_of m ys
        → more_if c (count_of m (xs ++ ys)) ≡ more_if c (count_of m xs) + count_of m ys
    by true rest = omega (arith, rest)
    by false rest = rest

-- those of a list that pass a test
pub count_filtered : (p : Node → Bool) (m : Node) (xs : List Node) → count_of m (filter p xs) ≤ count_of m xs
count_filtered p m [] = omega arith
count_filtered p m (x ∷ xs) = by (p x) (x.0 == m.0) (count_filtered p m xs)
  where
    by : (c d : Bool) → count_of m (filter p xs) ≤ count_of m xs
        → count_of m (cond c (x ∷ filter p xs) (filter p xs)) ≤ more_if (x.0 == m.0) (count_of m xs)
    by true d less = more_both (x.0 == m.0) (count_of m (filter p xs)) (count_of m xs) less
      where
        more_both : (e : Bool) (j k : ℕ) → j ≤ k → more_if e j ≤ more_if e k
        more_both true j k less = omega (arith, less)
        more_both false j k less = less
    by false d less = more_one (x.0 == m.0) (count_of m (filter p xs)) (count_of m xs) less
      where
        more_one : (e : Bool) (j k : ℕ) → j ≤ k → j ≤ more_if e k
        more_one true j k less = omega (arith, less)
        more_one false j k less = less

pub passes : (p : Node → Bool) (m : Node) (xs : List Node) → 1 ≤ count_of m (filter p xs) → p m ≡ true
passes p m [] among = absurd (omega (arith, among))
passes p m (x ∷ xs) among = by (p x) refl (x.0 == m.0) refl (passes p m xs) among
  where
    by : (c : Bool) → p x ≡ c → (d : Bool) → (x.0 == m.0) ≡ d → (1 ≤ count_of m (filter p xs) → p m ≡ true)
        → 1 ≤ count_of m (cond c (x ∷ filter p xs) (filter p xs)) → p m ≡ true
    by true is true same rest among = ap p (sym (same_node x m (eqb-true x.0 m.0 same))) ∙ is
    by true is false same rest among = rest (subst (λ (c : Bool). 1 ≤ more_if c (count_of m (filter p xs))) same among)
    by false is d same rest among = rest among
