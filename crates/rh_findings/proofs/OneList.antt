-- Two lists in the order of findings that have the same beside each finding are the same.
use Rattle.std.proofs.Common.{◌≡◌, ◌<◌, ◌==◌, ℕ, suc, List, [], ◌∷◌, length, Bool, true, false, if◌then◌else◌, refl, sym, ap, ◌∙◌, arith, nat_lt, get_or}
use Rattle.std.proofs.lemmas.Bool.Decides.{nat_tests}
use Rattle.std.specs.List.Sorted.{IsNonDecreasingBy}
use Rattle.std.proofs.lemmas.List.Sorted.{IsNonDecreasingBy-drop}
use Rattle.rh_findings.specs.declared.finding.Finding.{Finding}
use Rattle.rh_findings.specs.Order.{place, beside}

-- ---- what is beside the first one

kept : (b : Bool) (x : Finding) (rest : List Finding) → b ≡ true → (if b then x ∷ rest else rest) ≡ x ∷ rest
kept true x rest is = refl
kept false x rest is = absurd (cc is)

left : (b : Bool) (x : Finding) (rest : List Finding) → b ≡ false → (if b then x ∷ rest else rest) ≡ rest
left true x rest is = absurd (cc is)
left false x rest is = refl

first_is_kept : (f x : Finding) (xs : List Finding) → place x ≡ place f → beside f (x ∷ xs) ≡ x ∷ beside f xs
first_is_kept f x xs same = kept (place x == place f) x (beside f xs) (grind (arith, nat_tests, same))

first_is_left : (f x : Finding) (xs : List Finding) → (place x == place f) ≡ false → beside f (x ∷ xs) ≡ beside f xs
first_is_left f x xs other = left (place x == place f) x (beside f xs) other

-- nothing stands there whose place is below all
none_below : (f : Finding) (ys : List Finding) → ((j : ℕ) (d : Finding) → j < length ys → place f < place (get_or ys j d)) → beside f ys ≡ []
none_below f [] above = refl
none_below f (y ∷ ys) above =
    first_is_left f y ys (let higher = above 0 y (omega arith) in grind (arith, nat_tests, higher))
    ∙ none_below f ys (λ j d within. above (suc j) d (omega (arith, within)))

-- ---- two lists

-- the first one of a list isn't before that of the other
first_is_not_before : (x y : Finding) (xs ys : List Finding) → IsNonDecreasingBy place (y ∷ ys) → beside x (x ∷ xs) ≡ beside x (y ∷ ys)
    → place x < place y → ⊥
first_is_not_before x y xs ys sorted same before =
    let none = none_below x (y ∷ ys) (λ j d within. let first = sorted 0 j d (omega arith) within in omega (arith, before, first)) in
    let q : x ∷ beside x xs ≡ [] = sym (first_is_kept x x xs refl) ∙ same ∙ none in
    absurd (cc q)

-- what is beside each finding behind the first ones
behind_first : (f x : Finding) (xs ys : List Finding) (b : Bool) → (place x == place f) ≡ b → beside f (x ∷ xs) ≡ beside f (x ∷ ys)
    → beside f xs ≡ beside f ys
behind_first f x xs ys true is same =
    let at : place x ≡ place f = grind (arith, nat_tests, is) in
    let q : x ∷ beside f xs ≡ x ∷ beside f ys = sym (first_is_kept f x xs at) ∙ same ∙ first_is_kept f x ys at in
    cc q
behind_first f x xs ys false is same = sym (first_is_left f x xs is) ∙ same ∙ first_is_left f x ys is

by_order : (m n : ℕ) → (m < n → ⊥) → (n < m → ⊥) → n ≡ m
by_order m n not_before not_behind = by (nat_lt m n) (nat_lt n m) refl refl
  where
    by : (b e : Bool) → nat_lt m n ≡ b → nat_lt n m ≡ e → n ≡ m
    by true e is other = absurd (not_before (grind (arith, nat_tests, is)))
    by false true is other = absurd (not_behind (grind (arith, nat_tests, other)))
    by false false is other = grind (arith, nat_tests, is, other)

pub one_list : (xs ys : List Finding) → IsNonDecreasingBy place xs → IsNonDecreasingBy place ys → ((f : Finding) → beside f xs ≡ beside f ys) → xs ≡ ys
one_list [] [] sorted_x sorted_y same = refl
one_list [] (y ∷ ys) sorted_x sorted_y same =
    let q : [] ≡ y ∷ beside y ys = same y ∙ first_is_kept y y ys refl in absurd (cc q)
one_list (x ∷ xs) [] sorted_x sorted_y same =
    let q : x ∷ beside x xs ≡ [] = sym (first_is_kept x x xs refl) ∙ same x in absurd (cc q)
one_list (x ∷ xs) (y ∷ ys) sorted_x sorted_y same =
    let above = first_is_not_before x y xs ys sorted_y (same x) in
    let below = first_is_not_before y x ys xs sorted_x (sym (same y)) in
    let at : place y ≡ place x = by_order (place x) (place y) above below in
    let q : x ∷ beside x xs ≡ y ∷ beside x ys = sym (first_is_kept x x xs refl) ∙ same x ∙ first_is_kept x y ys at in
    let one : x ≡ y = cc q in
    let others : (f : Finding) → beside f xs ≡ beside f ys =
    λ f. behind_first f x xs ys (place x == place f) refl (same f ∙ ap (λ z. beside f (z ∷ ys)) (sym one)) in
    ap (λ z. z ∷ xs) one
    ∙ ap (λ zs. y ∷ zs) (one_list xs ys (IsNonDecreasingBy-drop place 1 (x ∷ xs) sorted_x) (IsNonDecreasingBy-drop place 1 (y ∷ ys) sorted_y) others)
