-- What is found in each entry of a list, with one entry more.
use Rattle.std.proofs.Common.{◌≡◌, ◌<◌, ◌+◌, ◌∙◌, arith, suc, sym, ap, refl, ℕ, List, [], ◌∷◌, ◌++◌, map, length, get_or, take, append_assoc, append-nil, Option, Some, None}
use Rattle.std.specs.List.{flat_map, filter_map, cons_option, enumerate_from}
use Rattle.std.specs.Option.{option_to_list}
use Rattle.std.proofs.lemmas.List.{map-append, take_more, length-map, length-take-le}
use Rattle.std.proofs.lemmas.List.Elements.{filter_map-append}
use Rattle.std.proofs.lemmas.List.Concat.{flat_map-append}
use Rattle.rh_base.specs.Tree.{Tree, tree_of}
use Rattle.rh_base.specs.declared.term.Term.{Term}
use Rattle.rh_cluster.specs.Shapes.{as_entry}

-- what is found in each entry among these terms
abbrev pub of_each : {B : Type 0} → (List ℕ × Tree → List B) → List Term → List B
of_each f ts = flat_map f (filter_map as_entry (map tree_of ts))

one_entry : {A B : Type 0} (f : A → List B) (o : Option A) → flat_map f (cons_option o []) ≡ flat_map f (option_to_list o)
one_entry f None = refl
one_entry f (Some e) = refl

taken : (ts : List Term) (i : ℕ) (t : Term) → i < length ts → t ≡ get_or ts i t → take (i + 1) ts ≡ take i ts ++ t ∷ []
taken ts i t h is = take_more ts i t h ∙ ap (λ x. take i ts ++ x ∷ []) (sym is)

of_each_more : {B : Type 0} (f : List ℕ × Tree → List B) (ts : List Term) (t : Term)
    → of_each f (ts ++ t ∷ []) ≡ of_each f ts ++ flat_map f (option_to_list (as_entry (tree_of t)))
of_each_more f ts t =
    ap (λ trees. flat_map f (filter_map as_entry trees)) (map-append tree_of ts (t ∷ []))
    ∙ ap (flat_map f) (filter_map-append as_entry (map tree_of ts) (tree_of t ∷ []))
    ∙ flat_map-append f (filter_map as_entry (map tree_of ts)) (cons_option (as_entry (tree_of t)) [])
    ∙ ap (λ more. of_each f ts ++ more) (one_entry f (as_entry (tree_of t)))

pub one_more : {B : Type 0} (f : List ℕ × Tree → List B) (ts : List Term) (i : ℕ) (t : Term) → i < length ts → t ≡ get_or ts i t
    → (old found after : List B) → found ≡ old ++ of_each f (take i ts)
    → after ≡ found ++ flat_map f (option_to_list (as_entry (tree_of t)))
    → after ≡ old ++ of_each f (take (i + 1) ts)
one_more f ts i t h is old found after before step =
    step ∙ ap (λ xs. xs ++ flat_map f (option_to_list (as_entry (tree_of t)))) before
    ∙ append_assoc old (of_each f (take i ts)) (flat_map f (option_to_list (as_entry (tree_of t))))
    ∙ ap (λ xs. old ++ xs) (sym (ap (of_each f) (taken ts i t h is) ∙ of_each_more f (take i ts) t))

-- ---- each with its place
enumerate_more : {A : Type 0} (n : ℕ) (xs : List A) (x : A) → enumerate_from n (xs ++ x ∷ []) ≡ enumerate_from n xs ++ (n + length xs, x) ∷ []
enumerate_more n [] x = ap (λ m. (m, x) ∷ []) (none n)
  where
    none : (m : ℕ) → m ≡ m + 0
    none m = omega arith
enumerate_more n (y ∷ ys) x =
    ap (λ rest. (n, y) ∷ rest) (enumerate_more (n + 1) ys x ∙ ap (λ m. enumerate_from (n + 1) ys ++ (m, x) ∷ []) (one n (length ys)))
  where
    one : (m k : ℕ) → m + 1 + k ≡ m + suc k
    one m k = omega arith

at_places_more : {B : Type 0} (f : ℕ × Tree → List B) (ts : List Term) (t : Term) (i : ℕ) → length ts ≡ i
    → flat_map f (enumerate_from 0 (map tree_of (ts ++ t ∷ []))) ≡ flat_map f (enumerate_from 0 (map tree_of ts)) ++ f (i, tree_of t)
at_places_more f ts t i e =
    ap (λ trees. flat_map f (enumerate_from 0 trees)) (map-append tree_of ts (t ∷ []))
    ∙ ap (flat_map f) (enumerate_more 0 (map tree_of ts) (tree_of t))
    ∙ flat_map-append f (enumerate_from 0 (map tree_of ts)) ((0 + length (map tree_of ts), tree_of t) ∷ [])
    ∙ ap (λ k. flat_map f (enumerate_from 0 (map tree_of ts)) ++ (f (k, tree_of t) ++ [])) (nothing (length (map tree_of ts)) ∙ length-map ts tree_of ∙ e)
    ∙ ap (λ more. flat_map f (enumerate_from 0 (map tree_of ts)) ++ more) (append-nil (f (i, tree_of t)))
  where
    nothing : (k : ℕ) → 0 + k ≡ k
    nothing k = omega arith

pub one_place_more : {B : Type 0} (f : ℕ × Tree → List B) (ts : List Term) (i : ℕ) (t : Term) → i < length ts → t ≡ get_or ts i t
    → (old found after : List B) → found ≡ old ++ flat_map f (enumerate_from 0 (map tree_of (take i ts)))
    → after ≡ found ++ f (i, tree_of t)
    → after ≡ old ++ flat_map f (enumerate_from 0 (map tree_of (take (i + 1) ts)))
one_place_more f ts i t h is old found after before step =
    step ∙ ap (λ xs. xs ++ f (i, tree_of t)) before
    ∙ append_assoc old (flat_map f (enumerate_from 0 (map tree_of (take i ts)))) (f (i, tree_of t))
    ∙ ap (λ xs. old ++ xs)
    (sym (ap (λ us. flat_map f (enumerate_from 0 (map tree_of us))) (taken ts i t h is)
    ∙ at_places_more f (take i ts) t i (length-take-le i ts (omega (arith, h)))))
