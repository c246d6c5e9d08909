-- Values that are no other than the common one.
use Rattle.std.proofs.Common.{◌≡◌, ◌∙◌, ℕ, ◌+◌, ◌<◌, List, [], ◌∷◌, length, map, take, get_or, Option, Some, None, refl, sym, subst, arith}
use Rattle.std.specs.Prelude.{All}
use Rattle.std.specs.Option.{option_map, option_or}
use Rattle.std.proofs.lemmas.List.{get_or-take, length-take, take_more}
use Rattle.std.proofs.lemmas.List.Elements.{All-nil, All-cons, All-append}
use Rattle.rh_base.specs.declared.term.Term.{Term}
use Rattle.rh_base.specs.Tree.{Tree, tree_of}
use Rattle.rh_cluster.specs.Values.{distributed_of, first_filled}
use Rattle.rh_cluster.specs.Common.{IsNoOther, AreAlike}

-- one of the terms that are alike
pub of_term : (n : ℕ) (ts : List Term) (i : ℕ) (t : Term) → AreAlike n ts → i < n → i < length ts → t ≡ get_or ts i t
    → IsNoOther (first_filled (map tree_of ts)) (distributed_of (tree_of t))
of_term n ts i t alike few inside is =
    subst (λ u. IsNoOther (first_filled (map tree_of ts)) (distributed_of (tree_of u))) (get_or-take n ts i t few ∙ sym is)
    (alike i t (omega (arith, few, inside, length-take n ts)))

-- one term more
pub one_more : (n : ℕ) (ts : List Term) (t : Term) → AreAlike n ts → n < length ts → t ≡ get_or ts n t
    → IsNoOther (first_filled (map tree_of ts)) (distributed_of (tree_of t)) → AreAlike (n + 1) ts
one_more n ts t alike inside is h =
    let P : Term → Type 0 = λ u. IsNoOther (first_filled (map tree_of ts)) (distributed_of (tree_of u)) in
    subst (All P) (sym (take_more ts n t inside))
    (All-append P (take n ts) (get_or ts n t ∷ []) alike (All-cons P (get_or ts n t) [] (subst P is h) (All-nil P)))

-- the latest of two
pub of_latest : (common v w : Option Tree) → IsNoOther common v → IsNoOther common w → IsNoOther common (option_or v w)
of_latest common None w h k = k
of_latest common (Some v) w h k = h

pub map_or : {A B : Type 0} (f : A → B) (o p : Option A) → option_map f (option_or o p) ≡ option_or (option_map f o) (option_map f p)
map_or f None p = refl
map_or f (Some x) p = refl
