-- A term, without where it lies in memory.
use Rattle.std.specs.Prelude.{List, [], ◌∷◌, ℕ, ℤ, map}
use Rattle.rh_base.specs.declared.term.Term.{Term, fold-Term}
use Rattle.rh_base.specs.declared.term.Terms.{Terms, out-Terms}
use Rattle.rh_base.specs.declared.term.Term.TheOpen.{Term-F, Terms-F}
use Rattle.rh_base.specs.declared.held.Held.{Held}
use Rattle.rh_base.specs.declared.held.Held.TheVariants.{Own, Shared}

-- A term as a tree. Atoms and texts are their bytes, in UTF-8.
mutual
  pub data Tree : Type 0 where
    atom : List ℕ → Tree
    int : ℤ → Tree
    text : List ℕ → Tree
    list : Trees → Tree
    tuple : Trees → Tree

  -- a list of trees
  pub data Trees : Type 0 where
    none : Trees
    more : Tree → Trees → Trees

abbrev pub trees_from : List Tree → Trees
trees_from [] = none
trees_from (t ∷ ts) = more t (trees_from ts)

-- the trees as a list
abbrev pub list_of_trees : Trees → List Tree
list_of_trees none = []
list_of_trees (more t ts) = t ∷ list_of_trees ts

-- the items, wherever they lie
abbrev pub lying : {A : Type 0} → Held A → List A
lying (Own items) = items.items
lying (Shared items) = items.value.items

abbrev pub tree_step : Term-F Tree Trees → Tree
tree_step (Term-F.Atom s) = atom s
tree_step (Term-F.Int n) = int n
tree_step (Term-F.Text s) = text s
tree_step (Term-F.List ts) = list ts
tree_step (Term-F.Tuple ts) = tuple ts

abbrev pub terms_step : Terms-F Tree Trees → Trees
terms_step ts = trees_from (lying ts.items)

-- the tree of a term
abbrev pub tree_of : Term → Tree
tree_of = fold-Term Tree Trees tree_step terms_step

-- the trees of a list of terms
abbrev pub trees_of : List Term → Trees
trees_of ts = trees_from (map tree_of ts)

-- the terms that a `Terms` holds
abbrev pub items_of : Terms → List Term
items_of ts = lying (out-Terms ts).items
