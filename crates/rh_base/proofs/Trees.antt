-- What a caller knows who matches on a term and goes over the terms in it.
use Rattle.std.proofs.Common.{◌≡◌, List, [], ◌∷◌, map, refl, sym, ap, ◌∙◌}
use Rattle.rh_base.specs.declared.held.Held.{Held}
use Rattle.rh_base.specs.declared.held.Held.TheVariants.{Own, Shared}
use Rattle.rh_base.specs.declared.term.Term.{Term, fold-roll-Term}
use Rattle.rh_base.specs.declared.term.Term.TheVariants as variants
use Rattle.rh_base.specs.declared.term.Term.TheVariants.{rolls-List, rolls-Tuple}
use Rattle.rh_base.specs.declared.term.Term.TheOpen.{Term-F}
use Rattle.rh_base.specs.declared.term.Term.TheFolds.{map-Terms, fold-Terms}
use Rattle.rh_base.specs.declared.term.Terms.{Terms, out-Terms, fold_out-Terms}
use Rattle.rh_base.specs.Tree.{Tree, Trees, trees_from, list_of_trees, tree_step, terms_step, lying, tree_of, trees_of, items_of, list, tuple}

-- the items as trees
abbrev map-held : Held Term → Held Tree
map-held h = (map-Terms Term Terms Tree Trees tree_of (fold-Terms Tree Trees tree_step terms_step) (record { items = h })).items

-- the trees of terms, wherever they lie
held : (h : Held Term) → trees_from (lying (map-held h)) ≡ trees_of (lying h)
held (Own items) = refl
held (Shared items) = refl

-- the tree of a list
pub tree_of-list : (ts : Terms) → tree_of (variants.List ts) ≡ list (trees_of (items_of ts))
tree_of-list ts =
    ap tree_of (sym (rolls-List ts)) ∙ fold-roll-Term Tree Trees tree_step terms_step (Term-F.List ts)
    ∙ ap list (fold_out-Terms Tree Trees tree_step terms_step ts ∙ held (out-Terms ts).items)

-- the tree of a tuple
pub tree_of-tuple : (ts : Terms) → tree_of (variants.Tuple ts) ≡ tuple (trees_of (items_of ts))
tree_of-tuple ts =
    ap tree_of (sym (rolls-Tuple ts)) ∙ fold-roll-Term Tree Trees tree_step terms_step (Term-F.Tuple ts)
    ∙ ap tuple (fold_out-Terms Tree Trees tree_step terms_step ts ∙ held (out-Terms ts).items)

-- a list of trees as trees, and back
pub list_of_trees-trees_from : (ts : List Tree) → list_of_trees (trees_from ts) ≡ ts
list_of_trees-trees_from [] = refl
list_of_trees-trees_from (t ∷ ts) = ap (λ (l : List Tree). t ∷ l) (list_of_trees-trees_from ts)

-- the trees of terms, as a list
pub list_of_trees-trees_of : (ts : List Term) → list_of_trees (trees_of ts) ≡ map tree_of ts
list_of_trees-trees_of ts = list_of_trees-trees_from (map tree_of ts)
