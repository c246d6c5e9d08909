use Rattle.std.proofs.Common.{List, map, sym, ap, ◌∙◌, Some}
use Rattle.rh_base.specs.declared.term.Term.{Term}
use Rattle.rh_base.specs.Tree.{tree_of}
use Rattle.rh_base.proofs.Trees.{tree_of-list}
use Rattle.rh_cluster.specs.Shapes.{as_list}
use Rattle.rh_base.proofs.Trees.{list_of_trees-trees_from}
use Rattle.rh_term_lint.proofs.shapes.list.Goals as goal

pub returns-in-List : goal.returns-in-List
unfolding as_list
returns-in-List c =
    ap (λ (xs : List Term). Some (map tree_of xs)) c.as_slice.ensures ∙ ap Some (sym (list_of_trees-trees_from _))
    ∙ sym (ap as_list (ap tree_of c.in-List.is ∙ tree_of-list c.in-List.terms))
