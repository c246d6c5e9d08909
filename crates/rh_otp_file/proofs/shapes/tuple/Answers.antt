use Rattle.std.proofs.Common.{List, map, sym, ap, ◌∙◌, Some}
use Rattle.rh_base.specs.declared.term.Term.{Term}
use Rattle.rh_base.specs.Tree.{tree_of}
use Rattle.rh_base.proofs.Trees.{tree_of-tuple}
use Rattle.rh_cluster.specs.Shapes.{as_tuple}
use Rattle.rh_base.proofs.Trees.{list_of_trees-trees_from}
use Rattle.rh_otp_file.proofs.shapes.tuple.Goals as goal

pub returns-in-Tuple : goal.returns-in-Tuple
unfolding as_tuple
returns-in-Tuple c =
    ap (λ (xs : List Term). Some (map tree_of xs)) c.as_slice.ensures ∙ ap Some (sym (list_of_trees-trees_from _))
    ∙ sym (ap as_tuple (ap tree_of c.in-Tuple.is ∙ tree_of-tuple c.in-Tuple.terms))
