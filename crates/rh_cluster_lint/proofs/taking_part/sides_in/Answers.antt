use Rattle.std.proofs.Common.{List, ap, sym, ◌∙◌}
use Rattle.rh_base.specs.Tree.{Tree, items_of}
use Rattle.rh_base.proofs.Trees.{list_of_trees-trees_of}
use Rattle.rh_cluster_lint.specs.Differing.{sides_of, sides_read, sides_in}
use Rattle.rh_cluster_lint.proofs.taking_part.sides_in.Goals as goal

pub returns-in-Ok : goal.returns-in-Ok
unfolding sides_in
returns-in-Ok c =
    let name = c.args.name.now in
    c.sides_of.ensures
    ∙ sym (ap (sides_read name) c.in-Ok.ensures.exact ∙ ap (λ (ts : List Tree). sides_of name ts) (list_of_trees-trees_of (items_of c.in-Ok.terms)))
