use Rattle.std.proofs.Common.{rules, tests}
use Rattle.std.proofs.lemmas.Iterator.{YieldsList-from_slice}
use Rattle.std.proofs.lemmas.Iterator.Search.{position_from_yields_List}
use Rattle.rh_line_lint.specs.Arguments.{is_node}
use Rattle.rh_line_lint.proofs.unknown.node_place.Goals as goal

pub returns : goal.returns
returns c =
    position_from_yields_List is_node _ _ c.position.result c.position.ensures.ran
    (YieldsList-from_slice c.args.arguments.now cc) (λ x b q k. search (rules, tests))
