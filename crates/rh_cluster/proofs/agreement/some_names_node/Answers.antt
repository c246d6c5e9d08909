use Rattle.std.proofs.Common.{◌+◌, ◌<◌, ◌||◌, drop, length, sym, ap, ◌∙◌, arith}
use Rattle.std.specs.List.{list_any}
use Rattle.rh_cluster.specs.Agreement.{names_node}
use Rattle.rh_cluster.proofs.Agreed.{named_from}
use Rattle.rh_cluster.proofs.agreement.some_names_node.Goals as goal

pub returns-then-names_node : goal.returns-then-names_node
returns-then-names_node c =
    let n = c.args.node in
    let all = c.args.all.now in
    let i = c.loop-index.index in
    let inside : i < length all = omega (arith, c.len-index-end.ensures) in
    let rest = list_any (names_node n) (drop (i + 1) all) in
    sym (sym c.loop-index.invariant ∙ named_from n all i inside
    ∙ ap (λ b. b || rest) (ap (names_node n) (sym c.at.ensures) ∙ sym c.if-names_node.ensures))

pub loop-index-preserved : goal.loop-index-preserved
loop-index-preserved c =
    let n = c.args.node in
    let all = c.args.all.now in
    let i = c.loop-index.index in
    let inside : i < length all = omega (arith, c.len-index-end.ensures) in
    let rest = list_any (names_node n) (drop (i + 1) all) in
    sym (named_from n all i inside ∙ ap (λ b. b || rest) (ap (names_node n) (sym c.at.ensures) ∙ sym c.if-names_node.ensures)) ∙ c.loop-index.invariant
