use Rattle.std.proofs.Common.{◌∙◌, length, sym, arith}
use Rattle.rh_cluster.specs.Agreement.{is_involved}
use Rattle.rh_base.proofs.Elements.{passed_over}
use Rattle.rh_cluster.proofs.agreement.first_involved.Goals as goal

pub loop-node-preserved : goal.loop-node-preserved
loop-node-preserved c =
    passed_over (is_involved c.args.all.now) c.loop-node.node (length c.args.all.now) (omega (arith, c.len-node-end.ensures)) (sym c.if-is_involved.ensures)
    ∙ c.loop-node.invariant
