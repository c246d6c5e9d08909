use Rattle.rh_line_lint.proofs.OneMore.{one_more}
use Rattle.rh_line_lint.proofs.names.node_names.Goals as goal

pub loop-number-preserved : goal.loop-number-preserved
loop-number-preserved c = one_more c.args.cluster.now.node_names c.loop-number.number c.node_name.result c.loop-number.names.items _
    c.loop-number.invariant c.node_name.ensures c.in_ok-push.ensures.items
