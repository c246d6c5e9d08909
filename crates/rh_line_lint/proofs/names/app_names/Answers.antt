use Rattle.rh_line_lint.proofs.OneMore.{one_more}
use Rattle.rh_line_lint.proofs.names.app_names.Goals as goal

pub loop-number-preserved : goal.loop-number-preserved
loop-number-preserved c = one_more c.args.cluster.now.app_names c.loop-number.number c.app_name.result c.loop-number.names.items _
    c.loop-number.invariant c.app_name.ensures c.in_ok-push.ensures.items
