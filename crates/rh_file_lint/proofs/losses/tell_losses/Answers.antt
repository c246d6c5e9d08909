use Rattle.rh_model.specs.ClusterView.{app_numbered}
use Rattle.rh_file_lint.specs.Findings.{lost_together}
use Rattle.rh_file_lint.proofs.OneMore.{told_more}
use Rattle.rh_file_lint.proofs.losses.tell_losses.Goals as goal

pub loop-number-preserved : goal.loop-number-preserved
loop-number-preserved c = told_more (lost_together c.args.cluster.now) app_numbered c.loop-number.number c.args.found.now.items _ _ c.loop-number.invariant (c.in_ok-tell_lost_together.ensures)
