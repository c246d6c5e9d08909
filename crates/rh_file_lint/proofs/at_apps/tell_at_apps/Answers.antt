use Rattle.rh_model.specs.ClusterView.{app_numbered}
use Rattle.rh_file_lint.specs.Working.{found_at_app}
use Rattle.rh_file_lint.proofs.OneMore.{told_more}
use Rattle.rh_file_lint.proofs.at_apps.tell_at_apps.Goals as goal

pub loop-number-preserved : goal.loop-number-preserved
loop-number-preserved c = told_more (found_at_app c.args.cluster.now c.args.kind) app_numbered c.loop-number.number c.args.found.now.items _ _ c.loop-number.invariant (c.in_ok-tell_at_app.ensures)
