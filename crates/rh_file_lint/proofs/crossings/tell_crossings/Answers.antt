use Rattle.rh_model.specs.ClusterView.{app_numbered}
use Rattle.rh_file_lint.specs.Findings.{crossed_boot_lists}
use Rattle.rh_file_lint.proofs.OneMore.{told_more}
use Rattle.rh_file_lint.proofs.crossings.tell_crossings.Goals as goal

pub loop-number-preserved : goal.loop-number-preserved
loop-number-preserved c = told_more (crossed_boot_lists c.args.cluster.now) app_numbered c.loop-number.number c.args.found.now.items _ _ c.loop-number.invariant (c.in_ok-tell_crossed_boot_lists.ensures)
