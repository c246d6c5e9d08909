use Rattle.std.proofs.Common.{◌++◌, ap, ◌∙◌}
use Rattle.rh_model.specs.declared.node.App.{App}
use Rattle.rh_model.specs.ClusterView.{app_numbered}
use Rattle.rh_file_lint.specs.declared.finding.FileFinding.TheVariants as finding
use Rattle.rh_file_lint.specs.Findings.{finding_if}
use Rattle.rh_file_lint.specs.Losses.{are_lost_together}
use Rattle.rh_file_lint.proofs.OneMore.{told_more}
use Rattle.rh_file_lint.proofs.losses.tell_lost_together.Goals as goal

pub loop-number-preserved : goal.loop-number-preserved
loop-number-preserved c = told_more (λ (b : App). finding_if (finding.LostTogether c.args.app b) (are_lost_together c.args.cluster.now c.args.app b)) app_numbered c.loop-number.number c.args.found.now.items _ _ c.loop-number.invariant (c.in_ok-tell.ensures ∙ ap (λ b. c.loop-number.found.items ++ finding_if (finding.LostTogether c.args.app (app_numbered c.loop-number.number)) b) c.in_ok-holds.ensures)
