use Rattle.std.proofs.Common.{◌++◌, ap, ◌∙◌}
use Rattle.rh_model.specs.declared.node.App.{App}
use Rattle.rh_model.specs.ClusterView.{app_numbered}
use Rattle.rh_file_lint.specs.declared.finding.FileFinding.TheVariants as finding
use Rattle.rh_file_lint.specs.Findings.{finding_if}
use Rattle.rh_file_lint.specs.BootLists.{isnt_booted}
use Rattle.rh_file_lint.proofs.OneMore.{told_more}
use Rattle.rh_file_lint.proofs.at_nodes.tell_not_booted.Goals as goal

pub loop-number-preserved : goal.loop-number-preserved
loop-number-preserved c = told_more (λ (a : App). finding_if (finding.NotBootedAtListedNode c.args.node a) (isnt_booted c.args.cluster.now c.args.node a)) app_numbered c.loop-number.number c.args.found.now.items _ _ c.loop-number.invariant (c.in_ok-tell.ensures ∙ ap (λ b. c.loop-number.found.items ++ finding_if (finding.NotBootedAtListedNode c.args.node (app_numbered c.loop-number.number)) b) c.isnt_booted-holds.ensures)
