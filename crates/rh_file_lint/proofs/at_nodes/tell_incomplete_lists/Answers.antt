use Rattle.std.proofs.Common.{◌++◌, ap, ◌∙◌}
use Rattle.rh_model.specs.declared.node.Node.{Node}
use Rattle.rh_model.specs.ClusterView.{numbered}
use Rattle.rh_file_lint.specs.declared.finding.FileFinding.TheVariants as finding
use Rattle.rh_file_lint.specs.Findings.{finding_if}
use Rattle.rh_file_lint.specs.SyncLists.{is_incomplete}
use Rattle.rh_file_lint.proofs.OneMore.{told_more}
use Rattle.rh_file_lint.proofs.at_nodes.tell_incomplete_lists.Goals as goal

pub loop-number-preserved : goal.loop-number-preserved
loop-number-preserved c = told_more (λ (m : Node). finding_if (finding.IncompleteLists c.args.node m) (is_incomplete c.args.cluster.now c.args.node m)) numbered c.loop-number.number c.args.found.now.items _ _ c.loop-number.invariant (c.in_ok-tell.ensures ∙ ap (λ b. c.loop-number.found.items ++ finding_if (finding.IncompleteLists c.args.node (numbered c.loop-number.number)) b) c.is_incomplete-holds.ensures)
