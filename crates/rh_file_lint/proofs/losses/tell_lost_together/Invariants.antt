use Rattle.std.proofs.Common.{◌≡◌, ◌++◌, map}
use Rattle.std.specs.List.{flat_map, range_with_len}
use Rattle.rh_model.specs.declared.node.App.{App}
use Rattle.rh_model.specs.ClusterView.{app_numbered}
use Rattle.rh_file_lint.specs.declared.finding.FileFinding.TheVariants as finding
use Rattle.rh_file_lint.specs.Findings.{finding_if}
use Rattle.rh_file_lint.specs.Losses.{are_lost_together}
use Rattle.rh_file_lint.proofs.losses.tell_lost_together.Given as goal

abbrev pub invariant-loop-number : goal.invariant-loop-number
invariant-loop-number l = l.found.items ≡ l.fn.found.items ++ flat_map (λ (b : App). finding_if (finding.LostTogether l.app b) (are_lost_together l.cluster l.app b)) (map app_numbered (range_with_len 0 l.number))
