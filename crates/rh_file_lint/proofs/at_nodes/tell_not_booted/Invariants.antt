use Rattle.std.proofs.Common.{◌≡◌, ◌++◌, map}
use Rattle.std.specs.List.{flat_map, range_with_len}
use Rattle.rh_model.specs.declared.node.App.{App}
use Rattle.rh_model.specs.ClusterView.{app_numbered}
use Rattle.rh_file_lint.specs.declared.finding.FileFinding.TheVariants as finding
use Rattle.rh_file_lint.specs.Findings.{finding_if}
use Rattle.rh_file_lint.specs.BootLists.{isnt_booted}
use Rattle.rh_file_lint.proofs.at_nodes.tell_not_booted.Given as goal

abbrev pub invariant-loop-number : goal.invariant-loop-number
invariant-loop-number l = l.found.items ≡ l.fn.found.items ++ flat_map (λ (a : App). finding_if (finding.NotBootedAtListedNode l.node a) (isnt_booted l.cluster l.node a)) (map app_numbered (range_with_len 0 l.number))
