use Rattle.std.proofs.Common.{◌≡◌, false, map}
use Rattle.std.specs.List.{list_any, range_with_len}
use Rattle.rh_model.specs.ClusterView.{app_numbered}
use Rattle.rh_file_lint.specs.Cluster.{is_distributed}
use Rattle.rh_file_lint.proofs.findings.has_distributed.Given as goal

abbrev pub invariant-loop-number : goal.invariant-loop-number
invariant-loop-number l = list_any (is_distributed l.cluster) (map app_numbered (range_with_len 0 l.number)) ≡ false
