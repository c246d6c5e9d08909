use Rattle.std.proofs.Common.{◌≡◌, ◌++◌, map}
use Rattle.std.specs.List.{flat_map, range_with_len}
use Rattle.rh_model.specs.ClusterView.{app_numbered}
use Rattle.rh_file_lint.specs.Findings.{crossed_boot_lists}
use Rattle.rh_file_lint.proofs.crossings.tell_crossings.Given as goal

abbrev pub invariant-loop-number : goal.invariant-loop-number
invariant-loop-number l = l.found.items ≡ l.fn.found.items ++ flat_map (crossed_boot_lists l.cluster) (map app_numbered (range_with_len 0 l.number))
