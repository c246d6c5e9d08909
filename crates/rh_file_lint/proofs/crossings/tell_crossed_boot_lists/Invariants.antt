use Rattle.std.proofs.Common.{◌≡◌, ◌++◌, map}
use Rattle.std.specs.List.{flat_map, range_with_len}
use Rattle.rh_model.specs.ClusterView.{app_numbered}
use Rattle.rh_file_lint.specs.Findings.{crossed_with}
use Rattle.rh_file_lint.proofs.crossings.tell_crossed_boot_lists.Given as goal

abbrev pub invariant-loop-number : goal.invariant-loop-number
invariant-loop-number l = l.found.items ≡ l.fn.found.items ++ flat_map (crossed_with l.cluster l.app) (map app_numbered (range_with_len 0 l.number))
