use Rattle.std.proofs.Common.{◌≡◌, map}
use Rattle.std.specs.List.{range_with_len}
use Rattle.rh_model.specs.ClusterView.{app_numbered}
use Rattle.rh_file_lint.specs.Circles.{needs_marked}
use Rattle.rh_file_lint.proofs.circles.one_step_more.Given as goal

abbrev pub invariant-loop-number : goal.invariant-loop-number
invariant-loop-number l = l.more.items ≡ map (needs_marked l.cluster l.marks l.other) (map app_numbered (range_with_len 0 l.number))
