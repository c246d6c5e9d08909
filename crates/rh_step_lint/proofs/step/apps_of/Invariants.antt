use Rattle.std.proofs.Common.{◌≡◌, map}
use Rattle.std.specs.List.{range_with_len}
use Rattle.rh_model.specs.ClusterView.{app_numbered}
use Rattle.rh_step_lint.proofs.step.apps_of.Given as goal

abbrev pub invariant-loop-number : goal.invariant-loop-number
invariant-loop-number l = l.apps.items ≡ map app_numbered (range_with_len 0 l.number)
