use Rattle.std.proofs.Common.{◌≡◌, ◌++◌, take}
use Rattle.std.specs.List.{flat_map}
use Rattle.std.specs.String.{string_bytes}
use Rattle.rh_cluster_lint.specs.Ways.{step_way}
use Rattle.rh_cluster_lint.proofs.ways.push_steps.Given as goal

abbrev pub invariant-loop-step : goal.invariant-loop-step
invariant-loop-step l = string_bytes l.way ≡ string_bytes l.fn.way ++ flat_map (step_way l.text) (take l.step-index l.steps)
