use Rattle.std.proofs.Common.{◌≡◌, take}
use Rattle.std.specs.List.{flat_map}
use Rattle.rh_step_findings.specs.Touched.{mover}
use Rattle.rh_step_lint.proofs.step.Step.movers.Given as goal

abbrev pub invariant-loop-app : goal.invariant-loop-app
invariant-loop-app l = l.movers.items ≡ flat_map (mover l.self.state l.self.event) (take l.app-index l.apps)
