use Rattle.std.proofs.Common.{◌≡◌, ◌++◌, take}
use Rattle.std.specs.List.{flat_map}
use Rattle.rh_step_findings.specs.Touched.{touched_with}
use Rattle.rh_step_lint.proofs.step.Step.push_among.Given as goal

abbrev pub invariant-loop-app : goal.invariant-loop-app
invariant-loop-app l = l.touched.items ≡ l.fn.touched.items ++ flat_map (touched_with l.self.state l.self.event l.node) (take l.app-index l.apps)
