use Rattle.std.proofs.Common.{◌≡◌, ◌++◌, take}
use Rattle.std.specs.List.{flat_map}
use Rattle.rh_step_findings.specs.Touched.{found_in}
use Rattle.rh_step_lint.proofs.step.Step.push_of.Given as goal

abbrev pub invariant-loop-touch : goal.invariant-loop-touch
invariant-loop-touch l = l.found.items ≡ l.fn.found.items ++ flat_map (found_in l.self.state l.self.event l.code) (take l.touch-index l.touched)
