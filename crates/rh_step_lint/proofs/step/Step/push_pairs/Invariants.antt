use Rattle.std.proofs.Common.{◌≡◌, ◌++◌, take}
use Rattle.std.specs.List.{flat_map}
use Rattle.rh_step_findings.specs.Findings.{found_of}
use Rattle.rh_step_lint.proofs.step.Step.push_pairs.Given as goal

abbrev pub invariant-loop-code : goal.invariant-loop-code
invariant-loop-code l = l.found.items ≡ l.fn.found.items ++ flat_map (found_of l.self.state l.self.event) (take l.code-index l.codes)
