use Rattle.std.proofs.Common.{◌≡◌, ◌++◌, take}
use Rattle.std.specs.List.{flat_map}
use Rattle.rh_step_findings.specs.Findings.{waits_found}
use Rattle.rh_step_lint.proofs.step.Step.push_waits.Given as goal

abbrev pub invariant-loop-node : goal.invariant-loop-node
invariant-loop-node l = l.found.items ≡ l.fn.found.items ++ flat_map (waits_found l.self.state l.self.event) (take l.node-index l.nodes)
