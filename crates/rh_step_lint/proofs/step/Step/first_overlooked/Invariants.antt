use Rattle.std.proofs.Common.{◌≡◌, drop, find}
use Rattle.rh_step_findings.specs.Nodes.{is_overlooked}
use Rattle.rh_step_lint.proofs.step.Step.first_overlooked.Given as goal

abbrev pub invariant-others : goal.invariant-others
invariant-others l = find (is_overlooked l.self.state l.node) (drop l.other-index l.nodes) ≡ find (is_overlooked l.self.state l.node) l.nodes
