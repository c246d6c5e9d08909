use Rattle.std.proofs.Common.{◌≡◌, drop, find}
use Rattle.rh_step_findings.specs.Nodes.{is_left_waiting}
use Rattle.rh_step_lint.proofs.step.Step.first_left_waiting.Given as goal

abbrev pub invariant-others : goal.invariant-others
invariant-others l = find (is_left_waiting l.self.state l.self.event l.node) (drop l.other-index l.nodes)
    ≡ find (is_left_waiting l.self.state l.self.event l.node) l.nodes
