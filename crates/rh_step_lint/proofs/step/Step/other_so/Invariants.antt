use Rattle.std.proofs.Common.{◌≡◌, drop, find}
use Rattle.rh_step_findings.specs.Others.{stands_so}
use Rattle.rh_step_lint.proofs.step.Step.other_so.Given as goal

abbrev pub invariant-others : goal.invariant-others
invariant-others l = find (stands_so l.self.state l.self.event l.relation l.node l.app) (drop l.other-index l.nodes)
    ≡ find (stands_so l.self.state l.self.event l.relation l.node l.app) l.nodes
