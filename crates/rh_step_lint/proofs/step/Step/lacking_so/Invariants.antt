use Rattle.std.proofs.Common.{◌≡◌, drop, find}
use Rattle.rh_step_findings.specs.Lacks.{lacks_so}
use Rattle.rh_step_lint.proofs.step.Step.lacking_so.Given as goal

abbrev pub invariant-needs : goal.invariant-needs
invariant-needs l = find (lacks_so l.self.state l.self.event l.lack l.node l.app) (drop l.dependency-index l.needs)
    ≡ find (lacks_so l.self.state l.self.event l.lack l.node l.app) l.needs
