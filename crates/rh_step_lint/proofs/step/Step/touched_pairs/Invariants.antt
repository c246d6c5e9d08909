use Rattle.std.proofs.Common.{◌≡◌, take}
use Rattle.std.specs.List.{flat_map}
use Rattle.rh_step_findings.specs.Touched.{touched_at}
use Rattle.rh_step_lint.proofs.step.Step.touched_pairs.Given as goal

abbrev pub invariant-loop-node : goal.invariant-loop-node
invariant-loop-node l = l.touched.items ≡ flat_map (touched_at l.self.state l.self.event) (take l.node-index l.nodes)
