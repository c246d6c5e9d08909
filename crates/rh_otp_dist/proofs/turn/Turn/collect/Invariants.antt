use Rattle.std.proofs.Common.{◌≡◌, drop}
use Rattle.rh_otp_dist.specs.Choosing.{answers_from, left_of}
use Rattle.rh_otp_dist.proofs.turn.Turn.collect.Given as goal

abbrev pub invariant-loop-count : goal.invariant-loop-count
invariant-loop-count l = record {
  answers : answers_from l.self.here.node l.self.state l.app l.answers.items (drop l.count l.nodes)
      ≡ answers_from l.self.here.node l.self.state l.app l.fn.answers.items l.nodes;
  left : left_of l.self.here.node l.self.state l.app (drop l.count l.nodes) ≡ left_of l.self.here.node l.self.state l.app l.nodes;
}
