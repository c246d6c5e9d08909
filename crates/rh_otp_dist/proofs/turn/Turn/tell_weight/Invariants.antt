use Rattle.std.proofs.Common.{◌≡◌, drop}
use Rattle.rh_otp_dist.specs.Choosing.{tell_weight}
use Rattle.rh_otp_dist.proofs.turn.Turn.tell_weight.Given as goal

-- its own node stays what it was
abbrev pub invariant-loop-node : goal.invariant-loop-node
invariant-loop-node l = record {
  told : tell_weight l.app l.weight (drop l.node-index l.nodes) l.self ≡ tell_weight l.app l.weight l.nodes l.fn.self;
  here : l.here ≡ l.self.here.node;
}
