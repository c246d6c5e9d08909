use Rattle.std.proofs.Common.{◌≡◌, drop}
use Rattle.rh_otp_dist.specs.Sending.{send_all}
use Rattle.rh_otp_dist.proofs.turn.Turn.send_all.Given as goal

-- its own node stays what it was
abbrev pub invariant-loop-node : goal.invariant-loop-node
invariant-loop-node l = record {
  told : send_all (drop l.node-index l.nodes) l.message l.self ≡ send_all l.nodes l.message l.fn.self;
  here : l.here ≡ l.self.here.node;
}
