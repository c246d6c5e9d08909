use Rattle.std.proofs.Common.{◌≡◌, drop}
use Rattle.rh_otp_dist.specs.Waiting.{introduce}
use Rattle.rh_otp_dist.proofs.turn.Turn.introduce_each.Given as goal

abbrev pub invariant-loop-node : goal.invariant-loop-node
invariant-loop-node l = introduce (drop l.node-index l.nodes) l.message l.self ≡ introduce l.nodes l.message l.fn.self
