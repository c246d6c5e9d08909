use Rattle.std.proofs.Common.{◌≡◌, drop}
use Rattle.rh_otp_sim.specs.Acting.{called_at}
use Rattle.rh_otp_sim.proofs.acting.call_at.Given as goal

abbrev pub invariant-loop-node : goal.invariant-loop-node
invariant-loop-node l = called_at l.ask (drop l.node-index l.nodes) l.app l.system ≡ called_at l.ask l.nodes l.app l.fn.system
