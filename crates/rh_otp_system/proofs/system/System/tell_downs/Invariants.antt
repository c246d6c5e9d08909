use Rattle.std.proofs.Common.{◌≡◌, drop}
use Rattle.rh_otp_system.specs.Ending.{downs_told}
use Rattle.rh_otp_system.proofs.system.System.tell_downs.Given as goal

abbrev pub invariant-loop-node : goal.invariant-loop-node
invariant-loop-node l = downs_told l.gone (drop l.node-index l.nodes) l.self ≡ downs_told l.gone l.nodes l.fn.self
