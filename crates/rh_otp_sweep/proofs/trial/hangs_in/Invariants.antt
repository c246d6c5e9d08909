use Rattle.std.proofs.Common.{◌≡◌, ◌++◌, drop}
use Rattle.rh_otp_sweep.specs.Outcomes.{hangs_in}
use Rattle.rh_otp_sweep.proofs.trial.hangs_in.Given as goal

abbrev pub invariant-loop-node : goal.invariant-loop-node
invariant-loop-node l = l.hangs.items ++ hangs_in (drop l.node-index l.nodes) ≡ hangs_in l.nodes
