use Rattle.std.proofs.Common.{◌≡◌, ◌++◌, drop, filter}
use Rattle.rh_otp_dist.specs.State.{is_among}
use Rattle.rh_otp_dist.proofs.reading.among.Given as goal

abbrev pub invariant-loop-node : goal.invariant-loop-node
invariant-loop-node l = l.found.items ++ filter (λ n. is_among n l.others) (drop l.node-index l.nodes) ≡ filter (λ n. is_among n l.others) l.nodes
