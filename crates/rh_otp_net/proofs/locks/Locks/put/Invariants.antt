use Rattle.std.proofs.Common.{◌≡◌, ◌++◌, drop}
use Rattle.rh_otp_net.specs.Locks.{held_at}
use Rattle.rh_otp_net.proofs.locks.Locks.put.Given as goal

abbrev pub invariant-loop-node : goal.invariant-loop-node
invariant-loop-node l =
    l.self-inside.rows.items ++ held_at l.requester l.owner (drop l.node-index l.nodes)
    ≡ l.fn.self ++ held_at l.requester l.owner l.nodes
