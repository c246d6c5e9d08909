use Rattle.std.proofs.Common.{◌≡◌, ◌++◌, drop}
use Rattle.rh_otp_net.specs.Links.{joined}
use Rattle.rh_otp_net.proofs.links.Links.join_each.Given as goal

abbrev pub invariant-loop-other : goal.invariant-loop-other
invariant-loop-other l =
    l.found.items ++ joined l.pair l.self l.node (drop l.other-index l.others)
    ≡ l.fn.found.items ++ joined l.pair l.self l.node l.others
