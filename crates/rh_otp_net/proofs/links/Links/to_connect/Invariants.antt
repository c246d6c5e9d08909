use Rattle.std.proofs.Common.{◌≡◌, ◌++◌, drop}
use Rattle.std.specs.List.{flat_map}
use Rattle.rh_otp_net.specs.Links.{link, around, joined}
use Rattle.rh_otp_net.proofs.links.Links.to_connect.Given as goal

abbrev pub invariant-loop-node : goal.invariant-loop-node
invariant-loop-node l =
    l.found.items ++ flat_map (λ a. joined (link l.one l.two) l.self a (around l.two l.self)) (drop l.node-index l.node-items)
    ≡ flat_map (λ a. joined (link l.one l.two) l.self a (around l.two l.self)) (around l.one l.self)
