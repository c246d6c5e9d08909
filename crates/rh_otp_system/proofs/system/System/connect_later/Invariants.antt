use Rattle.std.proofs.Common.{◌≡◌, drop}
use Rattle.rh_otp_system.specs.Connecting.{with_slow_links}
use Rattle.rh_otp_system.proofs.system.System.connect_later.Given as goal

abbrev pub invariant-loop-link : goal.invariant-loop-link
invariant-loop-link l = with_slow_links (drop l.link-index l.links) l.self ≡ with_slow_links l.links l.fn.self
