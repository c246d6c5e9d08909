use Rattle.std.proofs.Common.{◌≡◌, filter, map}
use Rattle.std.specs.List.{range_with_len}
use Rattle.rh_model.specs.ClusterView.{numbered}
use Rattle.rh_otp_sim.specs.Refusing.{is_host}
use Rattle.rh_otp_sim.proofs.sim.LiveSim.hosts.Given as goal

abbrev pub invariant-loop-number : goal.invariant-loop-number
invariant-loop-number l = l.nodes.items ≡ filter (is_host l.self l.app) (map numbered (range_with_len 0 l.number))
