use Rattle.std.proofs.Common.{◌≡◌, filter, map}
use Rattle.std.specs.List.{range_with_len}
use Rattle.rh_model.specs.ClusterView.{numbered}
use Rattle.rh_otp_dist.specs.State.{may_run}
use Rattle.rh_otp_dist.proofs.reading.permitted.Given as goal

abbrev pub invariant-loop-number : goal.invariant-loop-number
invariant-loop-number l = l.nodes.items ≡ filter (λ n. may_run l.state n l.app) (map numbered (range_with_len 0 l.number))
