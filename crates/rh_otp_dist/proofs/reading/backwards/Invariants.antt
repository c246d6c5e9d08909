use Rattle.std.proofs.Common.{◌≡◌, ◌++◌, drop, reverse}
use Rattle.std.specs.List.{flat_map}
use Rattle.rh_otp_model.specs.Own.{WrittenView}
use Rattle.rh_otp_dist.specs.Choosing.{backwards}
use Rattle.rh_otp_dist.proofs.reading.backwards.Given as goal

abbrev pub invariant-loop-written : goal.invariant-loop-written
invariant-loop-written l =
    flat_map (λ (w : WrittenView). w.nodes) (reverse (drop l.written-index l.written-items)) ++ l.nodes.items ≡ backwards l.own l.fn.app
