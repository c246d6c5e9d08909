use Rattle.std.proofs.Common.{◌≡◌, ◌++◌, List, IsOk, All, deque_len}
use Rattle.std.specs.List.{flat_map}
use Rattle.rh_otp_sweep.specs.Working.{part_items}
use Rattle.rh_otp_sweep.proofs.Shares.{Part}
use Rattle.rh_otp_sweep.proofs.sharing.joined.Given as goal

abbrev pub invariant-parts : goal.invariant-parts
invariant-parts l =
    (done : List Part) × (l.fn.parts.items ≡ done ++ l.rest.items) × All IsOk done × (l.all.items ≡ flat_map part_items done)

abbrev pub decreases-parts : goal.decreases-parts
decreases-parts l = deque_len l.rest
