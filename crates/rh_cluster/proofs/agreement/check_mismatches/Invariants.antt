use Rattle.std.proofs.Common.{◌≡◌, ◌-◌, length}
use Rattle.std.specs.Prelude.{flat_map}
use Rattle.std.specs.List.{range_with_len}
use Rattle.rh_cluster.specs.Agreement.{mismatch_faults, numbers_below}
use Rattle.rh_cluster.proofs.agreement.check_mismatches.Given as goal

abbrev pub invariant-loop-node : goal.invariant-loop-node
invariant-loop-node l =
    flat_map (mismatch_faults l.names l.nodes l.all l.first) (range_with_len l.node (length l.all - l.node)) ≡ flat_map
    (mismatch_faults l.names l.nodes l.all l.first) (numbers_below (length l.all))
