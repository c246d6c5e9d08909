use Rattle.std.proofs.Common.{◌≡◌, length}
use Rattle.std.specs.List.{find, range_with_len}
use Rattle.std.specs.Prelude.{◌-◌}
use Rattle.rh_cluster.specs.Agreement.{is_involved, numbers_below}
use Rattle.rh_cluster.proofs.agreement.first_involved.Given as goal

abbrev pub invariant-loop-node : goal.invariant-loop-node
invariant-loop-node l =
    find (is_involved l.all) (range_with_len l.node (length l.all - l.node)) ≡ find (is_involved l.all) (numbers_below (length l.all))
