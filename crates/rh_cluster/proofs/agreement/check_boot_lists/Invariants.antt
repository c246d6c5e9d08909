use Rattle.std.proofs.Common.{◌≡◌, ◌-◌, length}
use Rattle.std.specs.Prelude.{flat_map}
use Rattle.std.specs.List.{range_with_len}
use Rattle.rh_cluster.specs.Agreement.{boot_list_faults, numbers_below}
use Rattle.rh_cluster.proofs.agreement.check_boot_lists.Given as goal

abbrev pub invariant-loop-node : goal.invariant-loop-node
invariant-loop-node l =
    flat_map (boot_list_faults l.shares l.nodes) (range_with_len l.node (length l.nodes - l.node)) ≡ flat_map (boot_list_faults l.shares l.nodes)
    (numbers_below (length l.nodes))
