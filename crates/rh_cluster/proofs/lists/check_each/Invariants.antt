use Rattle.std.proofs.Common.{◌≡◌, [], map, take}
use Rattle.rh_base.specs.Tree.{tree_of}
use Rattle.rh_cluster.specs.Faults.{in_turn}
use Rattle.rh_cluster.specs.Tests.{FindsOfEach, FindsFirstOfEach}
use Rattle.rh_cluster.proofs.lists.check_each.Given as goal

abbrev pub invariant-loop-index : goal.invariant-loop-index
invariant-loop-index g l = record {
  finds : (faults : _) → FindsOfEach g.F.Fn l.test faults → in_turn faults [] (map tree_of (take l.index l.terms)) ≡ [];
  exact : (faults : _) → FindsFirstOfEach g.F.Fn l.test faults → in_turn faults [] (map tree_of (take l.index l.terms)) ≡ [];
}
