use Rattle.std.proofs.Common.{◌≡◌, map, take}
use Rattle.std.specs.Prelude.{filter_map}
use Rattle.rh_base.specs.Tree.{tree_of}
use Rattle.rh_cluster.specs.Values.{share_of}
use Rattle.rh_cluster.proofs.building_shares.shares_of.Given as goal

abbrev pub invariant-loop-term : goal.invariant-loop-term
invariant-loop-term l = l.shares.items ≡ filter_map (share_of l.names) (map tree_of (take l.term-index l.terms))
