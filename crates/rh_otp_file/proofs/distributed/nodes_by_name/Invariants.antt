use Rattle.std.proofs.Common.{◌≡◌, map, take}
use Rattle.std.specs.Prelude.{filter_map}
use Rattle.rh_base.specs.Tree.{tree_of}
use Rattle.rh_otp_file.specs.Distributed.{node_by_name}
use Rattle.rh_otp_file.proofs.distributed.nodes_by_name.Given as goal

abbrev pub invariant-loop-term : goal.invariant-loop-term
invariant-loop-term l = l.nodes.items ≡ filter_map (node_by_name l.cluster) (map tree_of (take l.term-index l.terms))
