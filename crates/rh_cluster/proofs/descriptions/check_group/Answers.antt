use Rattle.std.proofs.Common.{List, ◌++◌, map, rules}
use Rattle.std.specs.Prelude.{flat_map}
use Rattle.rh_base.specs.Tree.{Tree, tree_of}
use Rattle.rh_cluster.specs.declared.fault.ClusterFault.{ClusterFault}
use Rattle.rh_cluster.specs.Sections.{node_name_faults, members}
use Rattle.rh_cluster.proofs.InTurn.{in_turn-behind}
use Rattle.rh_cluster.proofs.descriptions.check_group.Goals as goal

pub returns : goal.returns
returns c =
    let before = flat_map members (map tree_of c.args.before.now) in
    let faults : List Tree → Tree → List ClusterFault = λ earlier t. node_name_faults c.args.names.now (before ++ earlier) t in
    rw (← in_turn-behind (node_name_faults c.args.names.now) before (members (tree_of c.args.group.now)), ← c.members.ensures)
    (c.check_each.ensures.exact faults (search rules))
