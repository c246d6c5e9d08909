use Rattle.std.proofs.Common.{List, [], map, rules, sym}
use Rattle.std.specs.Prelude.{flat_map}
use Rattle.rh_base.specs.Tree.{Tree, tree_of}
use Rattle.rh_cluster.specs.declared.fault.ClusterFault.{ClusterFault}
use Rattle.rh_cluster.specs.Faults.{in_turn}
use Rattle.rh_cluster.specs.Sections.{node_name_faults, members}
use Rattle.rh_cluster.proofs.InTurn.{in_turn-groups}
use Rattle.rh_cluster.proofs.MemberNames.{desc_faults-groups}
use Rattle.rh_cluster.proofs.descriptions.check_description.Goals as goal

pub returns : goal.returns
returns c =
    let names = c.args.names.now in
    let groups = c.in-Some.groups.now in
    let faults : List Tree → Tree → List ClusterFault = λ before g. in_turn (node_name_faults names) (flat_map members before) (members g) in
    rw (
      ← desc_faults-groups names (tree_of c.args.value.now) groups (sym c.if-is_empty.ensures) c.in-Some.ensures,
      ← in_turn-groups (node_name_faults names) members [] (map tree_of groups),
    )
    (c.check_each.ensures.exact faults (search rules))
