-- The nodes and applications of a cluster, by their numbers (ours).
use Rattle.std.specs.Prelude.{List, map, Bool, ◌==◌}
use Rattle.std.specs.List.{range_with_len}
use Rattle.rh_model.specs.ClusterView.{ClusterView, node_count, app_count, numbered, app_numbered}
use Rattle.rh_model.specs.declared.node.Node.{Node}
use Rattle.rh_model.specs.declared.node.App.{App}

-- the nodes of a cluster, in the order of their terms
unfoldable pub nodes_of : ClusterView → List Node
nodes_of c = map numbered (range_with_len 0 (node_count c))

-- its applications, likewise
unfoldable pub apps_of : ClusterView → List App
apps_of c = map app_numbered (range_with_len 0 (app_count c))

abbrev pub same_node : Node → Node → Bool
same_node n m = n.0 == m.0

abbrev pub same_app : App → App → Bool
same_app a b = a.0 == b.0
