-- A node's own `distributed`, as it is written (kernel(6)). Names that the cluster doesn't have are left out (ours: no file that is
-- accepted has one).
use Rattle.std.specs.Prelude.{List, [], true, false, map, filter_map, Option, Some, None}
use Rattle.std.specs.Option.{option_to_list}
use Rattle.rh_base.specs.Tree.{Tree}
use Rattle.rh_model.specs.declared.node.Node.{Node}
use Rattle.rh_model.specs.declared.node.App.{App}
use Rattle.rh_model.specs.ClusterView.{ClusterView, node_of, app_of}
use Rattle.rh_cluster.specs.Shapes.{as_atom, as_tuple, ◌>>=◌}
use Rattle.rh_cluster.specs.Sections.{as_share}
use Rattle.rh_cluster.specs.Values.{elements, time_or_zero}
use Rattle.rh_otp_model.specs.Own.{WrittenView, EntryView, OwnView}

-- the node of this name
unfoldable pub node_by_name : ClusterView → Tree → Option Node
node_by_name c t = as_atom t >>= node_of c

-- the application of this name
unfoldable pub app_by_name : ClusterView → Tree → Option App
app_by_name c t = as_atom t >>= app_of c

-- a place of an application's list: a tuple of nodes, of one too, or a node alone
abbrev pub place_by : ClusterView → Tree → Option (List Tree) → WrittenView
place_by c t (Some ts) = record { is_tuple = true; nodes = filter_map (node_by_name c) ts }
place_by c t None = record { is_tuple = false; nodes = option_to_list (node_by_name c t) }

unfoldable pub place_of : ClusterView → Tree → WrittenView
place_of c t = place_by c t (as_tuple t)

-- an entry {App, Places} or {App, Timeout, Places}; without a timeout it is 0
unfoldable pub entry_of : ClusterView → Tree → Option EntryView
entry_of c t = do
  s ← as_share t
  app ← app_by_name c s.0
  Some (record { app = app; timeout = time_or_zero s.1; places = map (place_of c) (elements s.2) })

-- the value of `distributed`, where there is one; an empty list is one too
abbrev pub own_in : ClusterView → Option Tree → OwnView
own_in c (Some v) = record { has_dist = true; entries = filter_map (entry_of c) (elements v) }
own_in c None = record { has_dist = false; entries = [] }
