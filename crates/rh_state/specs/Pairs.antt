-- Pairs of a node and an application, as the entries of linked lists (ours).
use Rattle.std.specs.Prelude.{ℕ, ◌+◌, ◌-◌, ◌*◌, ◌<◌, ◌≤◌, List, map}
use Rattle.rh_model.specs.ClusterView.{ClusterView, node_count, app_count, app_numbered}
use Rattle.rh_model.specs.declared.node.Node.{Node}
use Rattle.rh_model.specs.declared.node.App.{App}
use Rattle.rh_arena.specs.Words.{Words}
use Rattle.rh_arena.specs.Lists.{listed}
use Rattle.rh_state.specs.Numbers.{nodes_of}

-- pairs are numbered node by node
abbrev pub pair_number : ClusterView → Node → App → ℕ
pair_number c n a = n.0 * app_count c + a.0

-- the number is that of a pair of this node
abbrev pub IsPairOfNode : ClusterView → Node → ℕ → Type 0
IsPairOfNode c n p = (n.0 * app_count c ≤ p) × (p < n.0 * app_count c + app_count c)

-- the application of a node's pair
abbrev pub app_of_pair : ClusterView → Node → ℕ → App
app_of_pair c n p = app_numbered (p - n.0 * app_count c)

-- first come the lists of what runs at each node, and then those of what waits there
abbrev pub running_list : Node → ℕ
running_list n = n.0

abbrev pub waiting_list : ClusterView → Node → ℕ
waiting_list c n = node_count c + n.0

-- the applications in a list of a node's pairs
abbrev pub apps_in : ClusterView → Words → Node → ℕ → List App
apps_in c links n l = map (app_of_pair c n) (listed links l)

-- those that run at each node, and those that wait there
unfoldable pub running_in : ClusterView → Words → List (List App)
running_in c links = map (λ n. apps_in c links n (running_list n)) (nodes_of c)

unfoldable pub waiting_in : ClusterView → Words → List (List App)
waiting_in c links = map (λ n. apps_in c links n (waiting_list c n)) (nodes_of c)
