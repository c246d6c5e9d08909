-- The lists of nodes for which a node waits at its start (kernel(6), sync_nodes_mandatory, sync_nodes_optional). That a node isn't
-- named where it should be is told once: by `has_no_lists` of the node whose lists lack it, where these name nobody; else by
-- `is_one_sided`, where it names that node itself; else by `is_incomplete`.
use Rattle.std.specs.Prelude.{Bool, not, ◌&&◌, ◌||◌, List}
use Rattle.std.specs.List.{list_any}
use Rattle.rh_model.specs.ClusterView.{ClusterView, mandatory_of, optional_of, is_in}
use Rattle.rh_model.specs.declared.node.Node.{Node}
use Rattle.rh_model.specs.declared.node.App.{App}
use Rattle.rh_state.specs.Numbers.{same_node}
use Rattle.rh_file_lint.specs.Cluster.{some_node, some_app, is_in_list}

-- does a node name the other one in its lists?
unfoldable pub names : ClusterView → Node → Node → Bool
names c n m = is_in m (mandatory_of c n) || is_in m (optional_of c n)

-- has a list a node other than this one?
abbrev pub has_other : Node → List Node → Bool
has_other n nodes = list_any (λ (m : Node). not (same_node n m)) nodes

-- has a node lists, of others than itself?
unfoldable pub has_lists : ClusterView → Node → Bool
has_lists c n = has_other n (mandatory_of c n) || has_other n (optional_of c n)

-- does one distributed application list both nodes, which differ?
unfoldable pub share_app : ClusterView → Node → Node → Bool
share_app c n m = not (same_node n m) && some_app c (λ (a : App). is_in_list c a n && is_in_list c a m)

-- a node that shares a distributed application with another one has no lists: nodes never connect, and each may run an instance of
-- its own (kernel(6), sync_nodes_mandatory; a live OTP)
unfoldable pub has_no_lists : ClusterView → Node → Bool
has_no_lists c n = not (has_lists c n) && some_node c (share_app c n)

-- a node names the other one, which has lists without it: the first one waits for a node that doesn't look for it (a live OTP)
unfoldable pub is_one_sided : ClusterView → Node → Node → Bool
is_one_sided c n m = names c n m && has_lists c m && not (names c m n) && share_app c n m

-- a node has lists without the other one, and isn't named by it: the two may never introduce themselves (a live OTP)
unfoldable pub is_incomplete : ClusterView → Node → Node → Bool
is_incomplete c n m = has_lists c n && not (names c n m) && not (names c m n) && share_app c n m
