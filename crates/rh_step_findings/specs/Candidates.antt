-- Which nodes may run a distributed application behind a step, started there or not, and which of them a live OTP asks (Distributed
-- Applications; kernel(6), distributed). The rules ask those alone that have it started.
use Rattle.std.specs.Prelude.{ℕ, Bool, false, not, Option, Some, None, is_some, ◌&&◌, ◌||◌, ◌++◌, ◌==◌}
use Rattle.rh_model.specs.ClusterView.{is_in}
use Rattle.rh_rules.specs.Prelude.{list_any, ClusterView, group_of, sync_wait_of, mandatory_of, optional_of, App, Node, SyncWait, Unset, same_node, nodes_of, apps_of, StateView}
use Rattle.rh_rules.specs.Moves.{comes_before}
use Rattle.rh_rules.specs.declared.event.Event.{Event}
use Rattle.rh_step_findings.specs.After.{is_up_after, is_started_after, is_permitted_after}

-- a node's group stands before that of another one in the list
abbrev pub ranks_before : ClusterView → App → Node → Node → Bool
ranks_before c a n m = comes_before (group_of c a n) (group_of c a m)

-- both places are there, and are one
abbrev pub same_place : Option ℕ → Option ℕ → Bool
same_place None place = false
same_place (Some i) None = false
same_place (Some i) (Some j) = i == j

-- two nodes stand in one group of the list
abbrev pub share_group : ClusterView → App → Node → Node → Bool
share_group c a n m = same_place (group_of c a n) (group_of c a m)

-- a node's group is written as a tuple: another node stands in it, too
unfoldable pub is_in_tuple : ClusterView → App → Node → Bool
is_in_tuple c a n = list_any (λ m. not (same_node n m) && share_group c a n m) (nodes_of c)

-- a node stands in the list of some distributed application
unfoldable pub takes_part : ClusterView → Node → Bool
takes_part c n = list_any (λ a. is_some (group_of c a n)) (apps_of c)

-- a node is in the lists of one that waits for others at its start (kernel(6), sync_nodes_timeout)
abbrev pub is_in_lists : ClusterView → Node → Node → SyncWait → Bool
is_in_lists c n m Unset = false
is_in_lists c n m _ = is_in m (mandatory_of c n ++ optional_of c n)

-- one of two nodes waits for the other at its start: else nothing need connect them (docs/LIVE_OTP.md, incomplete-lists)
abbrev pub are_linked : ClusterView → Node → Node → Bool
are_linked c n m = is_in_lists c n m (sync_wait_of c n) || is_in_lists c m n (sync_wait_of c m)

-- a node of the list is up and permitted behind the step
unfoldable pub is_available : StateView → Event → App → Node → Bool
is_available s e a n = is_some (group_of s.cluster a n) && (is_up_after s e n && is_permitted_after s e n a)

-- one of an earlier group than a node's is
unfoldable pub is_outranked : StateView → Event → App → Node → Bool
is_outranked s e a n = list_any (λ m. ranks_before s.cluster a m n && is_available s e a m) (nodes_of s.cluster)

-- a node is of the best group that has an available one, and is available itself
unfoldable pub is_best : StateView → Event → App → Node → Bool
is_best s e a n = is_available s e a n && not (is_outranked s e a n)

-- a tuple comes before all groups of one node that have an available one: then all available nodes of the list tell their weight
unfoldable pub asks_all : StateView → Event → App → Bool
asks_all s e a = list_any (λ n. is_in_tuple s.cluster a n && not (is_outranked s e a n)) (nodes_of s.cluster)

-- another node is available, hasn't started the application behind the step, and is linked to the first one
unfoldable pub is_idle : StateView → Event → Node → App → Node → Bool
is_idle s e n a m = not (same_node n m) && (is_available s e a m && (not (is_started_after s e m a) && are_linked s.cluster n m))

-- and is waited for: it is of the best group, or all are asked
unfoldable pub holds_up : StateView → Event → Node → App → Node → Bool
holds_up s e n a m = is_idle s e n a m && (is_best s e a m || asks_all s e a)
