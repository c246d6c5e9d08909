-- Applications that are lost together and whose standbys wait for one another (kernel(6), distributed; a live OTP).
use Rattle.std.specs.Prelude.{ℕ, Bool, false, not, ◌&&◌, ◌||◌, ◌==◌, nat_lt, nat_le, List, map, Option, Some, None}
use Rattle.std.specs.List.{list_any}
use Rattle.rh_model.specs.ClusterView.{ClusterView, spread_of, group_of}
use Rattle.rh_model.specs.declared.node.Node.{Node}
use Rattle.rh_model.specs.declared.node.App.{App}
use Rattle.rh_model.specs.declared.settings.Spread.{Spread}
use Rattle.rh_state.specs.Numbers.{nodes_of, same_node}
use Rattle.rh_file_lint.specs.Cluster.{comes_before}
use Rattle.rh_file_lint.specs.declared.losses.Place.{Place}

-- both are distributed, and have the same failover timeout
abbrev pub are_timed_alike : Option Spread → Option Spread → Bool
are_timed_alike (Some s) (Some t) = s.timeout == t.timeout
are_timed_alike _ _ = false

-- one group is another one, where both are there
abbrev pub is_same_group : Option ℕ → Option ℕ → Bool
is_same_group (Some i) (Some j) = i == j
is_same_group _ _ = false

-- one group stands before another one or is that, where both are there
abbrev pub isnt_behind : Option ℕ → Option ℕ → Bool
isnt_behind (Some i) (Some j) = nat_le i j
isnt_behind _ _ = false

-- the place of a node: its group in the list of one application, and in that of another one
abbrev pub place_of : ClusterView → App → App → Node → Place
place_of c a b n = record { node = n; first = group_of c a n; second = group_of c b n }

-- two nodes can wait for one another: a list has both in one group, or the first list has them in one order and the second one in
-- the other
unfoldable pub can_contend : Place → Place → Bool
can_contend n m =
    is_same_group n.first m.first
    || is_same_group n.second m.second
    || (comes_before n.first m.first && comes_before m.second n.second)

-- a node can be a standby of both applications where they run at another one: it stands behind that or beside it in both lists
unfoldable pub is_standby_of : Place → Place → Bool
is_standby_of k n = not (same_node k.node n.node) && isnt_behind k.first n.first && isnt_behind k.second n.second

-- both applications can be lost with one of the nodes to these two standbys
unfoldable pub can_be_lost_to : List Place → Place → Place → Bool
can_be_lost_to places n m =
    not (same_node n.node m.node) && can_contend n m && list_any (λ (k : Place). is_standby_of k n && is_standby_of k m) places

-- they can be lost to a node and a rival of it
unfoldable pub has_rival : List Place → Place → Bool
has_rival places n = list_any (can_be_lost_to places n) places

-- two distributed applications with one timeout, the first one before the other in the file
abbrev pub is_timed_pair : ClusterView → App → App → Bool
is_timed_pair c a b = nat_lt a.0 b.0 && are_timed_alike (spread_of c a) (spread_of c b)

-- they can be lost with one node to two standbys that can wait for one another
unfoldable pub are_lost_together : ClusterView → App → App → Bool
are_lost_together c a b =
    is_timed_pair c a b && list_any (has_rival (map (place_of c a b) (nodes_of c))) (map (place_of c a b) (nodes_of c))
