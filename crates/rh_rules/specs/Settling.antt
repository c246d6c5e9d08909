-- RULES, "Applications start", Settling: moves until none is enabled, and then the pairs that wait (Distributed Applications, Failover,
-- Takeover; app(4), applications; ours for the order).
use Rattle.std.specs.Prelude.{Bool, true, false, IsSome, List, position, nat_lt, fold, Option, Some, None, ℕ, zero, suc, ◌≡◌, ◌≤◌, ◌&&◌, ◌||◌, ◌==◌, [], ◌∷◌, if◌then◌else◌, ◌*◌}
use Rattle.rh_rules.specs.Prelude.{or_else, first_given, group_of, ClusterView, node_count, app_count, App, Node, same_app, nodes_of, apps_of, IsNodeOf, IsAppOf, StateView, running_count, waits_at, is_allowed, standing_of, waiting_at, Wanted, Running, Move, Local, Placement, Takeover, Notice, Pair, Pick}
use Rattle.rh_rules.specs.Course.{is_local, Course, fresh_of, told}
use Rattle.rh_rules.specs.Placing.{deps_run, is_operational, picked}
use Rattle.rh_rules.specs.Moves.{comes_before, calls_away, moved, local_moves, placements, takeovers}

-- ---- what the rules allow, without a search and without a bound
-- a node of the application's list passes a test, none of an earlier group does, and at none of the same group that does
-- fewer applications run (Distributed Applications)
pub record IsBest (s : StateView) (a : App) (test : Node → Bool) (n : Node) : Type 0 where
  pub listed : IsSome (group_of s.cluster a n)
  pub passes : test n ≡ true
  pub first : (k : Node) → test k ≡ true → comes_before (group_of s.cluster a k) (group_of s.cluster a n) ≡ false
  pub fewest : (k : Node) → test k ≡ true → group_of s.cluster a k ≡ group_of s.cluster a n → running_count s n ≤ running_count s k

-- a local application waits where it may run and all that it needs runs (app(4), applications); one that is to run can run
-- at a best node (Starting and Stopping Distributed Applications, Failover); and a best node of those that call it away
-- takes one over (Takeover)
abbrev pub IsEnabled : StateView → List Pair → Move → Type 0
IsEnabled s fresh (Local n a) =
    IsNodeOf s.cluster n × (is_local s.cluster a ≡ true) × (waits_at s n a ≡ true) × (is_allowed s n a ≡ true) × (deps_run s n a ≡ true)
IsEnabled s fresh (Placement a from n) = IsAppOf s.cluster a × (standing_of s a ≡ Wanted from) × IsBest s a (is_operational s a) n
IsEnabled s fresh (Takeover a m n) = IsAppOf s.cluster a × (standing_of s a ≡ Running m) × IsBest s a (calls_away s fresh a m) n

-- an application stands before another in a list
abbrev pub stands_before : List App → App → App → Bool
stands_before apps a b = comes_before (position (same_app a) apps) (position (same_app b) apps)

-- local moves go before placements, and these before takeovers; local ones by node, and at a node as they wait there;
-- placements and takeovers by application (ours)
abbrev pub goes_before : StateView → Move → Move → Bool
goes_before s (Local n a) (Local m b) = nat_lt n.0 m.0 || ((n.0 == m.0) && stands_before (waiting_at s n) a b)
goes_before s (Local n a) (Placement b from m) = true
goes_before s (Local n a) (Takeover b k m) = true
goes_before s (Placement a from n) (Local m b) = false
goes_before s (Placement a from n) (Placement b last m) = nat_lt a.0 b.0
goes_before s (Placement a from n) (Takeover b k m) = true
goes_before s (Takeover a k n) (Local m b) = false
goes_before s (Takeover a k n) (Placement b from m) = false
goes_before s (Takeover a k n) (Takeover b l m) = nat_lt a.0 b.0

-- a move is enabled, and no enabled one goes before it
pub record IsFirst (s : StateView) (fresh : List Pair) (move : Move) : Type 0 where
  pub enabled : IsEnabled s fresh move
  pub first : (other : Move) → IsEnabled s fresh other → goes_before s other move ≡ false

-- no move is enabled
abbrev pub NoneEnabled : StateView → List Pair → Type 0
NoneEnabled s fresh = (move : Move) → IsEnabled s fresh move → ⊥

-- when a move is made no other that is enabled goes before it, and behind the last none is enabled
abbrev pub AreFirst : Course → List Move → Type 0
AreFirst o [] = NoneEnabled o.state (fresh_of o)
AreFirst o (move ∷ moves) = IsFirst o.state (fresh_of o) move × AreFirst (moved o move) moves

-- each marked pair that waits is told, in marking order
abbrev pub tell_waiting : Course → Pair → Course
tell_waiting o p = if waits_at o.state p.node p.app then told o (Notice.Waits p.app p.node) else o

-- all of them
abbrev pub waits_told : Course → Course
waits_told o = fold tell_waiting o o.marked

-- settling, with ties free
pub record Settles (o p : Course) : Type 0 where
  pub moves : List Move
  pub are_first : AreFirst o moves
  pub outcome : p ≡ waits_told (fold moved o moves)

-- ---- what is taken, by the search
-- the next moves, which are equally good: a local one at the first node that has any, else the placements of the first
-- application that has any, else the takeovers of the first application that has any
unfoldable pub next_moves : StateView → List Pair → List Move
next_moves s fresh =
    or_else (first_given (local_moves s) (nodes_of s.cluster))
    (or_else (first_given (placements s) (apps_of s.cluster))
    (first_given (takeovers s fresh) (apps_of s.cluster)))

-- the next moves, with the pairs that are fresh on this way
abbrev pub nexts : Course → List Move
nexts o = next_moves o.state (fresh_of o)

-- the moves in which each tie goes to the pick, at most so many
abbrev pub after_move : Course → Option Move → (Course → Course) → Course
after_move o None go_on = o
after_move o (Some move) go_on = go_on (moved o move)

-- (the bound is there since a definition has to end by itself)
unfoldable pub moved_by : Pick → ℕ → Course → Course
moved_by pick zero o = o
moved_by pick (suc limit) o = after_move o (picked pick (nexts o)) (moved_by pick limit)

-- how many pairs there are
abbrev pub pair_count : ClusterView → ℕ
pair_count c = node_count c * app_count c

-- all of them: twice as many moves as pairs are enough
unfoldable pub all_moved : Pick → Course → Course
all_moved pick o = moved_by pick (2 * pair_count o.state.cluster) o

-- settling, where each tie goes to the pick
abbrev pub settled : Pick → Course → Course
settled pick o = waits_told (all_moved pick o)
