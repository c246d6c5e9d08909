-- RULES, "Applications start", A local application, Placement, Takeover of itself: the moves of applications that follow of themselves,
-- and what each does (Distributed Applications; app(4), applications; application(3)).
use Rattle.std.specs.Prelude.{Bool, List, map, ℕ, true, false, Option, Some, None, nat_lt, ◌&&◌, [], ◌∷◌, if◌then◌else◌}
use Rattle.rh_rules.specs.Prelude.{first_given, group_of, App, Node, same_node, with_running, with_kind, unlisted, with_waiting, with_standing, StateView, is_allowed, waiting_at, standing_of, Kind, Standing, Wanted, Running, Move, Local, Placement, Takeover, Notice, Pair}
use Rattle.rh_rules.specs.Course.{is_local, is_fresh, Course, told, now_in}
use Rattle.rh_rules.specs.Placing.{deps_run, candidates, is_operational, best, start_kind}

-- a local application that waits starts where it may, and where all that it needs runs (app(4), applications)
unfoldable pub can_start : StateView → Node → App → Bool
can_start s n a = is_local s.cluster a && (is_allowed s n a && deps_run s n a)

-- the one move that starts it there, if it can start
abbrev pub local_move : StateView → Node → App → List Move
local_move s n a = if can_start s n a then Local n a ∷ [] else []

-- at a node the first that waits there
unfoldable pub local_moves : StateView → Node → List Move
local_moves s n = first_given (local_move s n) (waiting_at s n)

-- an application that is to run is placed at any candidate
abbrev pub placements_from : StateView → App → Standing → List Move
placements_from s a (Wanted from) = map (Placement a from) (candidates s a)
placements_from s a _ = []

-- of one that isn't to run there are none
unfoldable pub placements : StateView → App → List Move
placements s a = placements_from s a (standing_of s a)

-- the place of a node's group comes before that of another's; a node that isn't in the list comes behind all groups
abbrev pub comes_before : Option ℕ → Option ℕ → Bool
comes_before None place = false
comes_before (Some i) None = true
comes_before (Some i) (Some j) = nat_lt i j

-- a node calls an application away from m: its pair is fresh, the application can run there, and its group comes before
unfoldable pub calls_away : StateView → List Pair → App → Node → Node → Bool
calls_away s fresh a m n = comes_before (group_of s.cluster a n) (group_of s.cluster a m) && (is_fresh fresh n a && is_operational s a n)

-- an application that runs is taken over by any of the best nodes that call it away
abbrev pub takeovers_from : StateView → List Pair → App → Standing → List Move
takeovers_from s fresh a (Running m) = map (Takeover a m) (best s a (calls_away s fresh a m))
takeovers_from s fresh a _ = []

-- of one that runs nowhere there are none
unfoldable pub takeovers : StateView → List Pair → App → List Move
takeovers s fresh a = takeovers_from s fresh a (standing_of s a)

-- a pair that is started goes to the end of those that run at its node, or of those that wait there
abbrev pub with_started : StateView → Node → App → Kind → StateView
with_started s n a k = with_kind (with_running (unlisted s n a) n a) n a k

abbrev pub with_stopped : StateView → Node → App → StateView
with_stopped s n a = with_waiting (unlisted s n a) n a

-- what a move does to the state
abbrev pub moved_state : StateView → Move → StateView
moved_state s (Local n a) = with_started s n a Kind.Normal
moved_state s (Placement a from n) = with_standing (with_started s n a (start_kind s a from n)) a (Running n)
moved_state s (Takeover a m n) = with_standing (with_stopped (with_started s n a (Kind.Takeover m)) m a) a (Running n)

-- the node with which an application was lost, if it is another one
abbrev pub lost_elsewhere : Option Node → Node → Option Node
lost_elsewhere None n = None
lost_elsewhere (Some m) n = if same_node m n then None else Some m

-- and what it tells
abbrev pub moved : Course → Move → Course
moved o (Local n a) = told (now_in o (moved_state o.state (Local n a))) (Notice.Started a n Kind.Normal None)
moved o (Placement a from n) =
    told (now_in o (moved_state o.state (Placement a from n))) (Notice.Started a n (start_kind o.state a from n) (lost_elsewhere from n))
moved o (Takeover a m n) =
    told (told (now_in o (moved_state o.state (Takeover a m n))) (Notice.Started a n (Kind.Takeover m) None)) (Notice.Stopped a m)
