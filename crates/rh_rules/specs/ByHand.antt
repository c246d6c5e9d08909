-- RULES, "By hand", Stop, Permit, Takeover by call, Exit: what an operator changes at a node (application(3), stop/1, permit/2,
-- takeover/2, restart types; ours for standings).
use Rattle.std.specs.Prelude.{Bool, false, None, ℕ, not, List, true, if◌then◌else◌, ◌==◌, ◌&&◌, [], ◌∷◌, ◌++◌}
use Rattle.rh_rules.specs.Prelude.{list_any, App, Node, Restart, Permanent, Transient, Temporary, nodes_of, unlisted, with_standing, without_due, with_allowed, with_restart, StateView, is_started, standing_of, is_allowed, runs_at, restart_of, Standing, Quiet, Wanted, Lost, Running, Failover, Move, Notice, Pair}
use Rattle.rh_rules.specs.Course.{Course, told, now_in}
use Rattle.rh_rules.specs.Marking.{with_distributed_standing, pair}
use Rattle.rh_rules.specs.Moves.{with_stopped, moved}
use Rattle.rh_rules.specs.NodesEnd.{ended}

-- an application that runs at a node stops there, and is to run nowhere
unfoldable pub stopped : Course → Node → App → Course
stopped o n a = told (now_in o (with_distributed_standing (unlisted o.state n a) a Quiet)) (Notice.Stopped a n)

-- an application runs or waits at some node
unfoldable pub is_started_anywhere : StateView → App → Bool
is_started_anywhere s a = list_any (λ n. is_started s n a) (nodes_of s.cluster)

-- an application that is to run, but is started nowhere, is quiet
abbrev pub quiet_if_nowhere : StateView → App → Standing → StateView
quiet_if_nowhere s a (Wanted from) = if is_started_anywhere s a then s else with_standing s a Quiet
quiet_if_nowhere s a (Lost m) = if is_started_anywhere s a then s else without_due (with_standing s a Quiet) (Failover a)
quiet_if_nowhere s a _ = s

-- one that waits at a node leaves it
unfoldable pub left_waiting : Course → Node → App → Course
left_waiting o n a = now_in o (quiet_if_nowhere (unlisted o.state n a) a (standing_of o.state a))

-- one that runs at a node and no longer may waits there, and is wanted
unfoldable pub forbidden : Course → Node → App → Course
forbidden o n a =
    told (now_in o (with_distributed_standing (with_stopped (with_allowed o.state n a false) n a) a (Wanted None))) (Notice.Stopped a n)

-- the profiles in which a permission that is given back calls an application back (ours; a live OTP does so)
abbrev pub pulls_back : ℕ → Bool
pulls_back profile = profile == 2

-- such a permission frees a pair that is started and may run again
abbrev pub frees : StateView → Node → App → Bool → Bool
frees s n a allow = pulls_back s.cluster.profile && (allow && (not (is_allowed s n a) && is_started s n a))

-- the pair that a permission frees
abbrev pub freed_by : StateView → Node → App → Bool → List Pair
freed_by s n a allow = if frees s n a allow then pair n a ∷ [] else []

-- a permission is set, and may free a pair
abbrev pub permission_set : Course → Node → App → Bool → Course
permission_set o n a allow = record o { state = with_allowed o.state n a allow; freed = o.freed ++ freed_by o.state n a allow }

-- one that runs and may no longer is sent away; else the permission is set (application(3), permit/2)
unfoldable pub permitted : Course → Node → App → Bool → Course
permitted o n a allow =
    if not allow && (is_allowed o.state n a && runs_at o.state n a) then forbidden o n a
    else permission_set o n a allow

-- one that runs elsewhere is taken over, and has the given restart type
abbrev pub taken_from : Course → Node → App → Restart → Standing → Course
taken_from o n a r (Running m) = moved (now_in o (with_restart o.state n a r)) (Move.Takeover a m n)
taken_from o n a r _ = o

-- so with one that runs, wherever it stands (application(3), takeover/2)
unfoldable pub taken_over : Course → Node → App → Restart → Course
taken_over o n a r = taken_from o n a r (standing_of o.state a)

-- whether a node ends with an application that ends there (application(3), restart types)
abbrev pub ends_node : Restart → Bool → Bool
ends_node Permanent normal = true
ends_node Transient normal = not normal
ends_node Temporary normal = false

-- one that ends by itself ends its node with it, or alone (application(3), restart types)
unfoldable pub exited : Course → Node → App → Bool → Course
exited o n a normal = if ends_node (restart_of o.state n a) normal then ended o n else stopped o n a
