-- RULES, "By hand", Start at all nodes, Stop at all nodes: what an operator starts or stops at all nodes of a distributed application
-- (application(3), start/2, stop/1; ours for doing it in one step).
use Rattle.std.specs.Prelude.{Bool, not, List, Option, None, fold, ◌&&◌, [], ◌∷◌, if◌then◌else◌}
use Rattle.rh_rules.specs.Prelude.{filter, list_any, option_or, is_listed_at, App, Node, Dep, Restart, nodes_of, unlisted, with_standing, without_due, StateView, mode_of, is_up, is_started, runs_at, Quiet, Failover, Notice}
use Rattle.rh_rules.specs.Course.{Course, told, now_in}
use Rattle.rh_rules.specs.Marking.{mark}
use Rattle.rh_rules.specs.Placing.{missing_dep}

-- a node is up, and may start the application (kernel(6), distributed)
abbrev pub is_host : StateView → App → Node → Bool
is_host s a n = is_up (mode_of s n) && is_listed_at s.cluster a n

-- and it isn't started there
abbrev pub is_target : StateView → App → Node → Bool
is_target s a n = is_host s a n && not (is_started s n a)

-- the nodes at which it is still to be started, in node order
unfoldable pub targets : StateView → App → List Node
targets s a = filter (is_target s a) (nodes_of s.cluster)

-- some node is up and may start it
unfoldable pub has_host : StateView → App → Bool
has_host s a = list_any (is_host s a) (nodes_of s.cluster)

-- at some node it is still to be started
unfoldable pub has_target : StateView → App → Bool
has_target s a = list_any (is_target s a) (nodes_of s.cluster)

-- the first dependency that doesn't run at the first of some nodes at which one doesn't
abbrev pub first_missing : StateView → App → List Node → Option Dep
first_missing s a [] = None
first_missing s a (n ∷ ns) = option_or (missing_dep s n a) (first_missing s a ns)

-- and at the first of all nodes at which it is still to be started
unfoldable pub missing_at_targets : StateView → App → Option Dep
missing_at_targets s a = first_missing s a (targets s a)

-- it is started at a node, or only if it is still to be started there
abbrev pub start_at : App → Restart → Course → Node → Course
start_at a r o n = mark o n a r

-- it is started at each node at which it is still to be started; at the others it keeps its place and its restart type
unfoldable pub start_all : Course → App → Restart → Course
start_all o a r = fold (start_at a r) o (targets o.state a)

-- at a node it leaves its list, and stops if it ran
abbrev pub leave_at : App → Course → Node → Course
leave_at a o n =
    if runs_at o.state n a then told (now_in o (unlisted o.state n a)) (Notice.Stopped a n)
    else now_in o (unlisted o.state n a)

-- so at each node, in node order
unfoldable pub left_everywhere : Course → App → Course
left_everywhere o a = fold (leave_at a) o (nodes_of o.state.cluster)

-- it is to run nowhere, and no timer awaits its return
abbrev pub quietened : StateView → App → StateView
quietened s a = without_due (with_standing s a Quiet) (Failover a)

-- it leaves all lists, and is quiet then
unfoldable pub stop_all : Course → App → Course
stop_all o a = now_in (left_everywhere o a) (quietened (left_everywhere o a).state a)
