-- RULES, "Nodes end, and what ran there": how a node ends, and what becomes of an application that was lost with it (Distributed
-- Applications, Failover; kernel(6), distributed).
use Rattle.std.specs.Prelude.{ℕ, unwrap_or, slice_set, Some, fold, [], ◌+◌, ◌==◌, if◌then◌else◌}
use Rattle.rh_rules.specs.Prelude.{option_map, ClusterView, spread_of, App, Node, Spread, configured, apps_of, with_mode, without_due, with_standing, with_timer, is_running_at, StateView, standing_of, Down, Standing, Wanted, Lost, Sync, Failover, Notice}
use Rattle.rh_rules.specs.Course.{Course, told, now_in}

-- how long an application's other nodes wait for one that was lost (kernel(6), distributed)
abbrev pub timeout_of : ClusterView → App → ℕ
timeout_of c a = unwrap_or (option_map (λ (v : Spread). v.timeout) (spread_of c a)) 0

-- nothing is started at the node any more
abbrev pub emptied : StateView → Node → StateView
emptied s n = record s { running = slice_set s.running n.0 []; waiting = slice_set s.waiting n.0 [] }

-- its permissions are as configured
abbrev pub with_configured : StateView → Node → StateView
with_configured s n = record s { allowed = slice_set s.allowed n.0 (configured s.cluster n) }

-- it is down, and waits no longer
unfoldable pub cleared : StateView → Node → StateView
cleared s n = with_mode (with_configured (emptied (without_due s (Sync n)) n) n) n Down

-- an application that ran there is lost until its timeout, or wanted at once where that is 0
abbrev pub lost_at : StateView → Node → App → StateView
lost_at s n a =
    if timeout_of s.cluster a == 0 then with_standing s a (Wanted (Some n))
    else with_timer (with_standing s a (Lost n)) (s.time + timeout_of s.cluster a) (Failover a)

-- one that ran elsewhere, or nowhere, stands as it stood
abbrev pub lost_from : StateView → Node → App → Standing → StateView
lost_from s n a standing = if is_running_at n standing then lost_at s n a else s

-- so with one, wherever it stands
unfoldable pub lost_if_ran : Node → StateView → App → StateView
lost_if_ran n s a = lost_from s n a (standing_of s a)

-- so each application, in order
unfoldable pub all_lost : StateView → Node → StateView
all_lost s n = fold (lost_if_ran n) s (apps_of s.cluster)

-- a node ends: it is down and cleared, what ran there is lost or wanted, and its end is told (Distributed Applications, Failover)
unfoldable pub ended : Course → Node → Course
ended o n = told (now_in o (all_lost (cleared o.state n) n)) (Notice.Ended n)

-- a lost application that didn't come back in time is wanted
abbrev pub wanted_if_lost : StateView → App → Standing → StateView
wanted_if_lost s a (Lost n) = with_standing s a (Wanted (Some n))
wanted_if_lost s a _ = s
