-- RULES, "Applications start", Start: an application is started at a node, and waits there until it may run (application(3), start/2;
-- Distributed Applications; ours for standings).
use Rattle.std.specs.Prelude.{Some, None, List, fold, if◌then◌else◌, [], ◌∷◌, ◌++◌}
use Rattle.rh_rules.specs.Prelude.{App, Node, Restart, with_standing, without_due, with_restart, with_waiting, is_quiet, is_lost_at, StateView, standing_of, Standing, Wanted, Failover, Pair}
use Rattle.rh_rules.specs.Course.{is_local, Course}

-- a distributed application stands so; a local one is always quiet
abbrev pub with_distributed_standing : StateView → App → Standing → StateView
with_distributed_standing s a standing = if is_local s.cluster a then s else with_standing s a standing

-- a quiet application is wanted now, and so is one that was lost at this very node; another stays as it stands
abbrev pub wanted_by_mark : StateView → Node → App → Standing → StateView
wanted_by_mark s n a standing =
    if is_quiet standing then with_distributed_standing s a (Wanted None)
    else (if is_lost_at n standing then without_due (with_standing s a (Wanted (Some n))) (Failover a) else s)

-- the pair waits behind all others of its node, with its restart type
unfoldable pub with_mark : StateView → Node → App → Restart → StateView
with_mark s n a r = wanted_by_mark (with_restart (with_waiting s n a) n a r) n a (standing_of s a)

-- a node and an application
abbrev pub pair : Node → App → Pair
pair n a = record { node = n; app = a }

-- a pair is started: it waits, and is noted as marked until settling ends (application(3), start/2)
abbrev pub mark : Course → Node → App → Restart → Course
mark o n a r = record o { state = with_mark o.state n a r; marked = o.marked ++ pair n a ∷ [] }

-- each pair of a boot list, in written order
abbrev pub mark_booted : Node → Course → App × Restart → Course
mark_booted n o booted = mark o n booted.0 booted.1

-- all of it
unfoldable pub mark_all : Course → Node → List (App × Restart) → Course
mark_all o n boot = fold (mark_booted n) o boot
