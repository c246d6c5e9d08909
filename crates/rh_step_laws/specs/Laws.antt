-- Laws of steps, in the field's own words (ours).
use Rattle.std.specs.Prelude.{◌≡◌, ◌<◌, ◌+◌, ◌⊎◌, ◌&&◌, ℕ, Bool, true, false, Contains, Some, None}
use Rattle.std.specs.List.{list_any}
use Rattle.rh_model.specs.ClusterView.{ClusterView, boot_of, mandatory_of, group_of, is_listed_at}
use Rattle.rh_model.specs.declared.node.Node.{Node}
use Rattle.rh_model.specs.declared.node.App.{App}
use Rattle.rh_model.specs.declared.settings.Restart.{Restart}
use Rattle.rh_state.specs.declared.status.Mode.TheVariants.{Down, Up}
use Rattle.rh_state.specs.declared.status.Standing.TheVariants.{Quiet, Lost}
use Rattle.rh_state.specs.declared.status.Timer.{Timer}
use Rattle.rh_state.specs.declared.status.Timer.TheVariants.{Sync, Failover}
use Rattle.rh_state.specs.Numbers.{same_node, same_app}
use Rattle.rh_state.specs.Timers.{same_timer}
use Rattle.rh_state.specs.StateView.{StateView, mode_of, is_alive, is_up, runs_at, is_started, is_allowed, restart_of, standing_of, due_of}
use Rattle.rh_rules.specs.declared.pick.Pick.{Pick}
use Rattle.rh_rules.specs.Placing.{is_operational}
use Rattle.rh_rules.specs.declared.notice.Notice.TheVariants as notice
use Rattle.rh_rules.specs.Course.{Course, is_local}
use Rattle.rh_rules.specs.Moves.{comes_before}
use Rattle.rh_rules.specs.declared.event.Event.{Event}
use Rattle.rh_rules.specs.declared.event.Event.TheVariants.{Tick, Start, Stop, Permit, StartAll, StopAll}
use Rattle.rh_rules.specs.ByHand.{pulls_back}
use Rattle.rh_rules.specs.Refusals.{refused}
use Rattle.rh_rules.specs.Steps.{next}
use Rattle.rh_rules.specs.Time.{fired}
use Rattle.rh_trace.specs.Validity.{IsValid}

-- a node that is up stays up, unless it ends
abbrev pub UpUntilEnded : Type 0
UpUntilEnded = (s : StateView) (e : Event) (pick : Pick) (n : Node) → refused s e ≡ None → mode_of s n ≡ Up
    → (mode_of (next s e pick).state n ≡ Up) ⊎ Contains (next s e pick).notices (notice.Ended n)

-- a distributed application that is stopped where it runs is quiet then: it runs nowhere, and is to run nowhere
-- (application(3), stop/1)
abbrev pub StopLeavesQuiet : Type 0
StopLeavesQuiet = (s : StateView) (n : Node) (a : App) (pick : Pick) → IsValid s → refused s (Stop n a) ≡ None → is_local s.cluster a ≡ false
    → runs_at s n a ≡ true
    → (standing_of (next s (Stop n a) pick).state a ≡ Quiet)
    × ((m : Node) → runs_at (next s (Stop n a) pick).state m a ≡ false)

-- a node that isn't alive is a mandatory one of another, whose wait ends: that one ends, and doesn't come up (kernel(6),
-- sync_nodes_mandatory, sync_nodes_timeout)
abbrev pub EndsWithoutMandatory : Type 0
EndsWithoutMandatory = (pick : Pick) (o : Course) (due : ℕ) (n m : Node) → Contains (mandatory_of o.state.cluster n) m → is_alive (mode_of o.state m) ≡ false
    → (mode_of (fired pick o (due, Sync n)).state n ≡ Down)
    × Contains (fired pick o (due, Sync n)).notices (notice.Ended n)

-- the commands that may end the wait of an application that was lost with a node: it is started there, or at all its nodes while that
-- one is up, or stopped somewhere; and time
abbrev pub may_end_wait : StateView → Event → App → Node → Bool
may_end_wait s (Tick ms) a m = true
may_end_wait s (Start n b r) a m = same_app a b && same_node m n
may_end_wait s (Stop n b) a m = same_app a b
may_end_wait s (StartAll b r) a m = same_app a b && is_up (mode_of s m)
may_end_wait s (StopAll b) a m = same_app a b
may_end_wait s _ a m = false

-- through any other one it stays lost, unless that node comes up (Distributed Applications, Failover)
abbrev pub LostStays : Type 0
LostStays = (s : StateView) (e : Event) (pick : Pick) (a : App) (m : Node) → IsValid s → refused s e ≡ None → standing_of s a ≡ Lost m
    → may_end_wait s e a m ≡ false
    → (standing_of (next s e pick).state a ≡ Lost m) ⊎ Contains (next s e pick).notices (notice.Up m)

-- and so it does at each timer but its own (kernel(6), distributed)
abbrev pub LostStaysAtOtherTimers : Type 0
LostStaysAtOtherTimers = (pick : Pick) (o : Course) (entry : ℕ × Timer) (a : App) (m : Node) → same_timer entry.1 (Failover a) ≡ false
    → standing_of o.state a ≡ Lost m
    → (standing_of (fired pick o entry).state a ≡ Lost m) ⊎ Contains (fired pick o entry).notices (notice.Up m)

-- and through each tick that ends before its timer is due (kernel(6), distributed)
abbrev pub LostUntilDue : Type 0
LostUntilDue = (s : StateView) (ms : ℕ) (pick : Pick) (a : App) (m : Node) (due : ℕ) → IsValid s → standing_of s a ≡ Lost m
    → due_of s (Failover a) ≡ Some due → s.time + ms < due
    → (standing_of (next s (Tick ms) pick).state a ≡ Lost m) ⊎ Contains (next s (Tick ms) pick).notices (notice.Up m)

-- a command that starts an application
abbrev pub starts : Event → App → Bool
starts (Start n b r) a = same_app a b
starts (StartAll b r) a = same_app a b
starts _ a = false

-- a node boots an application: its boot list has it (ours)
abbrev pub boots : ClusterView → Node → App → Bool
boots c n a = list_any (λ (entry : App × Restart). same_app a entry.0) (boot_of c n)

-- an application that is to run nowhere is started by no other one, and by no time that passes, unless a node came up that boots it
-- (application(3), start/2, stop/1)
abbrev pub QuietUntilStarted : Type 0
QuietUntilStarted = (s : StateView) (e : Event) (pick : Pick) (a : App) → IsValid s → refused s e ≡ None → standing_of s a ≡ Quiet → starts e a ≡ false
    → (standing_of (next s e pick).state a ≡ Quiet)
    ⊎ ((n : Node) × (boots s.cluster n a ≡ true) × Contains (next s e pick).notices (notice.Up n))

-- in the second profile an application that is started at a node, and is permitted there again, is taken back from nodes of later
-- groups, if that node can run it (application(3), permit/2; ours for the profile)
abbrev pub PermissionPullsBack : Type 0
PermissionPullsBack = (s : StateView) (n m : Node) (a : App) (pick : Pick) → IsValid s → refused s (Permit n a true) ≡ None
    → pulls_back s.cluster.profile ≡ true → is_started s n a ≡ true → is_allowed s n a ≡ false
    → is_operational (next s (Permit n a true) pick).state a n ≡ true
    → comes_before (group_of s.cluster a n) (group_of s.cluster a m) ≡ true
    → runs_at (next s (Permit n a true) pick).state m a ≡ false

-- an application that is stopped at all its nodes is started nowhere then: it is to run nowhere, and nothing awaits its return
-- (application(3), stop/1)
abbrev pub StopAllLeavesNothing : Type 0
StopAllLeavesNothing = (s : StateView) (a : App) (pick : Pick) → IsValid s → refused s (StopAll a) ≡ None
    → (standing_of (next s (StopAll a) pick).state a ≡ Quiet)
    × ((n : Node) → is_started (next s (StopAll a) pick).state n a ≡ false)
    × (due_of (next s (StopAll a) pick).state (Failover a) ≡ None)

-- one that is started at all its nodes is started then at each node of its list that is up (application(3), start/2; kernel(6),
-- distributed)
abbrev pub StartAllStartsEverywhere : Type 0
StartAllStartsEverywhere = (s : StateView) (a : App) (r : Restart) (pick : Pick) (n : Node) → IsValid s → refused s (StartAll a r) ≡ None
    → is_up (mode_of s n) ≡ true → is_listed_at s.cluster a n ≡ true
    → is_started (next s (StartAll a r) pick).state n a ≡ true

-- and where it was started before, it keeps its restart type (application(3), start/2)
abbrev pub StartAllKeepsTypes : Type 0
StartAllKeepsTypes = (s : StateView) (a : App) (r : Restart) (pick : Pick) (n : Node) → IsValid s → refused s (StartAll a r) ≡ None
    → is_started s n a ≡ true
    → restart_of (next s (StartAll a r) pick).state n a ≡ restart_of s n a
