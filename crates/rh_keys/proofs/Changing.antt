-- The change of an event is alike at a later time.
use Rattle.std.proofs.Common.{◌≡◌, ◌+◌, ◌==◌, ◌&&◌, ℕ, Bool, false, not, cond, [], map, None, Some, refl, ap, ◌∙◌}
use Rattle.rh_model.specs.ClusterView.{boot_of, sync_wait_of}
use Rattle.rh_model.specs.declared.node.Node.{Node}
use Rattle.rh_model.specs.declared.node.App.{App}
use Rattle.rh_model.specs.declared.settings.Restart.{Restart}
use Rattle.rh_model.specs.declared.settings.SyncWait.{SyncWait}
use Rattle.rh_model.specs.declared.settings.SyncWait.TheVariants.{Unset, After, Forever}
use Rattle.rh_state.specs.declared.status.Mode.TheVariants as mode
use Rattle.rh_state.specs.declared.status.Standing.{Standing}
use Rattle.rh_state.specs.declared.status.Standing.TheVariants.{Quiet, Wanted, Running, Lost}
use Rattle.rh_state.specs.declared.status.Timer.TheVariants.{Sync, Failover}
use Rattle.rh_state.specs.Numbers.{nodes_of, apps_of, same_node}
use Rattle.rh_state.specs.Setters.{with_mode, with_incarnation, with_restart, with_waiting, with_standing, with_allowed, without_due, unlisted}
use Rattle.rh_state.specs.StateView.{StateView, incarnation_of, runs_at, is_allowed, restart_of, standing_of}
use Rattle.rh_state.specs.Standings.{is_quiet, is_lost_at}
use Rattle.rh_rules.specs.declared.event.Event.{Event}
use Rattle.rh_rules.specs.declared.event.Event.TheVariants.{Boot, Crash, Start, Stop, Permit, Takeover, Exit, StartAll, StopAll}
use Rattle.rh_rules.specs.declared.notice.Notice.TheVariants as notice
use Rattle.rh_rules.specs.declared.notice.Move.TheVariants as move
use Rattle.rh_rules.specs.Course.{Course, is_local, told, now_in}
use Rattle.rh_rules.specs.Moves.{with_stopped}
use Rattle.rh_rules.specs.Marking.{with_distributed_standing, wanted_by_mark, with_mark, mark, mark_booted, mark_all}
use Rattle.rh_rules.specs.NodesStart.{with_sync_timer, booted, is_ready, come_up, come_up_if_ready, ready_come_up}
use Rattle.rh_rules.specs.NodesEnd.{timeout_of, cleared, emptied, with_configured, lost_at, lost_from, lost_if_ran, all_lost, ended}
use Rattle.rh_rules.specs.ByHand.{stopped, is_started_anywhere, quiet_if_nowhere, left_waiting, forbidden, permitted, taken_from, taken_over, ends_node, exited}
use Rattle.rh_rules.specs.Everywhere.{targets, start_at, start_all, leave_at, left_everywhere, stop_all}
use Rattle.rh_rules.specs.Steps.{change}
use Rattle.rh_keys.proofs.Reading.{ready_same}
use Rattle.rh_keys.proofs.Settling.{moved_later}
use Rattle.rh_keys.proofs.Shifting.{later, shifted, shifted_course, either_way, each_step, timer_set, timer_off, course_on}

-- ---- applications are marked
restood_later : (d : ℕ) (s : StateView) (a : App) (st : Standing)
    → with_distributed_standing (shifted d s) a st ≡ shifted d (with_distributed_standing s a st)
restood_later d s a st = either_way (shifted d) (is_local s.cluster a) refl refl

wanted_later : (d : ℕ) (s : StateView) (n : Node) (a : App) (st : Standing) → wanted_by_mark (shifted d s) n a st ≡ shifted d (wanted_by_mark s n a st)
wanted_later d s n a st = either_way (shifted d) (is_quiet st) (restood_later d s a (Wanted None))
    (either_way (shifted d) (is_lost_at n st) (timer_off d (with_standing s a (Wanted (Some n))) (Failover a)) refl)

with_mark_later : (d : ℕ) (s : StateView) (n : Node) (a : App) (r : Restart) → with_mark (shifted d s) n a r ≡ shifted d (with_mark s n a r)
unfolding with_mark
with_mark_later d s n a r = wanted_later d (with_restart (with_waiting s n a) n a r) n a (standing_of s a)

mark_later : (d : ℕ) (o : Course) (n : Node) (a : App) (r : Restart) → mark (shifted_course d o) n a r ≡ shifted_course d (mark o n a r)
mark_later d o n a r = λ i. record (mark o n a r) { state = with_mark_later d o.state n a r i }

-- ---- nodes come up
pub up_later : (d : ℕ) (o : Course) (n : Node) → come_up (shifted_course d o) n ≡ shifted_course d (come_up o n)
unfolding come_up mark_all
up_later d o n =
    let boot = boot_of o.state.cluster n in
    ap (λ (s : StateView). mark_all (told (now_in o (with_mode s n mode.Up)) (notice.Up n)) n boot) (timer_off d o.state (Sync n))
    ∙ each_step (shifted_course d) (mark_booted n) (λ p x. mark_later d p n x.0 x.1)
    (told (now_in o (with_mode (without_due o.state (Sync n)) n mode.Up)) (notice.Up n)) boot

up_if_ready_later : (d : ℕ) (o : Course) (n : Node) → come_up_if_ready (shifted_course d o) n ≡ shifted_course d (come_up_if_ready o n)
unfolding come_up_if_ready
up_if_ready_later d o n =
    ap (λ b. cond b (come_up (shifted_course d o) n) (shifted_course d o)) (ready_same o.state (d + o.state.time) [] [] (map (later d) o.state.timers) n)
    ∙ either_way (shifted_course d) (is_ready o.state n) (up_later d o n) refl

pub ready_up_later : (d : ℕ) (o : Course) → ready_come_up (shifted_course d o) ≡ shifted_course d (ready_come_up o)
unfolding ready_come_up
ready_up_later d o = each_step (shifted_course d) come_up_if_ready (up_if_ready_later d) o (nodes_of o.state.cluster)

-- ---- a node boots
booted_later : (d : ℕ) (s : StateView) (n : Node) → booted (shifted d s) n ≡ shifted d (booted s n)
unfolding booted
booted_later d s n = by (sync_wait_of s.cluster n)
  where
    u : StateView
    u = with_mode (with_incarnation s n (incarnation_of s n + 1)) n mode.Waiting

    by : (wait : SyncWait) → with_sync_timer (shifted d u) n wait ≡ shifted d (with_sync_timer u n wait)
    by Unset = refl
    by (After ms) = timer_set d u ms (Sync n)
    by Forever = refl

-- ---- a node ends
lost_at_later : (d : ℕ) (s : StateView) (n : Node) (a : App) → lost_at (shifted d s) n a ≡ shifted d (lost_at s n a)
lost_at_later d s n a = either_way (shifted d) (timeout_of s.cluster a == 0) refl (timer_set d (with_standing s a (Lost n)) (timeout_of s.cluster a) (Failover a))

lost_if_ran_later : (d : ℕ) (n : Node) (s : StateView) (a : App) → lost_if_ran n (shifted d s) a ≡ shifted d (lost_if_ran n s a)
unfolding lost_if_ran
lost_if_ran_later d n s a = by (standing_of s a)
  where
    by : (st : Standing) → lost_from (shifted d s) n a st ≡ shifted d (lost_from s n a st)
    by (Running k) = either_way (shifted d) (same_node k n) (lost_at_later d s n a) refl
    by Quiet = refl
    by (Wanted from) = refl
    by (Lost k) = refl

cleared_later : (d : ℕ) (s : StateView) (n : Node) → cleared (shifted d s) n ≡ shifted d (cleared s n)
unfolding cleared
cleared_later d s n = ap (λ (t : StateView). with_mode (with_configured (emptied t n) n) n mode.Down) (timer_off d s (Sync n))

pub ended_later : (d : ℕ) (o : Course) (n : Node) → ended (shifted_course d o) n ≡ shifted_course d (ended o n)
unfolding ended all_lost
ended_later d o n = ap (λ (s : StateView). told (now_in o s) (notice.Ended n))
    (ap (λ (s : StateView). all_lost s n) (cleared_later d o.state n)
    ∙ each_step (shifted d) (lost_if_ran n) (lost_if_ran_later d n) (cleared o.state n) (apps_of (cleared o.state n).cluster))

-- ---- by hand
stopped_later : (d : ℕ) (o : Course) (n : Node) (a : App) → stopped (shifted_course d o) n a ≡ shifted_course d (stopped o n a)
unfolding stopped
stopped_later d o n a = ap (λ (s : StateView). told (now_in o s) (notice.Stopped a n)) (restood_later d (unlisted o.state n a) a Quiet)

left_later : (d : ℕ) (o : Course) (n : Node) (a : App) → left_waiting (shifted_course d o) n a ≡ shifted_course d (left_waiting o n a)
unfolding left_waiting is_started_anywhere
left_later d o n a = ap (now_in o) (by (standing_of o.state a))
  where
    u : StateView
    u = unlisted o.state n a

    by : (st : Standing) → quiet_if_nowhere (shifted d u) a st ≡ shifted d (quiet_if_nowhere u a st)
    by Quiet = refl
    by (Running k) = refl
    by (Wanted from) = either_way (shifted d) (is_started_anywhere u a) refl refl
    by (Lost k) = either_way (shifted d) (is_started_anywhere u a) refl (timer_off d (with_standing u a Quiet) (Failover a))

forbidden_later : (d : ℕ) (o : Course) (n : Node) (a : App) → forbidden (shifted_course d o) n a ≡ shifted_course d (forbidden o n a)
unfolding forbidden
forbidden_later d o n a = ap (λ (s : StateView). told (now_in o s) (notice.Stopped a n))
    (restood_later d (with_stopped (with_allowed o.state n a false) n a) a (Wanted None))

permitted_later : (d : ℕ) (o : Course) (n : Node) (a : App) (allow : Bool) → permitted (shifted_course d o) n a allow ≡ shifted_course d (permitted o n a allow)
unfolding permitted
permitted_later d o n a allow =
    either_way (shifted_course d) (not allow && (is_allowed o.state n a && runs_at o.state n a)) (forbidden_later d o n a) refl

taken_later : (d : ℕ) (o : Course) (n : Node) (a : App) (r : Restart) → taken_over (shifted_course d o) n a r ≡ shifted_course d (taken_over o n a r)
unfolding taken_over
taken_later d o n a r = by (standing_of o.state a)
  where
    by : (st : Standing) → taken_from (shifted_course d o) n a r st ≡ shifted_course d (taken_from o n a r st)
    by (Running m) = moved_later d (now_in o (with_restart o.state n a r)) (move.Takeover a m n)
    by Quiet = refl
    by (Wanted from) = refl
    by (Lost k) = refl

exited_later : (d : ℕ) (o : Course) (n : Node) (a : App) (normal : Bool) → exited (shifted_course d o) n a normal ≡ shifted_course d (exited o n a normal)
unfolding exited
exited_later d o n a normal = either_way (shifted_course d) (ends_node (restart_of o.state n a) normal) (ended_later d o n) (stopped_later d o n a)

-- ---- at all nodes
start_all_later : (d : ℕ) (o : Course) (a : App) (r : Restart) → start_all (shifted_course d o) a r ≡ shifted_course d (start_all o a r)
unfolding start_all targets
start_all_later d o a r = each_step (shifted_course d) (start_at a r) (λ p n. mark_later d p n a r) o (targets o.state a)

leave_later : (d : ℕ) (a : App) (o : Course) (n : Node) → leave_at a (shifted_course d o) n ≡ shifted_course d (leave_at a o n)
leave_later d a o n = either_way (shifted_course d) (runs_at o.state n a) refl refl

stop_all_later : (d : ℕ) (o : Course) (a : App) → stop_all (shifted_course d o) a ≡ shifted_course d (stop_all o a)
unfolding stop_all left_everywhere
stop_all_later d o a =
    let left : Course = left_everywhere o a in
    ap (λ (p : Course). now_in p (without_due (with_standing p.state a Quiet) (Failover a)))
    (each_step (shifted_course d) (leave_at a) (leave_later d a) o (nodes_of o.state.cluster))
    ∙ course_on d left (without_due (with_standing left.state a Quiet) (Failover a)) (timer_off d (with_standing left.state a Quiet) (Failover a))

-- ---- all of these
pub change_later : (d : ℕ) (o : Course) (e : Event) → change (shifted_course d o) e ≡ shifted_course d (change o e)
change_later d o (Boot n) = course_on d o (booted o.state n) (booted_later d o.state n)
change_later d o (Crash n) = ended_later d o n
change_later d o (Start n a r) = mark_later d o n a r
change_later d o (Stop n a) = either_way (shifted_course d) (runs_at o.state n a) (stopped_later d o n a) (left_later d o n a)
change_later d o (Permit n a allow) = permitted_later d o n a allow
change_later d o (Takeover n a r) = taken_later d o n a r
change_later d o (Exit n a normal) = exited_later d o n a normal
change_later d o (StartAll a r) = start_all_later d o a r
change_later d o (StopAll a) = stop_all_later d o a
change_later d o _ = refl
