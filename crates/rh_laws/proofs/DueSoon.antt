-- Each timer of a state that a cluster reaches is due within the limits of time and timeouts.
use Rattle.std.proofs.Common.{◌≡◌, ◌≤◌, ◌+◌, ◌==◌, ℕ, Bool, true, false, cond, not, nat_le, ◌&&◌, List, [], ◌∷◌, fold}
use Rattle.std.proofs.Common.{Option, Some, None, refl, sym, subst, arith, unwrap_or}
use Rattle.std.specs.Option.{option_map}
use Rattle.rh_model.specs.ClusterView.{ClusterView, IsWithin, boot_of, mandatory_of, spread_of, sync_wait_of}
use Rattle.rh_model.specs.Limits.{timeout_limit, IsWithinLimit}
use Rattle.rh_model.specs.declared.node.Node.{Node}
use Rattle.rh_model.specs.declared.node.App.{App}
use Rattle.rh_model.specs.declared.settings.Restart.{Restart}
use Rattle.rh_model.specs.declared.settings.Spread.{Spread}
use Rattle.rh_model.specs.declared.settings.SyncWait.{SyncWait}
use Rattle.rh_model.specs.declared.settings.SyncWait.TheVariants.{Unset, After, Forever}
use Rattle.rh_wheel.specs.Firing.{behind}
use Rattle.rh_state.specs.declared.status.Mode.TheVariants as mode
use Rattle.rh_state.specs.declared.status.Standing.{Standing}
use Rattle.rh_state.specs.declared.status.Standing.TheVariants.{Quiet, Wanted, Running, Lost}
use Rattle.rh_state.specs.declared.status.Timer.{Timer}
use Rattle.rh_state.specs.declared.status.Timer.TheVariants.{Sync, Failover}
use Rattle.rh_state.specs.Limits.{time_limit}
use Rattle.rh_state.specs.Numbers.{nodes_of, apps_of, same_node}
use Rattle.rh_state.specs.Standings.{is_quiet, is_lost_at}
use Rattle.rh_state.specs.Timers.{same_timer, without_timer}
use Rattle.rh_state.specs.StateView.{StateView, incarnation_of, runs_at, is_allowed, restart_of, standing_of, earliest}
use Rattle.rh_state.specs.Setters.{with_mode, with_incarnation, with_allowed, with_restart, with_waiting, with_standing, with_timer, without_due, unlisted}
use Rattle.rh_rules.specs.declared.pick.Pick.{Pick}
use Rattle.rh_rules.specs.declared.notice.Notice.TheVariants as notice
use Rattle.rh_rules.specs.Course.{Course, course_of, told, now_in, is_local}
use Rattle.rh_rules.specs.Moves.{with_stopped}
use Rattle.rh_rules.specs.NodesStart.{all_alive, is_ready, come_up, come_up_if_ready, ready_come_up, with_sync_timer, booted}
use Rattle.rh_rules.specs.Settling.{settled}
use Rattle.rh_trace.specs.Validity.{IsValid}
use Rattle.rh_rules.specs.declared.event.Event.{Event}
use Rattle.rh_rules.specs.declared.event.Event.TheVariants.{Boot, Crash, Tick, Start, Stop, Permit, Takeover, Exit, StartAll, StopAll}
use Rattle.rh_rules.specs.Marking.{with_distributed_standing, with_mark, mark, mark_booted, mark_all}
use Rattle.rh_rules.specs.NodesEnd.{timeout_of, cleared, lost_at, lost_from, lost_if_ran, all_lost, ended, wanted_if_lost}
use Rattle.rh_rules.specs.ByHand.{stopped, is_started_anywhere, quiet_if_nowhere, left_waiting, forbidden, permitted, permission_set, taken_from, taken_over, ends_node, exited}
use Rattle.rh_rules.specs.Everywhere.{start_at, targets, start_all, leave_at, left_everywhere, stop_all}
use Rattle.rh_rules.specs.Steps.{change, followed, next}
use Rattle.rh_rules.specs.Time.{due_by, effect, taken_off, fired, all_fired, ticked}
use Rattle.rh_trace.proofs.Every.{Every, every_filter}
use Rattle.rh_settle.proofs.Unchanged.{settled_timers, settled_time, settled_cluster}
use Rattle.rh_refusals.proofs.Accepted.{accepted_tick}
use Rattle.rh_step.proofs.Fuel.{timer_count, due_in_time, by_firing}
use Rattle.rh_laws.specs.Reports.{IsDueSoon, DueWithinLimits}
use Rattle.rh_laws.proofs.Texts.{every_all, every_at}

-- the last moment at which a timer can be due
abbrev last : ℕ
last = time_limit + timeout_limit

abbrev IsSoon : ℕ × Timer → Type 0
IsSoon entry = entry.0 ≤ last

-- what each change keeps
record Bounded (s : StateView) : Type 0 where
  time : s.time ≤ time_limit
  within : IsWithin s.cluster
  soon : Every IsSoon s.timers

-- ---- timers are set and taken off
soon_behind : (entry : ℕ × Timer) (xs : List (ℕ × Timer)) → IsSoon entry → Every IsSoon xs → Every IsSoon (behind entry xs)
soon_behind entry [] h k = (h, tt)
soon_behind entry (x ∷ xs) h k = by (nat_le x.0 entry.0) (soon_behind entry xs h k.1)
  where
    by : (b : Bool) → Every IsSoon (behind entry xs) → Every IsSoon (cond b (x ∷ behind entry xs) (entry ∷ (x ∷ xs)))
    by true rest = (k.0, rest)
    by false rest = (h, k)

soon_without : (t : Timer) (xs : List (ℕ × Timer)) → Every IsSoon xs → Every IsSoon (without_timer t xs)
soon_without t xs h = every_filter IsSoon (λ (entry : ℕ × Timer). not (same_timer t entry.1)) xs h

without : (s : StateView) (t : Timer) → Bounded s → Bounded (without_due s t)
without s t h = record { time = h.time; within = h.within; soon = soon_without t s.timers h.soon }

-- a timeout is within its limit
timeout_within : (c : ClusterView) (a : App) → IsWithin c → timeout_of c a ≤ timeout_limit
timeout_within c a within = by (spread_of c a) refl
  where
    by : (o : Option Spread) → spread_of c a ≡ o → unwrap_or (option_map (λ (v : Spread). v.timeout) o) 0 ≤ timeout_limit
    by None e = omega arith
    by (Some v) e = within.timeouts a v e

armed : (s : StateView) (ms : ℕ) (t : Timer) → ms ≤ timeout_limit → Bounded s → Bounded (with_timer s (s.time + ms) t)
armed s ms t small h = record {
  time = h.time;
  within = h.within;
  soon = soon_behind (s.time + ms, t) s.timers (let k = h.time in omega (arith, k, small)) h.soon;
}

-- ---- a node ends
one_lost : (n : Node) (s : StateView) (a : App) → Bounded s → Bounded (lost_if_ran n s a)
unfolding lost_if_ran
one_lost n s a h = by (standing_of s a)
  where
    stood : (st : Standing) → Bounded (with_standing s a st)
    stood st = record { time = h.time; within = h.within; soon = h.soon }

    at : (p : Bool) → Bounded (cond p (with_standing s a (Wanted (Some n)))
        (with_timer (with_standing s a (Lost n)) (s.time + timeout_of s.cluster a) (Failover a)))
    at true = stood (Wanted (Some n))
    at false = armed (with_standing s a (Lost n)) (timeout_of s.cluster a) (Failover a) (timeout_within s.cluster a h.within) (stood (Lost n))

    there : (p : Bool) → Bounded (cond p (lost_at s n a) s)
    there true = at (timeout_of s.cluster a == 0)
    there false = h

    by : (st : Standing) → Bounded (lost_from s n a st)
    by (Running k) = there (same_node k n)
    by Quiet = h
    by (Wanted from) = h
    by (Lost k) = h

each_lost : (n : Node) (apps : List App) (s : StateView) → Bounded s → Bounded (fold (lost_if_ran n) s apps)
each_lost n [] s h = h
each_lost n (a ∷ apps) s h = each_lost n apps (lost_if_ran n s a) (one_lost n s a h)

ended_bounded : (o : Course) (n : Node) → Bounded o.state → Bounded (ended o n).state
unfolding ended all_lost cleared
ended_bounded o n h = each_lost n (apps_of o.state.cluster) (cleared o.state n)
    (record { time = h.time; within = h.within; soon = soon_without (Sync n) o.state.timers h.soon })

-- ---- applications are marked, and nodes come up
marked : (s : StateView) (n : Node) (a : App) (r : Restart) → Bounded s → Bounded (with_mark s n a r)
unfolding with_mark
marked s n a r h = by (is_quiet (standing_of s a)) (is_lost_at n (standing_of s a)) (is_local s.cluster a)
  where
    u : StateView
    u = with_restart (with_waiting s n a) n a r

    as_before : Bounded u
    as_before = record { time = h.time; within = h.within; soon = h.soon }

    by : (p q l : Bool) → Bounded (cond p (cond l u (with_standing u a (Wanted None))) (cond q (without_due (with_standing u a (Wanted (Some n))) (Failover a)) u))
    by true q true = as_before
    by true q false = record { time = h.time; within = h.within; soon = h.soon }
    by false true l = record { time = h.time; within = h.within; soon = soon_without (Failover a) s.timers h.soon }
    by false false l = as_before

all_marked : (n : Node) (boot : List (App × Restart)) (o : Course) → Bounded o.state → Bounded (fold (mark_booted n) o boot).state
all_marked n [] o h = h
all_marked n (b ∷ boot) o h = all_marked n boot (mark o n b.0 b.1) (marked o.state n b.0 b.1 h)

up_bounded : (o : Course) (n : Node) → Bounded o.state → Bounded (come_up o n).state
unfolding come_up mark_all
up_bounded o n h = all_marked n (boot_of o.state.cluster n) (told (now_in o (with_mode (without_due o.state (Sync n)) n mode.Up)) (notice.Up n))
    (record { time = h.time; within = h.within; soon = soon_without (Sync n) o.state.timers h.soon })

each_up : (ns : List Node) (o : Course) → Bounded o.state → Bounded (fold come_up_if_ready o ns).state
unfolding come_up_if_ready
each_up [] o h = h
each_up (n ∷ ns) o h = each_up ns (come_up_if_ready o n) (by (is_ready o.state n))
  where
    by : (b : Bool) → Bounded (cond b (come_up o n) o).state
    by true = up_bounded o n h
    by false = h

-- ---- the applications settle
same_bounds : (s t : StateView) → t.time ≡ s.time → t.cluster ≡ s.cluster → t.timers ≡ s.timers → Bounded s → Bounded t
same_bounds s t time cluster timers h = record {
  time = (let k = h.time in omega (arith, k, time));
  within = subst IsWithin (sym cluster) h.within;
  soon = subst (Every IsSoon) (sym timers) h.soon;
}

rest_bounded : (pick : Pick) (o : Course) → Bounded o.state → Bounded (settled pick (ready_come_up o)).state
unfolding ready_come_up
rest_bounded pick o h =
    let p : Course = fold come_up_if_ready o (nodes_of o.state.cluster) in
    same_bounds p.state (settled pick p).state (settled_time pick p) (settled_cluster pick p) (settled_timers pick p) (each_up (nodes_of o.state.cluster) o h)

-- ---- an event's own change
booted_bounded : (s : StateView) (n : Node) → Bounded s → Bounded (booted s n)
unfolding booted
booted_bounded s n h = by (sync_wait_of s.cluster n) (h.within.sync_wait n)
  where
    u : StateView
    u = with_mode (with_incarnation s n (incarnation_of s n + 1)) n mode.Waiting

    as_before : Bounded u
    as_before = record { time = h.time; within = h.within; soon = h.soon }

    by : (wait : SyncWait) → IsWithinLimit wait → Bounded (with_sync_timer u n wait)
    by Unset small = as_before
    by (After ms) small = armed u ms (Sync n) small as_before
    by Forever small = as_before

restood : (s : StateView) (a : App) (st : Standing) → Bounded s → Bounded (with_distributed_standing s a st)
restood s a st h = by (is_local s.cluster a)
  where
    by : (b : Bool) → Bounded (cond b s (with_standing s a st))
    by true = h
    by false = record { time = h.time; within = h.within; soon = h.soon }

stopped_bounded : (o : Course) (n : Node) (a : App) → Bounded o.state → Bounded (stopped o n a).state
unfolding stopped
stopped_bounded o n a h = restood (unlisted o.state n a) a Quiet (record { time = h.time; within = h.within; soon = h.soon })

left_bounded : (o : Course) (n : Node) (a : App) → Bounded o.state → Bounded (left_waiting o n a).state
unfolding left_waiting
left_bounded o n a h = by (standing_of o.state a)
  where
    u : StateView
    u = unlisted o.state n a

    as_before : Bounded u
    as_before = record { time = h.time; within = h.within; soon = h.soon }

    wanted : (p : Bool) → Bounded (cond p u (with_standing u a Quiet))
    wanted true = as_before
    wanted false = record { time = h.time; within = h.within; soon = h.soon }

    lost : (p : Bool) → Bounded (cond p u (without_due (with_standing u a Quiet) (Failover a)))
    lost true = as_before
    lost false = record { time = h.time; within = h.within; soon = soon_without (Failover a) o.state.timers h.soon }

    by : (st : Standing) → Bounded (quiet_if_nowhere u a st)
    by Quiet = as_before
    by (Running k) = as_before
    by (Wanted from) = wanted (is_started_anywhere u a)
    by (Lost k) = lost (is_started_anywhere u a)

permit_bounded : (o : Course) (n : Node) (a : App) (allow : Bool) → Bounded o.state → Bounded (permitted o n a allow).state
unfolding permitted forbidden
permit_bounded o n a allow h = by (not allow && (is_allowed o.state n a && runs_at o.state n a))
  where
    by : (b : Bool) → Bounded (cond b (forbidden o n a) (permission_set o n a allow)).state
    by true = restood (with_stopped (with_allowed o.state n a false) n a) a (Wanted None) (record { time = h.time; within = h.within; soon = h.soon })
    by false = record { time = h.time; within = h.within; soon = h.soon }

takeover_bounded : (o : Course) (n : Node) (a : App) (r : Restart) → Bounded o.state → Bounded (taken_over o n a r).state
unfolding taken_over
takeover_bounded o n a r h = by (standing_of o.state a)
  where
    by : (st : Standing) → Bounded (taken_from o n a r st).state
    by (Running k) = record { time = h.time; within = h.within; soon = h.soon }
    by Quiet = h
    by (Wanted from) = h
    by (Lost k) = h

starts_bounded : (a : App) (r : Restart) (ns : List Node) (o : Course) → Bounded o.state → Bounded (fold (start_at a r) o ns).state
starts_bounded a r [] o h = h
starts_bounded a r (n ∷ ns) o h = starts_bounded a r ns (mark o n a r) (marked o.state n a r h)

leaves_bounded : (a : App) (ns : List Node) (o : Course) → Bounded o.state → Bounded (fold (leave_at a) o ns).state
leaves_bounded a [] o h = h
leaves_bounded a (n ∷ ns) o h = leaves_bounded a ns (leave_at a o n) (by (runs_at o.state n a))
  where
    by : (b : Bool) → Bounded (cond b (told (now_in o (unlisted o.state n a)) (notice.Stopped a n)) (now_in o (unlisted o.state n a))).state
    by true = record { time = h.time; within = h.within; soon = h.soon }
    by false = record { time = h.time; within = h.within; soon = h.soon }

quieted : (s : StateView) (a : App) → Bounded s → Bounded (without_due (with_standing s a Quiet) (Failover a))
quieted s a h = record { time = h.time; within = h.within; soon = soon_without (Failover a) s.timers h.soon }

either_state : (b : Bool) (o p : Course) → Bounded o.state → Bounded p.state → Bounded (cond b o p).state
either_state true o p h k = h
either_state false o p h k = k

change_bounded : (o : Course) (e : Event) → Bounded o.state → Bounded (change o e).state
unfolding exited start_all stop_all left_everywhere
change_bounded o (Boot n) h = booted_bounded o.state n h
change_bounded o (Crash n) h = ended_bounded o n h
change_bounded o (Start n a r) h = marked o.state n a r h
change_bounded o (Stop n a) h = either_state (runs_at o.state n a) (stopped o n a) (left_waiting o n a) (stopped_bounded o n a h) (left_bounded o n a h)
change_bounded o (Permit n a allow) h = permit_bounded o n a allow h
change_bounded o (Takeover n a r) h = takeover_bounded o n a r h
change_bounded o (Exit n a normal) h = either_state (ends_node (restart_of o.state n a) normal) (ended o n) (stopped o n a) (ended_bounded o n h) (stopped_bounded o n a h)
change_bounded o (StartAll a r) h = starts_bounded a r (targets o.state a) o h
change_bounded o (StopAll a) h = quieted (fold (leave_at a) o (nodes_of o.state.cluster)).state a (leaves_bounded a (nodes_of o.state.cluster) o h)
change_bounded o _ h = h

-- ---- timers fire
effect_bounded : (o : Course) (t : Timer) → Bounded o.state → Bounded (effect o t).state
effect_bounded o (Sync n) h =
    either_state (all_alive o.state (mandatory_of o.state.cluster n)) (come_up o n) (ended o n) (up_bounded o n h) (ended_bounded o n h)
effect_bounded o (Failover a) h = by (standing_of o.state a)
  where
    by : (st : Standing) → Bounded (wanted_if_lost o.state a st)
    by (Lost k) = record { time = h.time; within = h.within; soon = h.soon }
    by Quiet = h
    by (Wanted from) = h
    by (Running k) = h

fired_bounded : (pick : Pick) (limit : ℕ) (o : Course) (entry : ℕ × Timer) → limit ≤ time_limit → Bounded o.state → due_by limit (earliest o.state) ≡ Some entry
    → Bounded (fired pick o entry).state
unfolding fired
fired_bounded pick limit o entry within h is = rest_bounded pick (effect (taken_off o entry) entry.1)
    (effect_bounded (taken_off o entry) entry.1 (record {
      time = due_in_time limit o.state entry within is;
      within = h.within;
      soon = soon_without entry.1 o.state.timers h.soon;
    }))

all_bounded : (pick : Pick) (limit : ℕ) (o : Course) → limit ≤ time_limit → Bounded o.state → Bounded (all_fired pick limit o).state
unfolding all_fired
all_bounded pick limit o within h = by_firing (λ (p : Course). Bounded p.state) pick limit
    (λ p entry k is. fired_bounded pick limit p entry within k is) (timer_count o) o h

-- ---- the whole
every_due : (s : StateView) → IsValid s → IsDueSoon s → Bounded s
every_due s valid soon = record { time = valid.sound.shaped.time; within = valid.sound.within; soon = every_all IsSoon s.timers soon }

all_due : (s : StateView) → Bounded s → IsDueSoon s
all_due s h = λ k d l. every_at IsSoon s.timers k d h.soon l

pub due_within_limits : DueWithinLimits
unfolding next followed ticked
due_within_limits s (Tick ms) pick valid fine soon =
    let limit : ℕ = s.time + ms in
    all_due _ (all_bounded pick limit (course_of s [] []) (accepted_tick s ms fine).limit (every_due s valid soon))
due_within_limits s e pick valid fine soon =
    all_due _ (rest_bounded pick (change (course_of s [] []) e) (change_bounded (course_of s [] []) e (every_due s valid soon)))
