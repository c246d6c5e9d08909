-- An application that was lost with a node stays lost, until its timer fires, its node comes up, or somebody calls it.
use Rattle.std.proofs.Common.{◌≡◌, ◌≢◌, ◌⊎◌, ◌+◌, ◌==◌, ◌&&◌, Bool, true, false, cond, not, List, [], ◌∷◌, fold, None, Some, refl, sym, ap, subst, ◌∙◌, arith, inl, inr}
use Rattle.std.proofs.Common.{slice_get, unwrap_or}
use Rattle.std.specs.List.{Contains, filter}
use Rattle.std.proofs.lemmas.Bool.{and_parts}
use Rattle.std.proofs.lemmas.List.Elements.{Contains-append_right}
use Rattle.rh_model.specs.ClusterView.{mandatory_of, boot_of, sync_wait_of, numbered}
use Rattle.rh_model.specs.declared.node.Node.{Node}
use Rattle.rh_model.specs.declared.node.App.{App}
use Rattle.rh_model.specs.declared.settings.Restart.{Restart}
use Rattle.rh_model.specs.declared.settings.SyncWait.{SyncWait}
use Rattle.rh_model.specs.declared.settings.SyncWait.TheVariants.{Unset, After, Forever}
use Rattle.rh_state.specs.declared.status.Mode.TheVariants as mode
use Rattle.rh_state.specs.declared.status.Standing.{Standing}
use Rattle.rh_state.specs.declared.status.Standing.TheVariants.{Quiet, Wanted, Running, Lost}
use Rattle.rh_state.specs.declared.status.Timer.{Timer}
use Rattle.rh_state.specs.declared.status.Timer.TheVariants.{Sync, Failover}
use Rattle.rh_state.specs.Numbers.{same_node, same_app, nodes_of, apps_of}
use Rattle.rh_state.specs.Timers.{same_timer}
use Rattle.rh_state.specs.StateView.{StateView, mode_of, is_up, standing_of, runs_at, is_allowed, restart_of, incarnation_of}
use Rattle.rh_state.specs.Setters.{with_mode, with_incarnation, with_standing, with_timer, with_restart, with_waiting, with_allowed, without_due, unlisted}
use Rattle.rh_rules.specs.declared.pick.Pick.{Pick}
use Rattle.rh_rules.specs.declared.notice.Notice.TheVariants as notice
use Rattle.rh_rules.specs.Course.{Course, course_of, told, now_in, is_local}
use Rattle.rh_rules.specs.Moves.{with_stopped}
use Rattle.rh_rules.specs.NodesStart.{all_alive, is_ready, come_up, come_up_if_ready, ready_come_up, with_sync_timer, booted}
use Rattle.rh_rules.specs.Settling.{settled}
use Rattle.rh_trace.specs.Validity.{IsSound}
use Rattle.rh_rules.specs.declared.event.Event.{Event}
use Rattle.rh_rules.specs.declared.event.Event.TheVariants.{Boot, Crash, Tick, Start, Stop, Permit, Takeover, Exit, StartAll, StopAll}
use Rattle.rh_rules.specs.Marking.{wanted_by_mark, with_mark, mark, mark_booted, mark_all}
use Rattle.rh_rules.specs.NodesEnd.{timeout_of, cleared, lost_at, lost_from, lost_if_ran, all_lost, ended, wanted_if_lost}
use Rattle.rh_rules.specs.ByHand.{stopped, is_started_anywhere, quiet_if_nowhere, left_waiting, forbidden, permitted, permission_set, taken_from, taken_over, ends_node, exited}
use Rattle.rh_rules.specs.Everywhere.{is_target, targets, start_at, start_all}
use Rattle.rh_rules.specs.Steps.{change, followed, next}
use Rattle.rh_rules.specs.Refusals.{refused}
use Rattle.rh_rules.specs.Time.{effect, taken_off, fired}
use Rattle.rh_step_laws.specs.Laws.{may_end_wait, LostStays, LostStaysAtOtherTimers}
use Rattle.rh_base.proofs.Lists.{cases}
use Rattle.rh_trace.proofs.Behind.{settled_after}
use Rattle.rh_base.proofs.Truths.{same_number, both}
use Rattle.rh_trace.proofs.Entries.{other_number}
use Rattle.rh_trace.proofs.Places.{at_set, at_set_there}
use Rattle.rh_settle.proofs.Resting.{rests, set_beside, settled_rests}
use Rattle.rh_refusals.proofs.Accepted.{accepted_exit}
use Rattle.rh_events.proofs.StartingAll.{of_target}
use Rattle.rh_events.proofs.StoppingAll.{stop_all_of_another}
use Rattle.rh_events.proofs.Notices.{come_up_after, ended_after}
use Rattle.rh_events.proofs.StaysUp.{told_still}

-- it is lost still, or its node came up
abbrev StaysLost : App → Node → Course → Type 0
StaysLost a m o = (standing_of o.state a ≡ Lost m) ⊎ Contains o.notices (notice.Up m)

-- ---- another application is given another standing
pub differs : (s : StateView) (a b : App) (new : Standing) → (standing_of s a ≡ standing_of s b → ⊥) → standing_of (with_standing s b new) a ≡ standing_of s a
differs s a b new apart = at_set s.standings b.0 a.0 new Quiet
    (λ same. same)
    (λ here e. absurd (apart (ap (λ k. unwrap_or (slice_get s.standings k) Quiet) here)))

beside : (s : StateView) (a b : App) (m : Node) (st new : Standing) → standing_of s a ≡ Lost m → standing_of s b ≡ st → rests st ≡ false
    → standing_of (with_standing s b new) a ≡ standing_of s a
beside s a b m st new is at moves = set_beside s.standings a b st new (ap rests is) at moves

-- ---- a node ends
pub one_lost : (n : Node) (s : StateView) (b a : App) (m : Node) → standing_of s a ≡ Lost m → standing_of (lost_if_ran n s b) a ≡ standing_of s a
unfolding lost_if_ran
one_lost n s b a m is = by (standing_of s b) refl
  where
    at : (k : Node) → standing_of s b ≡ Running k → (p : Bool) → standing_of (cond p (with_standing s b (Wanted (Some n)))
        (with_timer (with_standing s b (Lost n)) (s.time + timeout_of s.cluster b) (Failover b))) a ≡ standing_of s a
    at k stands true = beside s a b m (Running k) (Wanted (Some n)) is stands refl
    at k stands false = beside s a b m (Running k) (Lost n) is stands refl

    there : (k : Node) → standing_of s b ≡ Running k → (p : Bool) → standing_of (cond p (lost_at s n b) s) a ≡ standing_of s a
    there k stands true = at k stands (timeout_of s.cluster b == 0)
    there k stands false = refl

    by : (st : Standing) → standing_of s b ≡ st → standing_of (lost_from s n b st) a ≡ standing_of s a
    by (Running k) stands = there k stands (same_node k n)
    by _ stands = refl

each_lost : (n : Node) (apps : List App) (s : StateView) (a : App) (m : Node) → standing_of s a ≡ Lost m → standing_of (fold (lost_if_ran n) s apps) a ≡ Lost m
each_lost n [] s a m is = is
each_lost n (b ∷ apps) s a m is = each_lost n apps (lost_if_ran n s b) a m (one_lost n s b a m is ∙ is)

ended_lost : (o : Course) (n : Node) (a : App) (m : Node) → standing_of o.state a ≡ Lost m → standing_of (ended o n).state a ≡ Lost m
unfolding ended all_lost cleared
ended_lost o n a m is = each_lost n (apps_of o.state.cluster) (cleared o.state n) a m is

ended_stays : (a : App) (m n : Node) (o : Course) → StaysLost a m o → StaysLost a m (ended o n)
ended_stays a m n o (inl is) = inl (ended_lost o n a m is)
ended_stays a m n o (inr has) = inr (told_still (λ p. ended p n) (λ base p. ended_after base p n) o (notice.Up m) has)

-- ---- a mark at another node, or of another application
lost_same : (x y : Node) → Lost x ≡ Lost y → x ≡ y
lost_same x y e = cc

-- a pair that waits, before its application is wanted
abbrev pub waits_there : StateView → Node → App → Restart → StateView
waits_there s n b r = with_restart (with_waiting s n b) n b r

mark_elsewhere : (s : StateView) (n : Node) (b : App) (r : Restart) (a : App) (m : Node) → standing_of s a ≡ Lost m → same_node m n ≡ false
    → standing_of (with_mark s n b r) a ≡ standing_of s a
unfolding with_mark
mark_elsewhere s n b r a m is other = by (standing_of s b) refl
  where
    not_quiet : standing_of s b ≡ Quiet → standing_of s a ≡ standing_of s b → ⊥
    not_quiet stands e = clash (sym is ∙ e ∙ stands)
      where
        clash : Lost m ≡ Quiet → ⊥
        clash e = cc e

    quiet : standing_of s b ≡ Quiet → (p : Bool) → standing_of (cond p (waits_there s n b r) (with_standing (waits_there s n b r) b (Wanted None))) a ≡ standing_of s a
    quiet stands true = refl
    quiet stands false = differs s a b (Wanted None) (not_quiet stands)

    lost : (k : Node) → standing_of s b ≡ Lost k → (p : Bool) → same_node k n ≡ p
        → standing_of (cond p (without_due (with_standing (waits_there s n b r) b (Wanted (Some n))) (Failover b)) (waits_there s n b r)) a ≡ standing_of s a
    lost k stands true here = differs s a b (Wanted (Some n))
        (λ e. both (same_node k n) here (ap (λ (x : Node). same_node x n) (sym (lost_same m k (sym is ∙ e ∙ stands))) ∙ other))
    lost k stands false there = refl

    by : (st : Standing) → standing_of s b ≡ st → standing_of (wanted_by_mark (waits_there s n b r) n b st) a ≡ standing_of s a
    by Quiet stands = quiet stands (is_local s.cluster b)
    by (Lost k) stands = lost k stands (same_node k n) refl
    by (Wanted from) stands = refl
    by (Running k) stands = refl

pub mark_of_another : (s : StateView) (n : Node) (b : App) (r : Restart) (a : App) → a.0 ≢ b.0 → standing_of (with_mark s n b r) a ≡ standing_of s a
unfolding with_mark
mark_of_another s n b r a other = by (standing_of s b)
  where
    quiet : (p : Bool) → standing_of (cond p (waits_there s n b r) (with_standing (waits_there s n b r) b (Wanted None))) a ≡ standing_of s a
    quiet true = refl
    quiet false = at_set_there s.standings b.0 a.0 (Wanted None) Quiet other

    lost : (p : Bool) → standing_of (cond p (without_due (with_standing (waits_there s n b r) b (Wanted (Some n))) (Failover b)) (waits_there s n b r)) a ≡ standing_of s a
    lost true = at_set_there s.standings b.0 a.0 (Wanted (Some n)) Quiet other
    lost false = refl

    by : (st : Standing) → standing_of (wanted_by_mark (waits_there s n b r) n b st) a ≡ standing_of s a
    by Quiet = quiet (is_local s.cluster b)
    by (Lost k) = lost (same_node k n)
    by (Wanted from) = refl
    by (Running k) = refl

-- ---- nodes come up
marks_elsewhere : (n : Node) (boot : List (App × Restart)) (o : Course) (a : App) (m : Node) → standing_of o.state a ≡ Lost m → same_node m n ≡ false
    → standing_of (fold (mark_booted n) o boot).state a ≡ Lost m
marks_elsewhere n [] o a m is other = is
marks_elsewhere n (b ∷ boot) o a m is other = marks_elsewhere n boot (mark o n b.0 b.1) a m (mark_elsewhere o.state n b.0 b.1 a m is other ∙ is) other

marks_of_another : (b : App) (r : Restart) (ns : List Node) (o : Course) (a : App) → a.0 ≢ b.0
    → standing_of (fold (start_at b r) o ns).state a ≡ standing_of o.state a
marks_of_another b r [] o a other = refl
marks_of_another b r (n ∷ ns) o a other = marks_of_another b r ns (mark o n b r) a other ∙ mark_of_another o.state n b r a other

pub start_all_of_another : (o : Course) (b : App) (r : Restart) (a : App) → a.0 ≢ b.0 → standing_of (start_all o b r).state a ≡ standing_of o.state a
unfolding start_all
start_all_of_another o b r a other = marks_of_another b r (targets o.state b) o a other

marks_tell_none : (n : Node) (boot : List (App × Restart)) (o : Course) → (fold (mark_booted n) o boot).notices ≡ o.notices
marks_tell_none n [] o = refl
marks_tell_none n (b ∷ boot) o = marks_tell_none n boot (mark o n b.0 b.1)

-- a node that has come up, before its boot list is marked
abbrev risen : Course → Node → Course
risen o n = told (now_in o (with_mode (without_due o.state (Sync n)) n mode.Up)) (notice.Up n)

pub up_told : (o : Course) (n m : Node) → same_node m n ≡ true → Contains (come_up o n).notices (notice.Up m)
unfolding come_up mark_all
up_told o n m same = subst (λ notices. Contains notices (notice.Up m)) (sym (marks_tell_none n (boot_of o.state.cluster n) (risen o n)))
    (Contains-append_right o.notices (notice.Up n ∷ []) (notice.Up m) (0, omega arith, ap (λ k. notice.Up (numbered k)) (sym (same_number m.0 n.0 same))))

pub elsewhere_lost : (o : Course) (n : Node) (a : App) (m : Node) → standing_of o.state a ≡ Lost m → same_node m n ≡ false
    → standing_of (come_up o n).state a ≡ Lost m
unfolding come_up mark_all
elsewhere_lost o n a m is other = marks_elsewhere n (boot_of o.state.cluster n) (risen o n) a m is other

come_up_stays : (a : App) (m n : Node) (o : Course) → StaysLost a m o → StaysLost a m (come_up o n)
come_up_stays a m n o (inl is) = cases (same_node m n) (λ t. inr (up_told o n m t)) (λ f. inl (elsewhere_lost o n a m is f))
come_up_stays a m n o (inr has) = inr (told_still (λ p. come_up p n) (λ base p. come_up_after base p n) o (notice.Up m) has)

ready_stays : (a : App) (m : Node) (ns : List Node) (o : Course) → StaysLost a m o → StaysLost a m (fold come_up_if_ready o ns)
unfolding come_up_if_ready
ready_stays a m [] o stays = stays
ready_stays a m (n ∷ ns) o stays = ready_stays a m ns (come_up_if_ready o n) (by (is_ready o.state n))
  where
    by : (b : Bool) → StaysLost a m (cond b (come_up o n) o)
    by true = come_up_stays a m n o stays
    by false = stays

-- ---- and the applications settle
settled_stays : (a : App) (m : Node) (pick : Pick) (o : Course) → StaysLost a m o → StaysLost a m (settled pick o)
settled_stays a m pick o (inl is) = inl (settled_rests pick o a (ap rests is) ∙ is)
settled_stays a m pick o (inr has) = inr (told_still (settled pick) (λ base p. settled_after base pick p) o (notice.Up m) has)

rest_stays : (a : App) (m : Node) (pick : Pick) (o : Course) → StaysLost a m o → StaysLost a m (settled pick (ready_come_up o))
unfolding ready_come_up
rest_stays a m pick o stays = settled_stays a m pick (ready_come_up o) (ready_stays a m (nodes_of o.state.cluster) o stays)

-- ---- a timer that isn't its own
effect_stays : (a : App) (m : Node) (o : Course) (t : Timer) → same_timer t (Failover a) ≡ false → standing_of o.state a ≡ Lost m → StaysLost a m (effect o t)
effect_stays a m o (Sync n) another is = by (all_alive o.state (mandatory_of o.state.cluster n))
  where
    by : (b : Bool) → StaysLost a m (cond b (come_up o n) (ended o n))
    by true = come_up_stays a m n o (inl is)
    by false = ended_stays a m n o (inl is)
effect_stays a m o (Failover b) another is = by (standing_of o.state b)
  where
    other : a.0 ≢ b.0
    other = λ e. other_number b.0 a.0 another (sym e)

    by : (st : Standing) → StaysLost a m (record o { state = wanted_if_lost o.state b st })
    by (Lost k) = inl (at_set_there o.state.standings b.0 a.0 (Wanted (Some k)) Quiet other ∙ is)
    by _ = inl is

pub lost_stays_at_other_timers : LostStaysAtOtherTimers
unfolding fired
lost_stays_at_other_timers pick o entry a m another is =
    rest_stays a m pick (effect (taken_off o entry) entry.1) (effect_stays a m (taken_off o entry) entry.1 another is)

-- ---- an event's own change
pub booted_standings : (s : StateView) (n : Node) → (booted s n).standings ≡ s.standings
unfolding booted
booted_standings s n = by (with_mode (with_incarnation s n (incarnation_of s n + 1)) n mode.Waiting) (sync_wait_of s.cluster n)
  where
    by : (t : StateView) (wait : SyncWait) → (with_sync_timer t n wait).standings ≡ t.standings
    by t Unset = refl
    by t (After ms) = refl
    by t Forever = refl

-- one that runs at a node stands so, or is local
quiets : (s t : StateView) (a b : App) (m n : Node) (new : Standing) → IsSound s → standing_of s a ≡ Lost m → runs_at s n b ≡ true → t.standings ≡ s.standings
    → standing_of (cond (is_local s.cluster b) t (with_standing t b new)) a ≡ Lost m
quiets s t a b m n new sound is runs same = by (is_local s.cluster b) refl
  where
    as_before : standing_of t a ≡ Lost m
    as_before = ap (λ (xs : List Standing). unwrap_or (slice_get xs a.0) Quiet) same ∙ is

    by : (p : Bool) → is_local s.cluster b ≡ p → standing_of (cond p t (with_standing t b new)) a ≡ Lost m
    by true local = as_before
    by false far = beside t a b m (Running n) new as_before
        (ap (λ (xs : List Standing). unwrap_or (slice_get xs b.0) Quiet) same ∙ sound.standing.stands n b far runs) refl ∙ as_before

stop_of_another : (o : Course) (n : Node) (a b : App) (m : Node) → a.0 ≢ b.0 → standing_of o.state a ≡ Lost m → StaysLost a m (change o (Stop n b))
unfolding stopped left_waiting
stop_of_another o n a b m other is = by (runs_at o.state n b)
  where
    quiet : (new : Standing) → standing_of (with_standing o.state b new) a ≡ Lost m
    quiet new = at_set_there o.state.standings b.0 a.0 new Quiet other ∙ is

    stop : (p : Bool) → standing_of (cond p (unlisted o.state n b) (with_standing (unlisted o.state n b) b Quiet)) a ≡ Lost m
    stop true = is
    stop false = quiet Quiet

    wanted : (p : Bool) → standing_of (cond p (unlisted o.state n b) (with_standing (unlisted o.state n b) b Quiet)) a ≡ Lost m
    wanted true = is
    wanted false = quiet Quiet

    lost : (p : Bool) → standing_of (cond p (unlisted o.state n b) (without_due (with_standing (unlisted o.state n b) b Quiet) (Failover b))) a ≡ Lost m
    lost true = is
    lost false = quiet Quiet

    leave : (st : Standing) → standing_of (quiet_if_nowhere (unlisted o.state n b) b st) a ≡ Lost m
    leave (Wanted from) = wanted (is_started_anywhere (unlisted o.state n b) b)
    leave (Lost k) = lost (is_started_anywhere (unlisted o.state n b) b)
    leave _ = is

    by : (p : Bool) → StaysLost a m (cond p (stopped o n b) (left_waiting o n b))
    by true = inl (stop (is_local o.state.cluster b))
    by false = inl (leave (standing_of o.state b))

start_lost : (s : StateView) (n : Node) (b : App) (r : Restart) (a : App) (m : Node) → standing_of s a ≡ Lost m → same_app a b && same_node m n ≡ false
    → standing_of (with_mark s n b r) a ≡ Lost m
start_lost s n b r a m is calls = cases (same_node m n)
    (λ t. cases (same_app a b)
    (λ u. absurd (both (same_app a b && same_node m n) (ap (λ p. p && same_node m n) u ∙ t) calls))
    (λ f. mark_of_another s n b r a (other_number a.0 b.0 f) ∙ is))
    (λ f. mark_elsewhere s n b r a m is f ∙ is)

-- started at nodes that are up, where the one with which it was lost isn't
starts_elsewhere : (s : StateView) (ns : List Node) (o : Course) (b : App) (r : Restart) (a : App) (m : Node) → is_up (mode_of s m) ≡ false
    → standing_of o.state a ≡ Lost m → standing_of (fold (start_at b r) o (filter (is_target s b) ns)).state a ≡ Lost m
starts_elsewhere s [] o b r a m down is = is
starts_elsewhere s (n ∷ ns) o b r a m down is = by (is_target s b n) refl (λ p. starts_elsewhere s ns p b r a m down)
  where
    another : is_target s b n ≡ true → same_node m n ≡ false
    another t = cases (same_node m n)
        (λ h. absurd (both (is_up (mode_of s n)) (of_target s b n t).up (ap (λ k. is_up (mode_of s (numbered k))) (sym (same_number m.0 n.0 h)) ∙ down)))
        (λ f. f)

    by : (p : Bool) → is_target s b n ≡ p
        → ((q : Course) → standing_of q.state a ≡ Lost m → standing_of (fold (start_at b r) q (filter (is_target s b) ns)).state a ≡ Lost m)
        → standing_of (fold (start_at b r) o (cond p (n ∷ filter (is_target s b) ns) (filter (is_target s b) ns))).state a ≡ Lost m
    by true t rest = rest (mark o n b r) (mark_elsewhere o.state n b r a m is (another t) ∙ is)
    by false f rest = rest o is

start_all_lost : (o : Course) (b : App) (r : Restart) (a : App) (m : Node) → standing_of o.state a ≡ Lost m
    → same_app a b && is_up (mode_of o.state m) ≡ false → standing_of (start_all o b r).state a ≡ Lost m
unfolding start_all targets
start_all_lost o b r a m is calls = cases (is_up (mode_of o.state m))
    (λ up. cases (same_app a b)
    (λ u. absurd (both (same_app a b && is_up (mode_of o.state m)) (ap (λ p. p && is_up (mode_of o.state m)) u ∙ up) calls))
    (λ f. start_all_of_another o b r a (other_number a.0 b.0 f) ∙ is))
    (λ down. starts_elsewhere o.state (nodes_of o.state.cluster) o b r a m down is)

permit_lost : (o : Course) (n : Node) (b : App) (allow : Bool) (a : App) (m : Node) → IsSound o.state → standing_of o.state a ≡ Lost m
    → standing_of (permitted o n b allow).state a ≡ Lost m
unfolding permitted forbidden
permit_lost o n b allow a m sound is = by (not allow && (is_allowed o.state n b && runs_at o.state n b)) refl
  where
    by : (p : Bool) → not allow && (is_allowed o.state n b && runs_at o.state n b) ≡ p
        → standing_of (cond p (forbidden o n b) (permission_set o n b allow)).state a ≡ Lost m
    by true e = quiets o.state (with_stopped (with_allowed o.state n b false) n b) a b m n (Wanted None) sound is (and_parts _ _ (and_parts _ _ e).1).1 refl
    by false e = is

takeover_lost : (o : Course) (n : Node) (b : App) (r : Restart) (a : App) (m : Node) → standing_of o.state a ≡ Lost m
    → standing_of (taken_over o n b r).state a ≡ Lost m
unfolding taken_over
takeover_lost o n b r a m is = by (standing_of o.state b) refl
  where
    by : (st : Standing) → standing_of o.state b ≡ st → standing_of (taken_from o n b r st).state a ≡ Lost m
    by (Running k) stands = beside o.state a b m (Running k) (Running n) is stands refl ∙ is
    by _ stands = is

exit_lost : (o : Course) (n : Node) (b : App) (normal : Bool) (a : App) (m : Node) → IsSound o.state → runs_at o.state n b ≡ true
    → standing_of o.state a ≡ Lost m → standing_of (exited o n b normal).state a ≡ Lost m
unfolding exited stopped
exit_lost o n b normal a m sound runs is = by (ends_node (restart_of o.state n b) normal)
  where
    by : (p : Bool) → standing_of (cond p (ended o n) (stopped o n b)).state a ≡ Lost m
    by true = ended_lost o n a m is
    by false = quiets o.state (unlisted o.state n b) a b m n Quiet sound is runs refl

change_stays : (s : StateView) (e : Event) (a : App) (m : Node) → IsSound s → refused s e ≡ None → standing_of s a ≡ Lost m → may_end_wait s e a m ≡ false
    → StaysLost a m (change (course_of s [] []) e)
change_stays s (Boot n) a m sound fine is calls = inl (ap (λ (xs : List Standing). unwrap_or (slice_get xs a.0) Quiet) (booted_standings s n) ∙ is)
change_stays s (Crash n) a m sound fine is calls = inl (ended_lost (course_of s [] []) n a m is)
change_stays s (Start n b r) a m sound fine is calls = inl (start_lost s n b r a m is calls)
change_stays s (Stop n b) a m sound fine is calls = stop_of_another (course_of s [] []) n a b m (other_number a.0 b.0 calls) is
change_stays s (Permit n b allow) a m sound fine is calls = inl (permit_lost (course_of s [] []) n b allow a m sound is)
change_stays s (Takeover n b r) a m sound fine is calls = inl (takeover_lost (course_of s [] []) n b r a m is)
change_stays s (Exit n b normal) a m sound fine is calls =
    inl (exit_lost (course_of s [] []) n b normal a m sound (accepted_exit s n b normal fine).runs is)
change_stays s (StartAll b r) a m sound fine is calls = inl (start_all_lost (course_of s [] []) b r a m is calls)
change_stays s (StopAll b) a m sound fine is calls = inl (stop_all_of_another (course_of s [] []) b a (other_number a.0 b.0 calls) ∙ is)
change_stays s _ a m sound fine is calls = inl is

followed_stays : (s : StateView) (e : Event) (pick : Pick) (a : App) (m : Node) → IsSound s → refused s e ≡ None → standing_of s a ≡ Lost m
    → may_end_wait s e a m ≡ false → StaysLost a m (followed pick (course_of s [] []) e)
unfolding followed
followed_stays s e pick a m sound fine is calls = rest_stays a m pick (change (course_of s [] []) e) (change_stays s e a m sound fine is calls)

pub lost_stays : LostStays
unfolding next
lost_stays s (Tick ms) pick a m valid fine is calls = absurd (cc calls)
lost_stays s e pick a m valid fine is calls = followed_stays s e pick a m valid.sound fine is calls
