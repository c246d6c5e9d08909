-- An application that was lost runs again behind a tick that reaches its timer, if a node of its list can run it then.
use Rattle.std.proofs.Common.{◌≡◌, ◌+◌, ◌≤◌, ◌<◌, ℕ, zero, suc, Bool, true, false, cond, List, [], ◌∷◌, fold, find, All, None, Some, IsSome, refl, sym, ap}
use Rattle.std.proofs.Common.{subst, ◌∙◌, arith, inl, inr, slice_get, slice_set, unwrap_or, get_or, length}
use Rattle.std.specs.Option.{option_map}
use Rattle.std.proofs.lemmas.List.Elements.{All-cons}
use Rattle.std.proofs.lemmas.Bool.Decides.{leb_tells}
use Rattle.rh_model.specs.ClusterView.{ClusterView, group_of, mandatory_of, boot_of, numbered}
use Rattle.rh_model.specs.declared.node.Node.{Node}
use Rattle.rh_model.specs.declared.node.App.{App}
use Rattle.rh_model.specs.declared.settings.Restart.{Restart}
use Rattle.rh_state.specs.declared.status.Mode.TheVariants as mode
use Rattle.rh_state.specs.declared.status.Standing.{Standing}
use Rattle.rh_state.specs.declared.status.Standing.TheVariants.{Quiet, Wanted, Running, Lost}
use Rattle.rh_state.specs.declared.status.Timer.{Timer}
use Rattle.rh_state.specs.declared.status.Timer.TheVariants.{Sync, Failover}
use Rattle.rh_state.specs.Lists.{has_app}
use Rattle.rh_state.specs.Limits.{time_limit}
use Rattle.rh_state.specs.Numbers.{same_node, nodes_of, apps_of}
use Rattle.rh_state.specs.Standings.{is_quiet, is_lost}
use Rattle.rh_state.specs.Timers.{same_timer, due_among}
use Rattle.rh_state.specs.StateView.{StateView, mode_of, is_waiting, standing_of, runs_at, earliest}
use Rattle.rh_state.specs.Setters.{with_mode, with_standing, without_due, with_time}
use Rattle.rh_rules.specs.declared.pick.Pick.{Pick}
use Rattle.rh_rules.specs.Placing.{is_operational}
use Rattle.rh_rules.specs.declared.notice.Move.{Move}
use Rattle.rh_rules.specs.declared.notice.Move.TheVariants.{Local, Placement, Takeover}
use Rattle.rh_rules.specs.declared.notice.Notice.TheVariants as notice
use Rattle.rh_rules.specs.Course.{Course, course_of, told, now_in, is_local}
use Rattle.rh_rules.specs.Moves.{moved, moved_state}
use Rattle.rh_rules.specs.NodesStart.{all_alive, is_ready, come_up, come_up_if_ready, ready_come_up}
use Rattle.rh_rules.specs.Settling.{settled}
use Rattle.rh_trace.specs.Validity.{IsSound, IsValid}
use Rattle.rh_rules.specs.declared.event.Event.TheVariants.{Tick}
use Rattle.rh_rules.specs.Marking.{wanted_by_mark, with_mark, mark, mark_booted, mark_all}
use Rattle.rh_rules.specs.NodesEnd.{cleared, all_lost, ended, wanted_if_lost}
use Rattle.rh_rules.specs.Time.{due_by, effect, taken_off, fired, all_fired, ticked}
use Rattle.rh_rules.specs.Steps.{next}
use Rattle.rh_laws.specs.Laws.{RunsAgain, FailsOverInTime}
use Rattle.rh_base.proofs.Lists.{cases}
use Rattle.rh_base.proofs.Truths.{both, same_number}
use Rattle.rh_trace.proofs.Entries.{is_false}
use Rattle.rh_trace.proofs.Places.{at_set}
use Rattle.rh_settle.proofs.Unchanged.{settled_timers, settled_cluster, waits_told_state}
use Rattle.rh_settle.proofs.Fuel.{state_moved}
use Rattle.rh_settle.proofs.Still.{settled_sound}
use Rattle.rh_settle.proofs.SettlingLaws.{settles_by_pick}
use Rattle.rh_settle.proofs.FieldLaws.{never_left_wanted}
use Rattle.rh_refusals.proofs.Accepted.{accepted_tick}
use Rattle.rh_events.proofs.SoundComingUp.{idle_waits, sound_ready_come_up, ready_come_up_cluster}
use Rattle.rh_events.proofs.TimersFall.{NoneRunsAt, none_lost}
use Rattle.rh_trace.proofs.TimersToldApart.{IsOnce, IsInOrder, is_set, set-cons, same_timer-tells, All-without}
use Rattle.rh_step.proofs.TakenOff.{waits_to_end, sound_effect}
use Rattle.rh_step.proofs.Firing.{effect_cluster}
use Rattle.rh_step.proofs.Fuel.{timer_count, due_is_first, due_in_time, by_firing}
use Rattle.rh_step.proofs.FiredSound.{none_left}
use Rattle.rh_step_laws.proofs.LostStays.{waits_there}
use Rattle.rh_step.proofs.Validity.{next_valid}

-- ---- what a state is to keep: the application is to run, and its timer isn't due later
abbrev IsBy : App → ℕ → ℕ × Timer → Type 0
IsBy a due entry = same_timer (Failover a) entry.1 ≡ true → entry.0 ≤ due

abbrev Awaits : App → ℕ → StateView → Type 0
Awaits a due s = (is_quiet (standing_of s a) ≡ false) × All (IsBy a due) s.timers

-- one that isn't quiet stays so where another standing is set that isn't quiet
set_to_run : (standings : List Standing) (i : ℕ) (a : App) (new : Standing) → is_quiet (unwrap_or (slice_get standings a.0) Quiet) ≡ false → is_quiet new ≡ false
    → is_quiet (unwrap_or (slice_get (slice_set standings i new) a.0) Quiet) ≡ false
set_to_run standings i a new was is = at_set standings i a.0 new Quiet (λ same. ap is_quiet same ∙ was) (λ here v. ap is_quiet v ∙ is)

-- ---- nodes come up
wanted_awaits : (a : App) (due : ℕ) (s : StateView) (n : Node) (b : App) (st : Standing) → Awaits a due s → Awaits a due (wanted_by_mark s n b st)
wanted_awaits a due s n b Quiet h = by (is_local s.cluster b)
  where
    by : (p : Bool) → Awaits a due (cond p s (with_standing s b (Wanted None)))
    by true = h
    by false = (set_to_run s.standings b.0 a (Wanted None) h.0 refl, h.1)
wanted_awaits a due s n b (Lost k) h = by (same_node k n)
  where
    by : (p : Bool) → Awaits a due (cond p (without_due (with_standing s b (Wanted (Some n))) (Failover b)) s)
    by true = (set_to_run s.standings b.0 a (Wanted (Some n)) h.0 refl, All-without (IsBy a due) (Failover b) s.timers h.1)
    by false = h
wanted_awaits a due s n b (Wanted from) h = h
wanted_awaits a due s n b (Running k) h = h

marks_await : (a : App) (due : ℕ) (n : Node) (boot : List (App × Restart)) (o : Course) → Awaits a due o.state
    → Awaits a due (fold (mark_booted n) o boot).state
unfolding with_mark
marks_await a due n [] o h = h
marks_await a due n (b ∷ boot) o h = marks_await a due n boot (mark o n b.0 b.1) (wanted_awaits a due (waits_there o.state n b.0 b.1) n b.0 (standing_of o.state b.0) h)

come_up_awaits : (a : App) (due : ℕ) (o : Course) (n : Node) → Awaits a due o.state → Awaits a due (come_up o n).state
unfolding come_up mark_all
come_up_awaits a due o n h = marks_await a due n (boot_of o.state.cluster n)
    (told (now_in o (with_mode (without_due o.state (Sync n)) n mode.Up)) (notice.Up n))
    (h.0, All-without (IsBy a due) (Sync n) o.state.timers h.1)

each_awaits : (a : App) (due : ℕ) (ns : List Node) (o : Course) → Awaits a due o.state → Awaits a due (fold come_up_if_ready o ns).state
unfolding come_up_if_ready
each_awaits a due [] o h = h
each_awaits a due (n ∷ ns) o h = each_awaits a due ns (come_up_if_ready o n) (by (is_ready o.state n))
  where
    by : (b : Bool) → Awaits a due (cond b (come_up o n) o).state
    by true = come_up_awaits a due o n h
    by false = h

ready_awaits : (a : App) (due : ℕ) (o : Course) → Awaits a due o.state → Awaits a due (ready_come_up o).state
unfolding ready_come_up
ready_awaits a due o h = each_awaits a due (nodes_of o.state.cluster) o h

-- ---- a node at which nothing runs ends
ended_awaits : (a : App) (due : ℕ) (o : Course) (n : Node) → NoneRunsAt o.state n → Awaits a due o.state → Awaits a due (ended o n).state
unfolding ended all_lost cleared
ended_awaits a due o n idle h = subst (Awaits a due) (sym (none_lost n (cleared o.state n) (apps_of o.state.cluster) idle))
    (h.0, All-without (IsBy a due) (Sync n) o.state.timers h.1)

-- ---- the applications settle
moved_to_run : (a : App) (s : StateView) (m : Move) → is_quiet (standing_of s a) ≡ false → is_quiet (standing_of (moved_state s m) a) ≡ false
moved_to_run a s (Local n b) h = h
moved_to_run a s (Placement b from n) h = set_to_run s.standings b.0 a (Running n) h refl
moved_to_run a s (Takeover b m n) h = set_to_run s.standings b.0 a (Running n) h refl

moves_to_run : (a : App) (ms : List Move) (o : Course) → is_quiet (standing_of o.state a) ≡ false → is_quiet (standing_of (fold moved o ms).state a) ≡ false
moves_to_run a [] o h = h
moves_to_run a (m ∷ ms) o h = moves_to_run a ms (moved o m)
    (ap (λ s. is_quiet (standing_of s a)) (state_moved o m) ∙ moved_to_run a o.state m h)

settled_awaits : (a : App) (due : ℕ) (pick : Pick) (o : Course) → IsSound o.state → Awaits a due o.state → Awaits a due (settled pick o).state
settled_awaits a due pick o sound h =
    let run = settles_by_pick pick o sound.shaped in
    let same : (settled pick o).state ≡ (fold moved o run.moves).state =
    ap (λ (p : Course). p.state) run.outcome ∙ waits_told_state (fold moved o run.moves) in (
      ap (λ s. is_quiet (standing_of s a)) same ∙ moves_to_run a run.moves o h.0,
      subst (λ (entries : List (ℕ × Timer)). All (IsBy a due) entries) (sym (settled_timers pick o)) h.1,
    )

-- ---- a timer fires
idle_at_wait : (s : StateView) (n : Node) → IsSound s → is_waiting (mode_of s n) ≡ true → NoneRunsAt s n
idle_at_wait s n sound waits b k stands = cases (same_node k n)
    (λ same. both (runs_at s n b)
    (ap (λ j. runs_at s (numbered j) b) (sym (same_number k.0 n.0 same)) ∙ sound.runs.runs b k stands)
    (ap (λ apps. has_app apps b) (idle_waits s n sound waits).0))
    (λ other. other)

lost_awaits : (a : App) (due : ℕ) (s : StateView) (b : App) (st : Standing) → Awaits a due s → Awaits a due (wanted_if_lost s b st)
lost_awaits a due s b (Lost k) h = (set_to_run s.standings b.0 a (Wanted (Some k)) h.0 refl, h.1)
lost_awaits a due s b Quiet h = h
lost_awaits a due s b (Wanted from) h = h
lost_awaits a due s b (Running k) h = h

effect_awaits : (a : App) (due : ℕ) (o : Course) (entry : ℕ × Timer) → IsSound o.state → earliest o.state ≡ Some entry → Awaits a due o.state
    → Awaits a due (effect (taken_off o entry) entry.1).state
effect_awaits a due o (at, Failover b) sound first h =
    lost_awaits a due (taken_off o (at, Failover b)).state b (standing_of o.state b) (h.0, All-without (IsBy a due) (Failover b) o.state.timers h.1)
effect_awaits a due o (at, Sync n) sound first h = by (all_alive (taken_off o (at, Sync n)).state (mandatory_of o.state.cluster n))
  where
    before : Awaits a due (taken_off o (at, Sync n)).state
    before = (h.0, All-without (IsBy a due) (Sync n) o.state.timers h.1)

    by : (b : Bool) → Awaits a due (cond b (come_up (taken_off o (at, Sync n)) n) (ended (taken_off o (at, Sync n)) n)).state
    by true = come_up_awaits a due (taken_off o (at, Sync n)) n before
    by false = ended_awaits a due (taken_off o (at, Sync n)) n (idle_at_wait o.state n sound (waits_to_end o.state at n sound first)) before

-- the state is sound, of the same cluster, and awaits the application
abbrev Keeps : App → ℕ → ClusterView → Course → Type 0
Keeps a due c o = IsSound o.state × (o.state.cluster ≡ c) × Awaits a due o.state

fired_keeps : (a : App) (due limit : ℕ) (c : ClusterView) (pick : Pick) (o : Course) (entry : ℕ × Timer) → limit ≤ time_limit → Keeps a due c o
    → due_by limit (earliest o.state) ≡ Some entry → Keeps a due c (fired pick o entry)
unfolding fired
fired_keeps a due limit c pick o entry within h is =
    let first = due_is_first limit o.state entry is in
    let q = effect (taken_off o entry) entry.1 in
    let sound = sound_effect o entry (due_in_time limit o.state entry within is) h.0 first in
    let risen = sound_ready_come_up q sound in (
      settled_sound pick (ready_come_up q) risen,
      settled_cluster pick (ready_come_up q) ∙ ready_come_up_cluster q ∙ effect_cluster (taken_off o entry) entry.1 ∙ h.1,
      settled_awaits a due pick (ready_come_up q) risen (ready_awaits a due q (effect_awaits a due o entry h.0 first h.2)),
    )

all_keep : (a : App) (due limit : ℕ) (pick : Pick) (o : Course) → limit ≤ time_limit → Keeps a due o.state.cluster o
    → Keeps a due o.state.cluster (all_fired pick limit o)
unfolding all_fired
all_keep a due limit pick o within h = by_firing (Keeps a due o.state.cluster) pick limit
    (λ p entry k is. fired_keeps a due limit o.state.cluster pick p entry within k is) (timer_count o) o h

-- ---- at its end no timer of the application is left
-- a timer that is set once is due when it is due
set_by : (a : App) (due : ℕ) (xs : List (ℕ × Timer)) → IsOnce xs → due_among (Failover a) xs ≡ Some due → All (IsBy a due) xs
set_by a due [] once set = λ k d l. absurd (omega arith)
set_by a due (x ∷ xs) once set = by (same_timer (Failover a) x.1) refl set
    (λ later. set_by a due xs (λ i j d l k. once (suc i) (suc j) d (omega arith) (omega arith)) later)
  where
    some_same : (i j : ℕ) → Some i ≡ Some j → i ≡ j
    some_same i j e = cc e

    is_it : same_timer (Failover a) x.1 ≡ true → Failover a ≡ x.1
    is_it t = elim (same_timer-tells (Failover a) x.1) [ inl found ↦ found.1 | inr differs ↦ absurd (both (same_timer (Failover a) x.1) t differs) ]

    by : (b : Bool) → same_timer (Failover a) x.1 ≡ b
        → option_map (λ (entry : ℕ × Timer). entry.0) (cond b (Some x) (find (λ (entry : ℕ × Timer). same_timer (Failover a) entry.1) xs)) ≡ Some due
        → (due_among (Failover a) xs ≡ Some due → All (IsBy a due) xs) → All (IsBy a due) (x ∷ xs)
    by true e found rest = All-cons (IsBy a due) x xs (λ t. let g = some_same x.0 due found in omega (arith, g))
        (λ k d l t. absurd (both (same_timer (Failover a) (get_or xs k d).1) t
        (ap (λ (v : Timer). same_timer v (get_or xs k d).1) (is_it e) ∙ once 0 (suc k) d (omega arith) (omega arith))))
    by false e found rest = All-cons (IsBy a due) x xs (λ t. absurd (both (same_timer (Failover a) x.1) t e)) (rest found)

-- where each other entry is later than the limit, none is its
unset : (a : App) (xs : List (ℕ × Timer)) → All (λ (entry : ℕ × Timer). same_timer (Failover a) entry.1 ≡ false) xs → is_set (Failover a) xs ≡ false
unset a [] h = refl
unset a (x ∷ xs) h = set-cons (Failover a) x xs false (h 0 x (omega arith)) ∙ unset a xs (λ k d l. h (suc k) d (omega arith))

all_after : (limit : ℕ) (xs : List (ℕ × Timer)) → IsInOrder xs → due_by limit (slice_get xs 0) ≡ None → All (λ (entry : ℕ × Timer). limit < entry.0) xs
all_after limit [] o e k d l = absurd (omega arith)
all_after limit (x ∷ xs) o e k d l = elim (leb_tells x.0 limit) [
  | inl a ↦ absurd (let f : due_by limit (Some x) ≡ Some x = simp a.0 refl in cc (e, f))
  | inr a ↦ (let h = o 0 k d (omega arith) l in omega (arith, a.1, h))
]

none_of_it : (a : App) (due limit : ℕ) (s : StateView) → IsSound s → due ≤ limit → due_by limit (earliest s) ≡ None → All (IsBy a due) s.timers
    → is_lost (standing_of s a) ≡ false
none_of_it a due limit s sound le none by = sym (sound.timers.failover a) ∙ unset a s.timers (λ k d l.
    let after = all_after limit s.timers sound.timers.order none k d l in
    is_false (same_timer (Failover a) (get_or s.timers k d).1) (λ t. let early = by k d l t in absurd (omega (arith, early, after, le))))

-- ---- so it runs, if a node can run it
within : (xs : List Standing) (i : ℕ) → is_quiet (unwrap_or (slice_get xs i) Quiet) ≡ false → i < length xs
within [] i h = absurd (cc h)
within (x ∷ xs) zero h = omega arith
within (x ∷ xs) (suc i) h = let l = within xs i h in omega (arith, l)

runs_if_able : (t : StateView) (a : App) (n : Node) (st : Standing) → IsValid t → standing_of t a ≡ st → is_quiet st ≡ false → is_lost st ≡ false
    → IsSome (group_of t.cluster a n) → is_operational t a n ≡ true → RunsAgain t a
runs_if_able t a n (Running k) valid stands quiet lost listed able = (k, stands, valid.sound.runs.runs a k stands)
runs_if_able t a n Quiet valid stands quiet lost listed able = absurd (cc quiet)
runs_if_able t a n (Lost k) valid stands quiet lost listed able = absurd (cc lost)
runs_if_able t a n (Wanted from) valid stands quiet lost listed able =
    let l = within t.standings a.0 (ap is_quiet stands) in
    let size = valid.sound.shaped.standings in
    both (is_operational t a n) able (never_left_wanted t a from valid.still (omega (arith, l, size)) stands n listed)

pub fails_over_in_time : FailsOverInTime
unfolding next ticked
fails_over_in_time s ms pick a m due valid fine lost set le n listed able =
    let limit : ℕ = s.time + ms in
    let within = (accepted_tick s ms fine).limit in
    let kept = all_keep a due limit pick (course_of s [] []) within
    (valid.sound, refl, (ap is_quiet lost, set_by a due s.timers valid.sound.timers.once set)) in
    let t = (all_fired pick limit (course_of s [] [])).state in
    runs_if_able (with_time t limit) a n (standing_of t a) (next_valid s (Tick ms) pick valid fine) refl kept.2.0
    (none_of_it a due limit t kept.0 le (none_left pick limit (course_of s [] []) within valid.sound) kept.2.1)
    (subst (λ (c : ClusterView). IsSome (group_of c a n)) (sym kept.1) listed) able
