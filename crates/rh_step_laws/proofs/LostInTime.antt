-- An application that was lost stays lost through a tick that ends before its timer is due, unless its node comes up.
use Rattle.std.proofs.Common.{◌≡◌, ◌≢◌, ◌⊎◌, ◌+◌, ◌==◌, ◌<◌, ◌≤◌, ℕ, Bool, true, false, cond, List, [], ◌∷◌, fold, find, All, None, Some, refl, sym, ap}
use Rattle.std.proofs.Common.{subst, ◌∙◌, arith, inl, inr, slice_get, unwrap_or, get_or, suc, nat_le}
use Rattle.std.specs.List.{Contains}
use Rattle.std.specs.Option.{option_map}
use Rattle.std.proofs.lemmas.List.Elements.{All-cons}
use Rattle.rh_model.specs.ClusterView.{mandatory_of, boot_of}
use Rattle.rh_model.specs.declared.node.Node.{Node}
use Rattle.rh_model.specs.declared.node.App.{App}
use Rattle.rh_model.specs.declared.settings.Restart.{Restart}
use Rattle.rh_state.specs.declared.status.Mode.TheVariants as mode
use Rattle.rh_state.specs.declared.status.Standing.{Standing}
use Rattle.rh_state.specs.declared.status.Standing.TheVariants.{Quiet, Wanted, Running, Lost}
use Rattle.rh_state.specs.declared.status.Timer.{Timer}
use Rattle.rh_state.specs.declared.status.Timer.TheVariants.{Sync, Failover}
use Rattle.rh_state.specs.Numbers.{same_node, nodes_of, apps_of}
use Rattle.rh_state.specs.Timers.{same_timer, due_among}
use Rattle.rh_state.specs.StateView.{StateView, standing_of, earliest}
use Rattle.rh_state.specs.Setters.{with_mode, with_standing, with_timer, without_due}
use Rattle.rh_rules.specs.declared.pick.Pick.{Pick}
use Rattle.rh_rules.specs.declared.notice.Notice.TheVariants as notice
use Rattle.rh_rules.specs.Course.{Course, course_of, told, now_in, is_local}
use Rattle.rh_rules.specs.NodesStart.{all_alive, is_ready, come_up, come_up_if_ready, ready_come_up}
use Rattle.rh_rules.specs.Settling.{settled}
use Rattle.rh_rules.specs.Marking.{wanted_by_mark, with_mark, mark, mark_booted, mark_all}
use Rattle.rh_rules.specs.NodesEnd.{timeout_of, cleared, lost_at, lost_from, lost_if_ran, all_lost, ended, wanted_if_lost}
use Rattle.rh_rules.specs.Time.{due_by, effect, taken_off, fired, all_fired, ticked}
use Rattle.rh_rules.specs.Steps.{next}
use Rattle.rh_step_laws.specs.Laws.{LostUntilDue}
use Rattle.rh_base.proofs.Lists.{cases}
use Rattle.rh_trace.proofs.Behind.{settled_after}
use Rattle.rh_base.proofs.Truths.{same_number, both}
use Rattle.rh_trace.proofs.Entries.{other_number, is_false}
use Rattle.rh_trace.proofs.Places.{at_set_there}
use Rattle.rh_settle.proofs.Resting.{rests, settled_rests}
use Rattle.rh_settle.proofs.Unchanged.{settled_timers}
use Rattle.rh_events.proofs.Notices.{come_up_after, ended_after}
use Rattle.rh_events.proofs.StaysUp.{told_still}
use Rattle.rh_trace.proofs.TimersToldApart.{IsOnce, same_timer-sym, same_timer-tells, All-without}
use Rattle.rh_step.proofs.Fuel.{timer_count, due_stands_first, due_within, by_firing}
use Rattle.rh_step_laws.proofs.LostStays.{waits_there, up_told, elsewhere_lost, one_lost}

-- an entry is of another timer, or isn't due before that time
abbrev IsNotBefore : App → ℕ → ℕ × Timer → Type 0
IsNotBefore a due entry = same_timer entry.1 (Failover a) ≡ true → due ≤ entry.0

abbrev NotBefore : App → ℕ → List (ℕ × Timer) → Type 0
NotBefore a due entries = All (IsNotBefore a due) entries

-- it is lost still, and its timer isn't due before that time; or its node came up
abbrev Waits : App → Node → ℕ → StateView → Type 0
Waits a m due s = (standing_of s a ≡ Lost m) × NotBefore a due s.timers

abbrev StaysLost : App → Node → ℕ → Course → Type 0
StaysLost a m due o = Waits a m due o.state ⊎ Contains o.notices (notice.Up m)

-- ---- a timer that is set once is due when it is due
unique : (a : App) (due : ℕ) (xs : List (ℕ × Timer)) → IsOnce xs → due_among (Failover a) xs ≡ Some due → NotBefore a due xs
unique a due [] once set = λ k d l. absurd (omega arith)
unique a due (x ∷ xs) once set = by (same_timer (Failover a) x.1) refl set
    (λ later. unique a due xs (λ i j d l k. once (suc i) (suc j) d (omega arith) (omega arith)) later)
  where
    some_same : (i j : ℕ) → Some i ≡ Some j → i ≡ j
    some_same i j e = cc e

    is_it : same_timer (Failover a) x.1 ≡ true → Failover a ≡ x.1
    is_it t = elim (same_timer-tells (Failover a) x.1) [ inl found ↦ found.1 | inr differs ↦ absurd (both (same_timer (Failover a) x.1) t differs) ]

    by : (b : Bool) → same_timer (Failover a) x.1 ≡ b
        → option_map (λ (entry : ℕ × Timer). entry.0) (cond b (Some x) (find (λ (entry : ℕ × Timer). same_timer (Failover a) entry.1) xs)) ≡ Some due
        → (due_among (Failover a) xs ≡ Some due → NotBefore a due xs) → NotBefore a due (x ∷ xs)
    by true e found rest = All-cons (IsNotBefore a due) x xs (λ t. let g = some_same x.0 due found in omega (arith, g))
        (λ k d l t. absurd (both (same_timer (Failover a) (get_or xs k d).1) (same_timer-sym (Failover a) (get_or xs k d).1 ∙ t)
        (ap (λ (v : Timer). same_timer v (get_or xs k d).1) (is_it e) ∙ once 0 (suc k) d (omega arith) (omega arith))))
    by false e found rest = All-cons (IsNotBefore a due) x xs
        (λ t. absurd (both (same_timer (Failover a) x.1) (same_timer-sym (Failover a) x.1 ∙ t) e))
        (rest found)

-- ---- nodes come up
wanted_timers : (a : App) (due : ℕ) (s : StateView) (n : Node) (b : App) (st : Standing) → NotBefore a due s.timers
    → NotBefore a due (wanted_by_mark s n b st).timers
wanted_timers a due s n b Quiet h = by (is_local s.cluster b)
  where
    by : (p : Bool) → NotBefore a due (cond p s (with_standing s b (Wanted None))).timers
    by true = h
    by false = h
wanted_timers a due s n b (Lost k) h = by (same_node k n)
  where
    by : (p : Bool) → NotBefore a due (cond p (without_due (with_standing s b (Wanted (Some n))) (Failover b)) s).timers
    by true = All-without (IsNotBefore a due) (Failover b) s.timers h
    by false = h
wanted_timers a due s n b (Wanted from) h = h
wanted_timers a due s n b (Running k) h = h

mark_timers : (a : App) (due : ℕ) (o : Course) (n : Node) (b : App) (r : Restart) → NotBefore a due o.state.timers
    → NotBefore a due (mark o n b r).state.timers
unfolding with_mark
mark_timers a due o n b r h = wanted_timers a due (waits_there o.state n b r) n b (standing_of o.state b) h

marks_timers : (a : App) (due : ℕ) (n : Node) (boot : List (App × Restart)) (o : Course) → NotBefore a due o.state.timers
    → NotBefore a due (fold (mark_booted n) o boot).state.timers
marks_timers a due n [] o h = h
marks_timers a due n (b ∷ boot) o h = marks_timers a due n boot (mark o n b.0 b.1) (mark_timers a due o n b.0 b.1 h)

come_up_timers : (a : App) (due : ℕ) (o : Course) (n : Node) → NotBefore a due o.state.timers → NotBefore a due (come_up o n).state.timers
unfolding come_up mark_all
come_up_timers a due o n h = marks_timers a due n (boot_of o.state.cluster n)
    (told (now_in o (with_mode (without_due o.state (Sync n)) n mode.Up)) (notice.Up n))
    (All-without (IsNotBefore a due) (Sync n) o.state.timers h)

come_up_stays : (a : App) (m : Node) (due : ℕ) (n : Node) (o : Course) → StaysLost a m due o → StaysLost a m due (come_up o n)
come_up_stays a m due n o (inl w) = cases (same_node m n)
    (λ t. inr (up_told o n m t))
    (λ f. inl (elsewhere_lost o n a m w.0 f, come_up_timers a due o n w.1))
come_up_stays a m due n o (inr has) = inr (told_still (λ p. come_up p n) (λ base p. come_up_after base p n) o (notice.Up m) has)

ready_stays : (a : App) (m : Node) (due : ℕ) (ns : List Node) (o : Course) → StaysLost a m due o → StaysLost a m due (fold come_up_if_ready o ns)
unfolding come_up_if_ready
ready_stays a m due [] o stays = stays
ready_stays a m due (n ∷ ns) o stays = ready_stays a m due ns (come_up_if_ready o n) (by (is_ready o.state n))
  where
    by : (b : Bool) → StaysLost a m due (cond b (come_up o n) o)
    by true = come_up_stays a m due n o stays
    by false = stays

-- what holds of each entry holds with one more
set_more : (P : ℕ × Timer → Type 0) (s : StateView) (d : ℕ) (t : Timer) (xs : List (ℕ × Timer)) → P (d, t) → All P xs
    → All P (with_timer (record s { timers = xs }) d t).timers
set_more P s d t [] here all = All-cons P (d, t) [] here all
set_more P s d t (x ∷ xs) here all = by (nat_le x.0 d) (set_more P s d t xs here (λ k e l. all (suc k) e (omega arith)))
  where
    by : (b : Bool) → All P (with_timer (record s { timers = xs }) d t).timers
        → All P (cond b (x ∷ (with_timer (record s { timers = xs }) d t).timers) ((d, t) ∷ x ∷ xs))
    by true later = All-cons P x (with_timer (record s { timers = xs }) d t).timers (all 0 x (omega arith)) later
    by false later = All-cons P (d, t) (x ∷ xs) here all

-- ---- a node ends
one_timer : (n : Node) (s : StateView) (b a : App) (m : Node) (due : ℕ) → Waits a m due s → NotBefore a due (lost_if_ran n s b).timers
unfolding lost_if_ran
one_timer n s b a m due w = by (standing_of s b) refl
  where
    other : (k : Node) → standing_of s b ≡ Running k → a.0 ≢ b.0
    other k stands e = clash (sym w.0 ∙ ap (λ i. unwrap_or (slice_get s.standings i) Quiet) e ∙ stands)
      where
        clash : Lost m ≡ Running k → ⊥
        clash c = cc c

    of_another : a.0 ≢ b.0 → (d : ℕ) → IsNotBefore a due (d, Failover b)
    of_another apart d t = absurd (apart (sym (same_number b.0 a.0 t)))

    at : a.0 ≢ b.0 → (p : Bool) → NotBefore a due (cond p (with_standing s b (Wanted (Some n)))
        (with_timer (with_standing s b (Lost n)) (s.time + timeout_of s.cluster b) (Failover b))).timers
    at apart true = w.1
    at apart false = set_more (IsNotBefore a due) (with_standing s b (Lost n)) (s.time + timeout_of s.cluster b) (Failover b) s.timers
        (of_another apart (s.time + timeout_of s.cluster b)) w.1

    there : a.0 ≢ b.0 → (p : Bool) → NotBefore a due (cond p (lost_at s n b) s).timers
    there apart true = at apart (timeout_of s.cluster b == 0)
    there apart false = w.1

    by : (st : Standing) → standing_of s b ≡ st → NotBefore a due (lost_from s n b st).timers
    by (Running k) stands = there (other k stands) (same_node k n)
    by _ stands = w.1

each_waits : (n : Node) (apps : List App) (s : StateView) (a : App) (m : Node) (due : ℕ) → Waits a m due s → Waits a m due (fold (lost_if_ran n) s apps)
each_waits n [] s a m due w = w
each_waits n (b ∷ apps) s a m due w = each_waits n apps (lost_if_ran n s b) a m due (one_lost n s b a m w.0 ∙ w.0, one_timer n s b a m due w)

ended_waits : (o : Course) (n : Node) (a : App) (m : Node) (due : ℕ) → Waits a m due o.state → Waits a m due (ended o n).state
unfolding ended all_lost cleared
ended_waits o n a m due w =
    each_waits n (apps_of o.state.cluster) (cleared o.state n) a m due (w.0, All-without (IsNotBefore a due) (Sync n) o.state.timers w.1)

ended_stays : (a : App) (m : Node) (due : ℕ) (n : Node) (o : Course) → StaysLost a m due o → StaysLost a m due (ended o n)
ended_stays a m due n o (inl w) = inl (ended_waits o n a m due w)
ended_stays a m due n o (inr has) = inr (told_still (λ p. ended p n) (λ base p. ended_after base p n) o (notice.Up m) has)

-- ---- and the applications settle
settled_stays : (a : App) (m : Node) (due : ℕ) (pick : Pick) (o : Course) → StaysLost a m due o → StaysLost a m due (settled pick o)
settled_stays a m due pick o (inl w) = inl (settled_rests pick o a (ap rests w.0) ∙ w.0, subst (NotBefore a due) (sym (settled_timers pick o)) w.1)
settled_stays a m due pick o (inr has) = inr (told_still (settled pick) (λ base p. settled_after base pick p) o (notice.Up m) has)

rest_stays : (a : App) (m : Node) (due : ℕ) (pick : Pick) (o : Course) → StaysLost a m due o → StaysLost a m due (settled pick (ready_come_up o))
unfolding ready_come_up
rest_stays a m due pick o stays = settled_stays a m due pick (ready_come_up o) (ready_stays a m due (nodes_of o.state.cluster) o stays)

-- ---- a timer that fires before that time is another one
effect_waits : (a : App) (m : Node) (due : ℕ) (o : Course) (t : Timer) → same_timer t (Failover a) ≡ false → Waits a m due o.state → StaysLost a m due (effect o t)
effect_waits a m due o (Sync n) another w = by (all_alive o.state (mandatory_of o.state.cluster n))
  where
    by : (b : Bool) → StaysLost a m due (cond b (come_up o n) (ended o n))
    by true = come_up_stays a m due n o (inl w)
    by false = ended_stays a m due n o (inl w)
effect_waits a m due o (Failover b) another w = by (standing_of o.state b)
  where
    other : a.0 ≢ b.0
    other = λ e. other_number b.0 a.0 another (sym e)

    by : (st : Standing) → StaysLost a m due (record o { state = wanted_if_lost o.state b st })
    by (Lost k) = inl (at_set_there o.state.standings b.0 a.0 (Wanted (Some k)) Quiet other ∙ w.0, w.1)
    by _ = inl w

effect_told : (a : App) (m : Node) (due : ℕ) (o : Course) (t : Timer) → Contains o.notices (notice.Up m) → StaysLost a m due (effect o t)
effect_told a m due o (Sync n) has = by (all_alive o.state (mandatory_of o.state.cluster n))
  where
    by : (b : Bool) → StaysLost a m due (cond b (come_up o n) (ended o n))
    by true = come_up_stays a m due n o (inr has)
    by false = ended_stays a m due n o (inr has)
effect_told a m due o (Failover b) has = inr has

another_one : (a : App) (m : Node) (due limit : ℕ) (s : StateView) (entry : ℕ × Timer) → limit < due → Waits a m due s
    → due_by limit (earliest s) ≡ Some entry → same_timer entry.1 (Failover a) ≡ false
another_one a m due limit s entry early w is = is_false (same_timer entry.1 (Failover a)) (λ t.
    let first = due_stands_first limit s.timers entry is in
    let later : due ≤ entry.0 = subst (NotBefore a due) first.1 w.1 0 entry (omega arith) t in
    let now = due_within limit (earliest s) entry is in
    omega (arith, later, now, early))

fired_stays : (a : App) (m : Node) (due limit : ℕ) (pick : Pick) (o : Course) (entry : ℕ × Timer) → limit < due → StaysLost a m due o
    → due_by limit (earliest o.state) ≡ Some entry → StaysLost a m due (fired pick o entry)
unfolding fired
fired_stays a m due limit pick o entry early (inl w) is = rest_stays a m due pick (effect (taken_off o entry) entry.1)
    (effect_waits a m due (taken_off o entry) entry.1 (another_one a m due limit o.state entry early w is)
    (w.0, All-without (IsNotBefore a due) entry.1 o.state.timers w.1))
fired_stays a m due limit pick o entry early (inr has) is = rest_stays a m due pick (effect (taken_off o entry) entry.1)
    (effect_told a m due (taken_off o entry) entry.1 has)

all_stay : (a : App) (m : Node) (due limit : ℕ) (pick : Pick) (o : Course) → limit < due → StaysLost a m due o → StaysLost a m due (all_fired pick limit o)
unfolding all_fired
all_stay a m due limit pick o early stays = by_firing (StaysLost a m due) pick limit
    (λ p entry h is. fired_stays a m due limit pick p entry early h is) (timer_count o) o stays

pub lost_until_due : LostUntilDue
unfolding next ticked
lost_until_due s ms pick a m due valid lost set early =
    elim (all_stay a m due (s.time + ms) pick (course_of s [] []) early (inl (lost, unique a due s.timers valid.sound.timers.once set))) [
      | inl w ↦ inl w.0
      | inr has ↦ inr has
    ]
