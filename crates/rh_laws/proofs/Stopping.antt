-- What a stop at a node leaves, beside what a stop at all nodes leaves there.
use Rattle.std.proofs.Common.{◌≡◌, ◌<◌, ℕ, zero, suc, Bool, true, false, cond, not, List, [], ◌∷◌, fold, slice_set, slice_get, unwrap_or}
use Rattle.std.proofs.Common.{Option, Some, None, refl, sym, ap, ◌∙◌, arith, ◌⊎◌, inl, inr, nat_lt}
use Rattle.std.specs.List.{list_any}
use Rattle.std.proofs.lemmas.Bool.Decides.{nat_tests}
use Rattle.rh_model.specs.ClusterView.{node_count, app_count}
use Rattle.rh_model.specs.declared.node.Node.{Node}
use Rattle.rh_model.specs.declared.node.App.{App}
use Rattle.rh_state.specs.declared.status.Standing.{Standing}
use Rattle.rh_state.specs.declared.status.Standing.TheVariants.{Quiet, Wanted, Running, Lost}
use Rattle.rh_state.specs.declared.status.Timer.{Timer}
use Rattle.rh_state.specs.declared.status.Timer.TheVariants.{Failover}
use Rattle.rh_state.specs.Lists.{has_app, without_app}
use Rattle.rh_state.specs.Numbers.{nodes_of}
use Rattle.rh_state.specs.Tables.{row}
use Rattle.rh_state.specs.Shape.{IsNodeOf, IsAppOf}
use Rattle.rh_state.specs.Standings.{is_lost}
use Rattle.rh_state.specs.Timers.{same_timer, without_timer}
use Rattle.rh_state.specs.StateView.{StateView, mode_of, is_up, runs_at, waits_at, is_started, standing_of}
use Rattle.rh_state.specs.Setters.{with_standing, without_due, unlisted}
use Rattle.rh_rules.specs.declared.notice.Notice.{Notice}
use Rattle.rh_rules.specs.declared.notice.Notice.TheVariants as notice
use Rattle.rh_rules.specs.Course.{Course, course_of, told, now_in, is_local}
use Rattle.rh_trace.specs.Validity.{IsSound}
use Rattle.rh_rules.specs.declared.event.Event.TheVariants.{Stop}
use Rattle.rh_rules.specs.declared.refusal.Refusal.TheVariants.{UnknownNode, UnknownApp, NodeNotUp, NeverStarted}
use Rattle.rh_rules.specs.ByHand.{stopped, is_started_anywhere, quiet_if_nowhere, left_waiting}
use Rattle.rh_rules.specs.Everywhere.{leave_at, quietened}
use Rattle.rh_rules.specs.Steps.{change}
use Rattle.rh_rules.specs.Refusals.{refused}
use Rattle.rh_base.proofs.Truths.{both, or_left}
use Rattle.rh_trace.proofs.Entries.{either, taken_has, has, taken}
use Rattle.rh_trace.proofs.Every.{filter_yes}
use Rattle.rh_trace.proofs.Places.{at_set, at_set_here}
use Rattle.rh_events.proofs.Emptying.{set_same}
use Rattle.rh_trace.proofs.TimersToldApart.{is_set, unset-cons, unset-without}
use Rattle.rh_laws.proofs.LessStarted.{IsLess}

-- ---- written twice, taken out twice
set_twice : {A : Type 0} (xs : List A) (i : ℕ) (v : A) → slice_set (slice_set xs i v) i v ≡ slice_set xs i v
set_twice [] i v = refl
set_twice (x ∷ xs) zero v = refl
set_twice (x ∷ xs) (suc i) v = ap (λ ys. x ∷ ys) (set_twice xs i v)

-- a timer that isn't set isn't taken out
without_unset : (t : Timer) (xs : List (ℕ × Timer)) → is_set t xs ≡ false → without_timer t xs ≡ xs
without_unset t [] h = refl
without_unset t (x ∷ xs) h =
    let apart = unset-cons t x xs h in
    filter_yes (λ (entry : ℕ × Timer). not (same_timer t entry.1)) x xs (ap not apart.0) ∙ ap (λ ys. x ∷ ys) (without_unset t xs apart.1)

-- ---- quiet, wherever it stood
-- a course whose application is quiet, without a timer
abbrev pub quiet_in : App → Course → Course
quiet_in a o = now_in o (quietened o.state a)

-- one that is quiet has no timer
pub quiet_already : (s : StateView) (a : App) → IsSound s → standing_of s a ≡ Quiet → quietened s a ≡ s
quiet_already s a sound quiet = λ i. record s {
  standings = (ap (slice_set s.standings a.0) (sym quiet) ∙ set_same s.standings a.0 Quiet) i;
  timers = without_unset (Failover a) s.timers (sound.timers.failover a ∙ ap is_lost quiet) i;
}

leave_quiet : (a : App) (o : Course) (n : Node) → leave_at a (quiet_in a o) n ≡ quiet_in a (leave_at a o n)
leave_quiet a o n = by (runs_at o.state n a)
  where
    by : (b : Bool) → cond b (told (now_in o (unlisted (quietened o.state a) n a)) (notice.Stopped a n)) (now_in o (unlisted (quietened o.state a) n a))
        ≡ quiet_in a (cond b (told (now_in o (unlisted o.state n a)) (notice.Stopped a n)) (now_in o (unlisted o.state n a)))
    by true = refl
    by false = refl

pub all_leave_quiet : (a : App) (ns : List Node) (o : Course) → fold (leave_at a) (quiet_in a o) ns ≡ quiet_in a (fold (leave_at a) o ns)
all_leave_quiet a [] o = refl
all_leave_quiet a (n ∷ ns) o = ap (λ p. fold (leave_at a) p ns) (leave_quiet a o n) ∙ all_leave_quiet a ns (leave_at a o n)

-- a stop at a node leaves the lists as a stop at all nodes does there
pub stop_leaves : (a : App) (o : Course) (n : Node) → quiet_in a (change o (Stop n a)) ≡ quiet_in a (leave_at a o n)
unfolding stopped left_waiting
stop_leaves a o n = by (runs_at o.state n a)
  where
    u : StateView
    u = unlisted o.state n a

    twice : (timers : List (ℕ × Timer)) → without_timer (Failover a) timers ≡ without_timer (Failover a) o.state.timers
        → quietened (record u { standings = slice_set u.standings a.0 Quiet; timers = timers }) a ≡ quietened u a
    twice timers same = λ i. record u { standings = set_twice u.standings a.0 Quiet i; timers = same i }

    restood : (p : Bool) → quietened (cond p u (with_standing u a Quiet)) a ≡ quietened u a
    restood true = refl
    restood false = twice u.timers refl

    found : (p : Bool) → quietened (cond p u (without_due (with_standing u a Quiet) (Failover a))) a ≡ quietened u a
    found true = refl
    found false = twice (without_timer (Failover a) o.state.timers)
        (without_unset (Failover a) (without_timer (Failover a) o.state.timers) (unset-without (Failover a) o.state.timers))

    waited : (st : Standing) → quietened (quiet_if_nowhere u a st) a ≡ quietened u a
    waited Quiet = refl
    waited (Running k) = refl
    waited (Wanted from) = restood (is_started_anywhere u a)
    waited (Lost k) = found (is_started_anywhere u a)

    by : (b : Bool) → quiet_in a (cond b (stopped o n a) (left_waiting o n a)) ≡ quiet_in a (cond b (told (now_in o u) (notice.Stopped a n)) (now_in o u))
    by true = ap (now_in (told o (notice.Stopped a n))) (restood (is_local o.state.cluster a))
    by false = ap (now_in o) (waited (standing_of o.state a))

-- ---- what a stop keeps
-- no pair is marked or freed by it
pub stop_plain : (s : StateView) (before : List Notice) (n : Node) (a : App)
    → change (course_of s before []) (Stop n a) ≡ course_of (change (course_of s before []) (Stop n a)).state (change (course_of s before []) (Stop n a)).notices []
unfolding stopped left_waiting
stop_plain s before n a = by (runs_at s n a)
  where
    o : Course
    o = course_of s before []

    by : (b : Bool) → cond b (stopped o n a) (left_waiting o n a)
        ≡ course_of (cond b (stopped o n a) (left_waiting o n a)).state (cond b (stopped o n a) (left_waiting o n a)).notices []
    by true = refl
    by false = refl

-- and what was told before changes nothing of the state
pub stop_less : (s : StateView) (before : List Notice) (n : Node) (a : App) → IsLess s (change (course_of s before []) (Stop n a)).state
unfolding stopped left_waiting
stop_less s before n a = by (runs_at s n a)
  where
    u : StateView
    u = unlisted s n a

    o : Course
    o = course_of s before []

    not_wanted : {P : Type 0} (from : Option Node) → Quiet ≡ Wanted from → P
    not_wanted from e = cc e

    lists : (standings : List Standing) (timers : List (ℕ × Timer))
        → ((b : App) (from : Option Node) → unwrap_or (slice_get standings b.0) Quiet ≡ Wanted from → standing_of s b ≡ Wanted from)
        → IsLess s (record u { standings = standings; timers = timers })
    lists standings timers wanted = record {
      cluster = refl;
      modes = refl;
      allowed = refl;
      runs = λ m b h. taken_has s.running n.0 m.0 a b h;
      waits = λ m b h. taken_has s.waiting n.0 m.0 a b h;
      wanted = wanted;
    }

    as_before : IsLess s u
    as_before = lists s.standings s.timers (λ b from e. e)

    quieted : (timers : List (ℕ × Timer)) → IsLess s (record u { standings = slice_set s.standings a.0 Quiet; timers = timers })
    quieted timers = lists (slice_set s.standings a.0 Quiet) timers (λ b from e. at_set s.standings a.0 b.0 Quiet Quiet
        (λ same. sym same ∙ e)
        (λ here v. not_wanted from (sym v ∙ e)))

    restood : (p : Bool) → IsLess s (cond p u (with_standing u a Quiet))
    restood true = as_before
    restood false = quieted s.timers

    found : (p : Bool) → IsLess s (cond p u (without_due (with_standing u a Quiet) (Failover a)))
    found true = as_before
    found false = quieted (without_timer (Failover a) s.timers)

    waited : (st : Standing) → IsLess s (quiet_if_nowhere u a st)
    waited Quiet = as_before
    waited (Running k) = as_before
    waited (Wanted from) = restood (is_started_anywhere u a)
    waited (Lost k) = found (is_started_anywhere u a)

    by : (b : Bool) → IsLess s (cond b (stopped o n a) (left_waiting o n a)).state
    by true = restood (is_local s.cluster a)
    by false = waited (standing_of s a)

-- ---- where it is still started, and whether it is quiet
-- its lists are those that it left
pub stop_lists : (s : StateView) (before : List Notice) (n : Node) (a : App) (m : Node)
    → is_started (change (course_of s before []) (Stop n a)).state m a ≡ is_started (unlisted s n a) m a
unfolding stopped left_waiting
stop_lists s before n a m = by (runs_at s n a)
  where
    u : StateView
    u = unlisted s n a

    o : Course
    o = course_of s before []

    restood : (p : Bool) → is_started (cond p u (with_standing u a Quiet)) m a ≡ is_started u m a
    restood true = refl
    restood false = refl

    found : (p : Bool) → is_started (cond p u (without_due (with_standing u a Quiet) (Failover a))) m a ≡ is_started u m a
    found true = refl
    found false = refl

    waited : (st : Standing) → is_started (quiet_if_nowhere u a st) m a ≡ is_started u m a
    waited Quiet = refl
    waited (Running k) = refl
    waited (Wanted from) = restood (is_started_anywhere u a)
    waited (Lost k) = found (is_started_anywhere u a)

    by : (b : Bool) → is_started (cond b (stopped o n a) (left_waiting o n a)).state m a ≡ is_started u m a
    by true = restood (is_local s.cluster a)
    by false = waited (standing_of s a)

-- it is started somewhere, or quiet
abbrev pub Remains : App → StateView → Type 0
Remains a s = ((m : Node) × (is_started s m a ≡ true)) ⊎ (standing_of s a ≡ Quiet)

some_of : {A : Type 0} (p : A → Bool) (xs : List A) → list_any p xs ≡ true → (x : A) × (p x ≡ true)
some_of p [] h = absurd (cc h)
some_of p (x ∷ xs) h = either (p x) (list_any p xs) h (λ t. (x, t)) (λ t. some_of p xs t)

pub started_somewhere : (s : StateView) (a : App) → is_started_anywhere s a ≡ true → (m : Node) × (is_started s m a ≡ true)
unfolding is_started_anywhere
started_somewhere s a h = some_of (λ (n : Node). is_started s n a) (nodes_of s.cluster) h

-- where it runs elsewhere it still does
runs_elsewhere : (s : StateView) (n k : Node) (a : App) → runs_at s n a ≡ false → runs_at s k a ≡ true → is_started (unlisted s n a) k a ≡ true
runs_elsewhere s n k a off on = or_left (has (taken s.running n.0 a) k.0 a) (waits_at (unlisted s n a) k a)
    (at_set s.running n.0 k.0 (without_app (row s.running n.0) a) []
    (λ same. ap (λ apps. has_app apps a) same ∙ on)
    (λ here v. both (runs_at s n a) (ap (λ i. has s.running i a) (sym here) ∙ on) off))

pub stop_remains : (s : StateView) (before : List Notice) (n : Node) (a : App) → IsSound s → is_local s.cluster a ≡ false → IsAppOf s.cluster a
    → Remains a (change (course_of s before []) (Stop n a)).state
unfolding stopped left_waiting
stop_remains s before n a sound far app = by (runs_at s n a) refl
  where
    u : StateView
    u = unlisted s n a

    o : Course
    o = course_of s before []

    quiet : standing_of (with_standing u a Quiet) a ≡ Quiet
    quiet = at_set_here s.standings a.0 Quiet Quiet (let e = sound.shaped.standings in omega (arith, e, app))

    restood : (p : Bool) → is_started_anywhere u a ≡ p → Remains a (cond p u (with_standing u a Quiet))
    restood true t = inl (started_somewhere u a t)
    restood false f = inr quiet

    found : (p : Bool) → is_started_anywhere u a ≡ p → Remains a (cond p u (without_due (with_standing u a Quiet) (Failover a)))
    found true t = inl (started_somewhere u a t)
    found false f = inr quiet

    waited : runs_at s n a ≡ false → (st : Standing) → standing_of s a ≡ st → Remains a (quiet_if_nowhere u a st)
    waited off Quiet e = inr e
    waited off (Running k) e = inl (k, runs_elsewhere s n k a off (sound.runs.runs a k e))
    waited off (Wanted from) e = restood (is_started_anywhere u a) refl
    waited off (Lost k) e = found (is_started_anywhere u a) refl

    ran : (p : Bool) → is_local s.cluster a ≡ p → Remains a (cond p u (with_standing u a Quiet))
    ran true t = both (is_local s.cluster a) t far
    ran false f = inr quiet

    by : (b : Bool) → runs_at s n a ≡ b → Remains a (cond b (stopped o n a) (left_waiting o n a)).state
    by true t = ran (is_local s.cluster a) refl
    by false f = waited f (standing_of s a) refl

-- ---- a stop where it is started isn't refused
pub stop_accepted : (s : StateView) (n : Node) (a : App) → IsNodeOf s.cluster n → IsAppOf s.cluster a → is_up (mode_of s n) ≡ true → is_started s n a ≡ true
    → refused s (Stop n a) ≡ None
unfolding refused
stop_accepted s n a node app up on =
    let known : nat_lt n.0 (node_count s.cluster) ≡ true = is_less n.0 (node_count s.cluster) node in
    let known_app : nat_lt a.0 (app_count s.cluster) ≡ true = is_less a.0 (app_count s.cluster) app in
    λ i. cond (not (known i)) (Some UnknownNode)
    (cond (not (known_app i)) (Some UnknownApp)
    (cond (not (up i)) (Some NodeNotUp)
    (cond (not (on i)) (Some NeverStarted) None)))
  where
    is_less : (i j : ℕ) → i < j → nat_lt i j ≡ true
    is_less i j h = grind (arith, nat_tests, h)
