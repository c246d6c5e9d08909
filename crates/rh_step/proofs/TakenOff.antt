-- What it means that the timer that fires first is taken off, and as late as it was due.
use Rattle.std.proofs.Common.{◌≡◌, ◌<◌, ◌≤◌, ℕ, zero, suc, Bool, true, false, cond, not, List, [], ◌∷◌, length, slice_get, slice_set, unwrap_or, Some, All}
use Rattle.std.proofs.Common.{refl, sym, ap, ◌∙◌, subst, inl, inr, arith}
use Rattle.std.proofs.lemmas.Bool.{and_parts}
use Rattle.std.proofs.lemmas.Bool.Decides.{eqb_tells}
use Rattle.rh_model.specs.ClusterView.{mandatory_of, boot_of, app_numbered}
use Rattle.rh_model.specs.declared.node.Node.{Node}
use Rattle.rh_model.specs.declared.node.App.{App}
use Rattle.rh_state.specs.declared.status.Mode.{Mode}
use Rattle.rh_state.specs.declared.status.Mode.TheVariants.{Down, Up}
use Rattle.rh_state.specs.declared.status.Standing.{Standing}
use Rattle.rh_state.specs.declared.status.Standing.TheVariants.{Quiet, Wanted, Running, Lost}
use Rattle.rh_state.specs.declared.status.Timer.{Timer}
use Rattle.rh_state.specs.declared.status.Timer.TheVariants.{Sync, Failover}
use Rattle.rh_state.specs.Limits.{time_limit}
use Rattle.rh_state.specs.Shape.{IsNodeOf, IsStandingOf}
use Rattle.rh_state.specs.Timers.{same_timer, without_timer}
use Rattle.rh_state.specs.StateView.{StateView, mode_of, standing_of, earliest, is_waiting}
use Rattle.rh_state.specs.Setters.{with_time, with_mode, with_standing, without_due}
use Rattle.rh_rules.specs.declared.notice.Notice.TheVariants as notice
use Rattle.rh_rules.specs.Course.{Course, course_of, told, now_in}
use Rattle.rh_trace.specs.Validity.{IsSound, TimersFit}
use Rattle.rh_state.specs.Standings.{is_lost}
use Rattle.rh_trace.proofs.Every.{filter_yes}
use Rattle.rh_trace.proofs.Shapes.{shaped_timers, shaped_time, shaped_standing, stands_known}
use Rattle.rh_trace.proofs.Places.{at_set_here, at_set_there, at_set}
use Rattle.rh_rules.specs.NodesStart.{all_alive, come_up}
use Rattle.rh_rules.specs.Marking.{mark_all}
use Rattle.rh_rules.specs.NodesEnd.{cleared, emptied, with_configured, all_lost, ended, wanted_if_lost}
use Rattle.rh_rules.specs.Time.{effect, taken_off}
use Rattle.rh_events.proofs.SoundComingUp.{sound_come_up}
use Rattle.rh_events.proofs.SoundEnding.{sound_ended}
use Rattle.rh_trace.proofs.TimersToldApart.{is_set, same_self, set-cons, unset-without, set-without_other, once-without, order-without, All-without}
use Rattle.rh_trace.proofs.TimersToldApart.{least-first}

-- time passes up to where no timer is due before it
pub sound_at : (s : StateView) (due : ℕ) → due ≤ time_limit → IsSound s → All (λ entry. due ≤ entry.0) s.timers → IsSound (with_time s due)
sound_at s due within h late = record {
  within = h.within;
  shaped = shaped_time s due within h.shaped;
  once = record { running = h.once.running; waiting = h.once.waiting; apart = h.once.apart };
  idle = record { running = h.idle.running; waiting = h.idle.waiting; permissions = h.idle.permissions };
  standing = record { listed = h.standing.listed; stands = h.standing.stands; local = h.standing.local };
  runs = record { runs = h.runs.runs };
  timers = record { sync = h.timers.sync; failover = h.timers.failover; once = h.timers.once; order = h.timers.order; due = late };
}

-- so up to where the first is due
abbrev pub later : Course → ℕ → Course
later o due = course_of (with_time o.state due) o.notices []

pub sound_later : (o : Course) (entry : ℕ × Timer) → entry.0 ≤ time_limit → IsSound o.state → earliest o.state ≡ Some entry → IsSound (later o entry.0).state
sound_later o entry within h e = sound_at o.state entry.0 within h (least-first entry o.state.timers e h.timers.order)

-- a timer that is taken off isn't there to be taken off again
pub off_once : (t : Timer) (xs : List (ℕ × Timer)) → without_timer t (without_timer t xs) ≡ without_timer t xs
off_once t [] = refl
off_once t (x ∷ xs) = by (same_timer t x.1) refl (off_once t xs)
  where
    by : (b : Bool) → same_timer t x.1 ≡ b → without_timer t (without_timer t xs) ≡ without_timer t xs
        → without_timer t (cond (not b) (x ∷ without_timer t xs) (without_timer t xs)) ≡ cond (not b) (x ∷ without_timer t xs) (without_timer t xs)
    by true e rest = rest
    by false e rest = filter_yes (λ (entry : ℕ × Timer). not (same_timer t entry.1)) x (without_timer t xs) (ap not e) ∙ ap (λ ys. x ∷ ys) rest

-- a node that comes up or ends takes its timer off itself
comes_up_alike : (o : Course) (due : ℕ) (n : Node) → come_up (taken_off o (due, Sync n)) n ≡ come_up (later o due) n
unfolding come_up
comes_up_alike o due n =
    ap (λ (timers : List (ℕ × Timer)). mark_all (told (now_in (later o due) (record o.state {
      time = due;
      modes = slice_set o.state.modes n.0 Up;
      timers = timers;
    })) (notice.Up n)) n (boot_of o.state.cluster n))
    (off_once (Sync n) o.state.timers)

ends_alike : (o : Course) (due : ℕ) (n : Node) → ended (taken_off o (due, Sync n)) n ≡ ended (later o due) n
unfolding ended cleared
ends_alike o due n =
    ap (λ (timers : List (ℕ × Timer)). told (now_in (later o due) (all_lost (with_mode
    (with_configured (emptied (record o.state { time = due; timers = timers }) n) n) n Down) n)) (notice.Ended n))
    (off_once (Sync n) o.state.timers)

pub sync_effect : (o : Course) (due : ℕ) (n : Node) → effect (taken_off o (due, Sync n)) (Sync n) ≡ effect (later o due) (Sync n)
unfolding all_alive
sync_effect o due n = by (all_alive o.state (mandatory_of o.state.cluster n))
  where
    by : (b : Bool) → cond b (come_up (taken_off o (due, Sync n)) n) (ended (taken_off o (due, Sync n)) n)
        ≡ cond b (come_up (later o due) n) (ended (later o due) n)
    by true = comes_up_alike o due n
    by false = ends_alike o due n

-- the first timer is set
pub first_is_set : (entry : ℕ × Timer) (xs : List (ℕ × Timer)) → slice_get xs 0 ≡ Some entry → is_set entry.1 xs ≡ true
first_is_set entry [] e = absurd (cc e)
first_is_set entry (x ∷ xs) e = subst (λ (y : ℕ × Timer). is_set y.1 (x ∷ xs) ≡ true) (some_same x entry e) (set-cons x.1 x xs true (same_self x.1))
  where
    some_same : (x y : ℕ × Timer) → Some x ≡ Some y → x ≡ y
    some_same x y e = cc

-- a node whose wait ends waits, and so is one of the cluster
pub waits_to_end : (s : StateView) (due : ℕ) (n : Node) → IsSound s → earliest s ≡ Some (due, Sync n) → is_waiting (mode_of s n) ≡ true
waits_to_end s due n h e = (and_parts _ _ (sym (h.timers.sync n) ∙ first_is_set (due, Sync n) s.timers e)).0

pub waiting_node : (s : StateView) (n : Node) → IsSound s → is_waiting (mode_of s n) ≡ true → IsNodeOf s.cluster n
waiting_node s n h w = let l = by s.modes n.0 w in let e = h.shaped.modes in omega (arith, l, e)
  where
    by : (modes : List Mode) (k : ℕ) → is_waiting (unwrap_or (slice_get modes k) Down) ≡ true → k < length modes
    by [] k h = absurd (cc h)
    by (m ∷ ms) zero h = omega arith
    by (m ∷ ms) (suc k) h = let l = by ms k h in omega (arith, l)

-- at the end of its wait it comes up or ends
sync_sound : (o : Course) (due : ℕ) (n : Node) → due ≤ time_limit → IsSound o.state → earliest o.state ≡ Some (due, Sync n)
    → IsSound (effect (taken_off o (due, Sync n)) (Sync n)).state
sync_sound o due n within h e =
    let w = waits_to_end o.state due n h e in
    subst (λ (p : Course). IsSound p.state) (sym (sync_effect o due n))
    (by (all_alive (later o due).state (mandatory_of o.state.cluster n)) (sound_later o (due, Sync n) within h e) w (waiting_node o.state n h w))
  where
    by : (b : Bool) → IsSound (later o due).state → is_waiting (mode_of o.state n) ≡ true → IsNodeOf o.state.cluster n
        → IsSound (cond b (come_up (later o due) n) (ended (later o due) n)).state
    by true h w l = sound_come_up (later o due) n h l w
    by false h w l = sound_ended (later o due) n h l

-- an application that was lost is wanted when its time is over
abbrev found_wanting : StateView → ℕ → App → Node → StateView
found_wanting s due a m = with_standing (with_time (without_due s (Failover a)) due) a (Wanted (Some m))

lost_within : (s : StateView) (a : App) (m : Node) → standing_of s a ≡ Lost m → a.0 < length s.standings
lost_within s a m e = by s.standings a.0 (ap is_lost e)
  where
    by : (xs : List Standing) (k : ℕ) → is_lost (unwrap_or (slice_get xs k) Quiet) ≡ true → k < length xs
    by [] k h = absurd (cc h)
    by (x ∷ xs) zero h = omega arith
    by (x ∷ xs) (suc k) h = let l = by xs k h in omega (arith, l)

wanting_timers : (s : StateView) (due : ℕ) (a : App) (m : Node) → TimersFit s → standing_of s a ≡ Lost m → All (λ entry. due ≤ entry.0) s.timers
    → TimersFit (found_wanting s due a m)
wanting_timers s due a m h e late = record {
  sync = λ n. set-without_other (Failover a) (Sync n) s.timers refl ∙ h.sync n;
  failover = each;
  once = once-without (Failover a) s.timers h.once;
  order = order-without (Failover a) s.timers h.order;
  due = All-without (λ entry. due ≤ entry.0) (Failover a) s.timers late;
}
  where
    each : (b : App) → is_set (Failover b) (without_timer (Failover a) s.timers) ≡ is_lost (standing_of (found_wanting s due a m) b)
    each b = elim (eqb_tells a.0 b.0) [
      | inl same ↦ subst (λ k. is_set (Failover (app_numbered k)) (without_timer (Failover a) s.timers)
          ≡ is_lost (standing_of (found_wanting s due a m) (app_numbered k))) same.1
          (unset-without (Failover a) s.timers ∙ sym (ap is_lost (at_set_here s.standings a.0 (Wanted (Some m)) Quiet (lost_within s a m e))))
      | inr other ↦ set-without_other (Failover a) (Failover b) s.timers other.0 ∙ h.failover b
          ∙ sym (ap is_lost (at_set_there s.standings a.0 b.0 (Wanted (Some m)) Quiet (λ f. other.1 (sym f))))
    ]

-- nothing else of the state is touched by that
wanting_sound : (s : StateView) (due : ℕ) (a : App) (m : Node) → due ≤ time_limit → IsSound s → standing_of s a ≡ Lost m → All (λ entry. due ≤ entry.0) s.timers
    → IsSound (found_wanting s due a m)
wanting_sound s due a m within h e late = record {
  within = h.within;
  shaped = shaped_standing (with_time (without_due s (Failover a)) due) a (Wanted (Some m)) (subst (IsStandingOf s.cluster) e (stands_known s a h.shaped))
      (shaped_time (without_due s (Failover a)) due within (shaped_timers s (without_due s (Failover a)).timers h.shaped));
  once = record { running = h.once.running; waiting = h.once.waiting; apart = h.once.apart };
  idle = record { running = h.idle.running; waiting = h.idle.waiting; permissions = h.idle.permissions };
  standing = record {
    listed = h.standing.listed;
    stands = λ n b d r. at_set s.standings a.0 b.0 (Wanted (Some m)) Quiet
        (λ same. same ∙ h.standing.stands n b d r)
        (λ is v. absurd (lost_runs n (sym e ∙ ap (λ k. standing_of s (app_numbered k)) (sym is) ∙ h.standing.stands n b d r)));
    local = λ b l. at_set s.standings a.0 b.0 (Wanted (Some m)) Quiet
        (λ same. same ∙ h.standing.local b l)
        (λ is v. absurd (lost_quiet (sym e ∙ ap (λ k. standing_of s (app_numbered k)) (sym is) ∙ h.standing.local b l)));
  };
  runs = record {
    runs = λ b n f. at_set s.standings a.0 b.0 (Wanted (Some m)) Quiet
        (λ same. h.runs.runs b n (sym same ∙ f))
        (λ is v. absurd (wanted_runs n (sym v ∙ f)));
  };
  timers = wanting_timers s due a m h.timers e late;
}
  where
    lost_runs : (n : Node) → Lost m ≡ Running n → ⊥
    lost_runs n f = cc f

    lost_quiet : Lost m ≡ Quiet → ⊥
    lost_quiet f = cc f

    wanted_runs : (n : Node) → Wanted (Some m) ≡ Running n → ⊥
    wanted_runs n f = cc f

failover_sound : (s : StateView) (due : ℕ) (a : App) (st : Standing) → due ≤ time_limit → IsSound s → standing_of s a ≡ st → is_lost st ≡ true
    → All (λ entry. due ≤ entry.0) s.timers
    → IsSound (wanted_if_lost (with_time (without_due s (Failover a)) due) a st)
failover_sound s due a (Lost m) within h e lost late = wanting_sound s due a m within h e late
failover_sound s due a _ within h e lost late = absurd (cc lost)

-- what the first timer does keeps a state sound
pub sound_effect : (o : Course) (entry : ℕ × Timer) → entry.0 ≤ time_limit → IsSound o.state → earliest o.state ≡ Some entry
    → IsSound (effect (taken_off o entry) entry.1).state
sound_effect o (due, Sync n) within h e = sync_sound o due n within h e
sound_effect o (due, Failover a) within h e =
    failover_sound o.state due a (standing_of o.state a) within h refl (sym (h.timers.failover a) ∙ first_is_set (due, Failover a) o.state.timers e)
    (least-first (due, Failover a) o.state.timers e h.timers.order)
