-- A mark keeps a state sound.
use Rattle.std.proofs.Common.{◌≡◌, ◌≢◌, ◌≤◌, ◌||◌, Bool, true, false, cond, is_some, [], ◌∷◌, ◌++◌, refl, sym, ap, ◌∙◌, arith, nat_eq, subst, Option, Some}
use Rattle.std.proofs.Common.{None}
use Rattle.rh_model.specs.declared.node.Node.{Node}
use Rattle.rh_model.specs.declared.node.App.{App}
use Rattle.rh_model.specs.declared.settings.Restart.{Restart}
use Rattle.rh_model.specs.ClusterView.{app_numbered, numbered, is_listed_at}
use Rattle.rh_state.specs.declared.status.Standing.{Standing}
use Rattle.rh_state.specs.declared.status.Standing.TheVariants.{Quiet, Wanted, Running, Lost}
use Rattle.rh_state.specs.declared.status.Timer.TheVariants.{Sync, Failover}
use Rattle.rh_state.specs.Numbers.{same_node, same_app}
use Rattle.rh_state.specs.Shape.{IsNodeOf, IsAppOf, IsStandingOf}
use Rattle.rh_state.specs.StateView.{StateView, mode_of, is_up, waiting_at, runs_at, waits_at, is_started, standing_of, due_of}
use Rattle.rh_state.specs.Setters.{with_restart, with_standing, with_waiting, without_due}
use Rattle.rh_base.proofs.Lists.{cases}
use Rattle.rh_rules.specs.Course.{is_local}
use Rattle.rh_trace.specs.Validity.{IdleUnlessUp, StandsWhereItRuns, TimersFit, IsSound}
use Rattle.rh_state.specs.Standings.{is_lost}
use Rattle.rh_trace.proofs.Shapes.{shaped_timers, shaped_standing, shaped_restart, shaped_waiting}
use Rattle.rh_base.proofs.Truths.{or_left, or_right, same_number, both}
use Rattle.rh_trace.proofs.Places.{at_set_here, at_set_there}
use Rattle.rh_rules.specs.Marking.{with_distributed_standing, wanted_by_mark, with_mark}
use Rattle.rh_events.proofs.Alive.{without_unset}
use Rattle.rh_trace.proofs.Entries.{other_number, put_has}
use Rattle.rh_trace.proofs.Kept.{once_waiting}
use Rattle.rh_events.proofs.Tables.{differ}
use Rattle.rh_trace.proofs.TimersToldApart.{set-without_other, unset-without, once-without, order-without, All-without}

-- a pair that isn't started neither runs nor waits
pub not_started : (p q : Bool) → p || q ≡ false → (p ≡ false) × (q ≡ false)
not_started true q h = absurd (cc)
not_started false q h = (refl, h)

pub neither : (p q : Bool) → p ≡ false → q ≡ false → p || q ≡ false
neither true q e f = cc
neither false q e f = f

-- what is started when one pair more waits: what was, and the pair
started_before : {P : Type 0} (s : StateView) (n m : Node) (a b : App) → is_started (with_waiting s n a) m b ≡ true → (is_started s m b ≡ true → P)
    → (m.0 ≡ n.0 → same_app b a ≡ true → P) → P
started_before {P} s n m a b h before more = by (runs_at s m b) refl h
  where
    by : (p : Bool) → runs_at s m b ≡ p → p || waits_at (with_waiting s n a) m b ≡ true → P
    by true e h = before (or_left (runs_at s m b) _ e)
    by false e h = put_has s.waiting n.0 m.0 a b h (λ w. before (or_right (runs_at s m b) _ w)) more

-- a pair waits at a node that is up, and may be started there
module _ (s : StateView) (n : Node) (a : App) (r : Restart) (h : IsSound s) (is_node : IsNodeOf s.cluster n) (is_app : IsAppOf s.cluster a)
    (up : is_up (mode_of s n) ≡ true) (listed : is_listed_at s.cluster a n ≡ true) (off : is_started s n a ≡ false) where
  abbrev t : StateView
  t = with_restart (with_waiting s n a) n a r

  idle_put : IdleUnlessUp t
  idle_put = record {
    running = h.idle.running;
    waiting = λ m idle. at_set_there s.waiting n.0 m.0 (waiting_at s n ++ a ∷ []) []
        (λ e. both (is_up (mode_of s n)) up (ap (λ k. is_up (mode_of s (numbered k))) (sym e) ∙ idle)) ∙ h.idle.waiting m idle;
    permissions = h.idle.permissions;
  }

  stands_put : StandsWhereItRuns t
  stands_put = record {
    listed = λ m b e. started_before s n m a b e (λ was. h.standing.listed m b was)
        (λ at same. ap (λ k. is_listed_at s.cluster b (numbered k)) at ∙ ap (λ k. is_listed_at s.cluster (app_numbered k) n) (same_number b.0 a.0 same)
        ∙ listed);
    stands = h.standing.stands;
    local = h.standing.local;
  }

  timers_put : TimersFit t
  timers_put = record { sync = h.timers.sync; failover = h.timers.failover; once = h.timers.once; order = h.timers.order; due = h.timers.due }

  pub sound_put : IsSound t
  sound_put =
      let apart = not_started (runs_at s n a) (waits_at s n a) off in
      let o = once_waiting s n a apart.0 apart.1 h.once in
      record {
        within = h.within;
        shaped = shaped_restart (with_waiting s n a) n a r is_node (shaped_waiting s n a is_app h.shaped);
        once = record { running = o.running; waiting = o.waiting; apart = o.apart };
        idle = idle_put;
        standing = stands_put;
        runs = record { runs = h.runs.runs };
        timers = timers_put;
      }

-- a distributed application that runs nowhere is wanted, and its timer goes
module _ (s : StateView) (a : App) (from : Option Node) (h : IsSound s) (is_app : IsAppOf s.cluster a) (known : IsStandingOf s.cluster (Wanted from))
    (distributed : is_local s.cluster a ≡ false) (still : (m : Node) → standing_of s a ≢ Running m) where
  abbrev w : StateView
  w = without_due (with_standing s a (Wanted from)) (Failover a)

  stands_now : (b : App) → b.0 ≡ a.0 → standing_of w b ≡ Wanted from
  stands_now b e = ap (λ k. standing_of w (app_numbered k)) e
      ∙ at_set_here s.standings a.0 (Wanted from) Quiet (let k = h.shaped.standings in omega (arith, k, is_app))

  stands_then : (b : App) → b.0 ≢ a.0 → standing_of w b ≡ standing_of s b
  stands_then b d = at_set_there s.standings a.0 b.0 (Wanted from) Quiet d

  stood : (b : App) → b.0 ≡ a.0 → standing_of s b ≡ standing_of s a
  stood b e = ap (λ k. standing_of s (app_numbered k)) e

  by_app : (P : App → Type 0) → (b : App) → (b.0 ≡ a.0 → P b) → (b.0 ≢ a.0 → P b) → P b
  by_app P b here there = cases (nat_eq b.0 a.0) (λ t. here (same_number b.0 a.0 t)) (λ f. there (other_number b.0 a.0 f))

  not_running : (m : Node) → Wanted from ≢ Running m
  not_running m e = cc

  timers_wanted : TimersFit w
  timers_wanted = record {
    sync = λ n. set-without_other (Failover a) (Sync n) s.timers refl ∙ h.timers.sync n;
    failover = λ b. by_app (λ b. is_some (due_of w (Failover b)) ≡ is_lost (standing_of w b)) b
        (λ e. ap (λ k. is_some (due_of w (Failover (app_numbered k)))) e ∙ unset-without (Failover a) s.timers ∙ sym (ap is_lost (stands_now b e)))
        (λ d. set-without_other (Failover a) (Failover b) s.timers (differ a.0 b.0 (λ e. d (sym e))) ∙ h.timers.failover b
        ∙ sym (ap is_lost (stands_then b d)));
    once = once-without (Failover a) s.timers h.timers.once;
    order = order-without (Failover a) s.timers h.timers.order;
    due = All-without (λ entry. s.time ≤ entry.0) (Failover a) s.timers h.timers.due;
  }

  pub sound_wanted : IsSound w
  sound_wanted = record {
    within = h.within;
    shaped = shaped_timers (with_standing s a (Wanted from)) w.timers (shaped_standing s a (Wanted from) known h.shaped);
    once = record { running = h.once.running; waiting = h.once.waiting; apart = h.once.apart };
    idle = record { running = h.idle.running; waiting = h.idle.waiting; permissions = h.idle.permissions };
    standing = record {
      listed = h.standing.listed;
      stands = λ n b far runs. by_app (λ b. standing_of s b ≡ Running n → standing_of w b ≡ Running n) b
          (λ e was. absurd (still n (sym (stood b e) ∙ was)))
          (λ d was. stands_then b d ∙ was)
          (h.standing.stands n b far runs);
      local = λ b near. by_app (λ b. is_local s.cluster b ≡ true → standing_of w b ≡ Quiet) b
          (λ e near. both (is_local s.cluster a) (ap (λ k. is_local s.cluster (app_numbered k)) (sym e) ∙ near) distributed)
          (λ d near. stands_then b d ∙ h.standing.local b near)
          near;
    };
    runs = record {
      runs = λ b m e. by_app (λ b. standing_of w b ≡ Running m → runs_at s m b ≡ true) b
          (λ at now. absurd (not_running m (sym (stands_now b at) ∙ now)))
          (λ d now. h.runs.runs b m (sym (stands_then b d) ∙ now))
          e;
    };
    timers = timers_wanted;
  }

-- one that is quiet has no timer
sound_distributed : (s : StateView) (a : App) → IsSound s → IsAppOf s.cluster a → standing_of s a ≡ Quiet
    → IsSound (with_distributed_standing s a (Wanted None))
sound_distributed s a h is_app quiet = by (is_local s.cluster a) refl
  where
    quiet_not : (m : Node) → Quiet ≢ Running m
    quiet_not m e = cc

    by : (p : Bool) → is_local s.cluster a ≡ p → IsSound (cond p s (with_standing s a (Wanted None)))
    by true e = h
    by false e = subst IsSound
        (ap (λ ts. record (with_standing s a (Wanted None)) { timers = ts }) (without_unset (Failover a) s.timers (h.timers.failover a ∙ ap is_lost quiet)))
        (sound_wanted s a None h is_app tt e (λ m r. quiet_not m (sym quiet ∙ r)))

sound_by_mark : (s : StateView) (n : Node) (a : App) (st : Standing) → IsSound s → IsNodeOf s.cluster n → IsAppOf s.cluster a → standing_of s a ≡ st
    → IsSound (wanted_by_mark s n a st)
sound_by_mark s n a Quiet h is_node is_app e = sound_distributed s a h is_app e
sound_by_mark s n a (Wanted from) h is_node is_app e = h
sound_by_mark s n a (Running m) h is_node is_app e = h
sound_by_mark s n a (Lost m) h is_node is_app e = by (same_node m n)
  where
    not_running : (k : Node) → Lost m ≢ Running k
    not_running k e = cc

    not_quiet : Lost m ≢ Quiet
    not_quiet e = cc

    far : is_local s.cluster a ≡ false
    far = cases (is_local s.cluster a) (λ t. absurd (not_quiet (sym e ∙ h.standing.local a t))) (λ f. f)

    by : (p : Bool) → IsSound (cond p (without_due (with_standing s a (Wanted (Some n))) (Failover a)) s)
    by true = sound_wanted s a (Some n) h is_app is_node far (λ k r. not_running k (sym e ∙ r))
    by false = h

pub sound_mark : (s : StateView) (n : Node) (a : App) (r : Restart) → IsSound s → IsNodeOf s.cluster n → IsAppOf s.cluster a → is_up (mode_of s n) ≡ true
    → is_listed_at s.cluster a n ≡ true → is_started s n a ≡ false → IsSound (with_mark s n a r)
unfolding with_mark
sound_mark s n a r h is_node is_app up listed off =
    sound_by_mark (with_restart (with_waiting s n a) n a r) n a (standing_of s a) (sound_put s n a r h is_node is_app up listed off) is_node is_app refl
