-- The timers of a state fit it after a change of its standings, and after a node ends.
use Rattle.std.proofs.Common.{◌≡◌, ◌<◌, ◌≤◌, ◌&&◌, ℕ, zero, suc, [], ◌∷◌, true, false, List, length, slice_set, slice_get, unwrap_or, refl, sym, ap, ◌∙◌}
use Rattle.std.proofs.lemmas.Bool.{and_left}
use Rattle.rh_model.specs.ClusterView.{sync_wait_of}
use Rattle.rh_model.specs.declared.node.Node.{Node}
use Rattle.rh_model.specs.declared.node.App.{App}
use Rattle.rh_state.specs.declared.status.Mode.{Mode}
use Rattle.rh_state.specs.declared.status.Mode.TheVariants.{Down}
use Rattle.rh_state.specs.declared.status.Standing.{Standing}
use Rattle.rh_state.specs.declared.status.Standing.TheVariants.{Quiet}
use Rattle.rh_state.specs.declared.status.Timer.TheVariants.{Sync, Failover}
use Rattle.rh_state.specs.Numbers.{same_app, same_node}
use Rattle.rh_state.specs.StateView.{StateView, mode_of, standing_of, is_waiting}
use Rattle.rh_state.specs.Setters.{with_mode, with_standing, with_timer, without_due}
use Rattle.rh_trace.specs.Validity.{TimersFit, is_timed}
use Rattle.rh_state.specs.Standings.{is_lost}
use Rattle.rh_base.proofs.Lists.{cases}
use Rattle.rh_trace.proofs.Places.{at_set, at_set_here, at_set_there}
use Rattle.rh_base.proofs.Truths.{same_number}
use Rattle.rh_trace.proofs.Entries.{other_number}
use Rattle.rh_trace.proofs.TimersToldApart.{is_set, same_timer-sym, unset-without, set-without_other, once-without, order-without, All-without}
use Rattle.rh_events.proofs.TimersArmed.{once-behind, order-behind, set-behind, set-behind_other}
use Rattle.rh_wheel.proofs.Arming.{All-behind}

-- the standing of an application after a change
pub stands_here : (s : StateView) (a b : App) (st : Standing) → a.0 < length s.standings → same_app b a ≡ true → standing_of (with_standing s a st) b ≡ st
stands_here s a b st lt t =
    ap (λ k. unwrap_or (slice_get (slice_set s.standings a.0 st) k) Quiet) (same_number b.0 a.0 t)
    ∙ at_set_here s.standings a.0 st Quiet lt

pub stands_there : (s : StateView) (a b : App) (st : Standing) → same_app b a ≡ false → standing_of (with_standing s a st) b ≡ standing_of s b
stands_there s a b st d = at_set_there s.standings a.0 b.0 st Quiet (other_number b.0 a.0 d)

pub same_standing : (s : StateView) (a b : App) → same_app b a ≡ true → standing_of s b ≡ standing_of s a
same_standing s a b t = ap (λ k. unwrap_or (slice_get s.standings k) Quiet) (same_number b.0 a.0 t)

-- an application that wasn't lost, and isn't now
pub fit_standing : (s : StateView) (a : App) (st : Standing) → is_lost st ≡ is_lost (standing_of s a) → TimersFit s → TimersFit (with_standing s a st)
fit_standing s a st e h = record {
  sync = h.sync;
  failover = λ b. h.failover b ∙ at_set s.standings a.0 b.0 st Quiet
      (λ old. ap is_lost (sym old))
      (λ same new. ap (λ k. is_lost (unwrap_or (slice_get s.standings k) Quiet)) same ∙ sym e ∙ ap is_lost (sym new));
  once = h.once;
  order = h.order;
  due = h.due;
}

-- one that is lost no more
pub fit_found : (s : StateView) (a : App) (st : Standing) → a.0 < length s.standings → is_lost st ≡ false → TimersFit s
    → TimersFit (without_due (with_standing s a st) (Failover a))
fit_found s a st lt e h = record {
  sync = λ n. set-without_other (Failover a) (Sync n) s.timers refl ∙ h.sync n;
  failover = λ b. cases (same_app b a)
      (λ t. ap (λ k. is_set (Failover (record { 0 = k })) (without_due s (Failover a)).timers) (same_number b.0 a.0 t)
      ∙ unset-without (Failover a) s.timers ∙ sym e ∙ ap is_lost (sym (stands_here s a b st lt t)))
      (λ d. set-without_other (Failover a) (Failover b) s.timers (same_timer-sym (Failover a) (Failover b) ∙ d) ∙ h.failover b
      ∙ ap is_lost (sym (stands_there s a b st d)));
  once = once-without (Failover a) s.timers h.once;
  order = order-without (Failover a) s.timers h.order;
  due = All-without (λ entry. s.time ≤ entry.0) (Failover a) s.timers h.due;
}

-- one that is lost now
pub fit_lost : (s : StateView) (a : App) (st : Standing) (due : ℕ) → a.0 < length s.standings → is_lost st ≡ true → is_lost (standing_of s a) ≡ false
    → s.time ≤ due → TimersFit s
    → TimersFit (with_timer (with_standing s a st) due (Failover a))
fit_lost s a st due lt lost before later h =
    let unset : is_set (Failover a) s.timers ≡ false = h.failover a ∙ before in
    record {
      sync = λ n. set-behind_other (due, Failover a) (Sync n) s.timers refl ∙ h.sync n;
      failover = λ b. cases (same_app b a)
          (λ t. ap (λ k. is_set (Failover (record { 0 = k })) (with_timer s due (Failover a)).timers) (same_number b.0 a.0 t)
          ∙ set-behind (due, Failover a) s.timers ∙ sym lost ∙ ap is_lost (sym (stands_here s a b st lt t)))
          (λ d. set-behind_other (due, Failover a) (Failover b) s.timers d ∙ h.failover b
          ∙ ap is_lost (sym (stands_there s a b st d)));
      once = once-behind (due, Failover a) s.timers unset h.once;
      order = order-behind (due, Failover a) s.timers h.order;
      due = All-behind (λ entry. s.time ≤ entry.0) (due, Failover a) s.timers later h.due;
    }

-- a node that is down
pub down : (modes : List Mode) (i : ℕ) → unwrap_or (slice_get (slice_set modes i Down) i) Down ≡ Down
down [] i = refl
down (x ∷ xs) zero = refl
down (x ∷ xs) (suc i) = down xs i

pub fit_down : (s : StateView) (n : Node) → TimersFit s → TimersFit (with_mode (without_due s (Sync n)) n Down)
fit_down s n h = record {
  sync = λ m. cases (same_node m n)
      (λ t. ap (λ k. is_set (Sync (record { 0 = k })) (without_due s (Sync n)).timers) (same_number m.0 n.0 t)
      ∙ unset-without (Sync n) s.timers
      ∙ sym (and_left _ _ (waits_not m t)))
      (λ d. set-without_other (Sync n) (Sync m) s.timers (same_timer-sym (Sync n) (Sync m) ∙ d) ∙ h.sync m
      ∙ ap (λ (v : Mode). is_waiting v && is_timed (sync_wait_of s.cluster m)) (sym (at_set_there s.modes n.0 m.0 Down Down (other_number m.0 n.0 d))));
  failover = λ a. set-without_other (Sync n) (Failover a) s.timers refl ∙ h.failover a;
  once = once-without (Sync n) s.timers h.once;
  order = order-without (Sync n) s.timers h.order;
  due = All-without (λ entry. s.time ≤ entry.0) (Sync n) s.timers h.due;
}
  where
    waits_not : (m : Node) → same_node m n ≡ true → is_waiting (mode_of (with_mode s n Down) m) ≡ false
    waits_not m t = ap (λ k. is_waiting (mode_of (with_mode s n Down) (record { 0 = k }))) (same_number m.0 n.0 t) ∙ ap is_waiting (down s.modes n.0)
