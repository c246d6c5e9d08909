-- A node that boots keeps a state sound.
use Rattle.std.proofs.Common.{◌≡◌, ◌≢◌, ◌≤◌, ◌&&◌, ◌+◌, ℕ, Bool, true, false, List, refl, sym, ap, ◌∙◌, arith, nat_eq, inl, inr}
use Rattle.std.proofs.lemmas.Bool.{and_left, cases_lt}
use Rattle.std.proofs.lemmas.List.Elements.{All-get_or}
use Rattle.rh_model.specs.declared.node.Node.{Node}
use Rattle.rh_model.specs.declared.settings.SyncWait.{SyncWait}
use Rattle.rh_model.specs.declared.settings.SyncWait.TheVariants.{Unset, After, Forever}
use Rattle.rh_model.specs.ClusterView.{numbered, sync_wait_of}
use Rattle.rh_state.specs.declared.status.Mode.{Mode}
use Rattle.rh_state.specs.declared.status.Mode.TheVariants.{Down, Waiting, Up}
use Rattle.rh_state.specs.declared.status.Timer.{Timer}
use Rattle.rh_state.specs.declared.status.Timer.TheVariants.{Sync, Failover}
use Rattle.rh_state.specs.Limits.{incarnation_limit}
use Rattle.rh_state.specs.Shape.{IsNodeOf}
use Rattle.rh_state.specs.StateView.{StateView, mode_of, incarnation_of, is_up, is_alive, is_waiting}
use Rattle.rh_state.specs.Setters.{with_mode, with_incarnation, with_timer}
use Rattle.rh_base.proofs.Lists.{cases}
use Rattle.rh_trace.specs.Validity.{TimersFit, IsSound, is_timed}
use Rattle.rh_trace.proofs.Shapes.{shaped_timers, shaped_mode, shaped_incarnation}
use Rattle.rh_trace.proofs.Places.{at_set_here, at_set_there}
use Rattle.rh_rules.specs.NodesStart.{with_sync_timer, booted}
use Rattle.rh_base.proofs.Truths.{same_number}
use Rattle.rh_trace.proofs.Entries.{other_number}
use Rattle.rh_events.proofs.Tables.{differ}
use Rattle.rh_trace.proofs.TimersToldApart.{is_set}
use Rattle.rh_events.proofs.TimersArmed.{once-behind, order-behind, set-behind, set-behind_other}
use Rattle.rh_wheel.proofs.Arming.{All-behind}

not_up : (mode : Mode) → is_alive mode ≡ false → is_up mode ≡ false
not_up Down h = refl
not_up Waiting h = absurd (cc)
not_up Up h = h

not_waiting : (mode : Mode) → is_alive mode ≡ false → is_waiting mode ≡ false
not_waiting Down h = refl
not_waiting Waiting h = h
not_waiting Up h = refl

-- a node that has booted, before its timer is set
abbrev waits : StateView → Node → StateView
waits s n = with_mode (with_incarnation s n (incarnation_of s n + 1)) n Waiting

module _ (s : StateView) (n : Node) (h : IsSound s) (is_node : IsNodeOf s.cluster n) (down : is_alive (mode_of s n) ≡ false)
    (another : incarnation_of s n ≢ incarnation_limit) where
  one_more : incarnation_of s n + 1 ≤ incarnation_limit
  one_more =
      let count = h.shaped.incarnations in
      let most = All-get_or (λ i. i ≤ incarnation_limit) s.incarnations n.0 0 (omega (arith, count, is_node)) h.shaped.limited in
      elim (cases_lt (incarnation_of s n) incarnation_limit) [ inl below ↦ omega (arith, below) | inr above ↦ absurd (another (omega (arith, above, most))) ]

  here : (m : Node) → m.0 ≡ n.0 → mode_of (waits s n) m ≡ Waiting
  here m e = ap (λ k. mode_of (waits s n) (numbered k)) e ∙ at_set_here s.modes n.0 Waiting Down (let k = h.shaped.modes in omega (arith, k, is_node))

  there : (m : Node) → m.0 ≢ n.0 → mode_of (waits s n) m ≡ mode_of s m
  there m d = at_set_there s.modes n.0 m.0 Waiting Down d

  by_node : (P : Node → Type 0) → (m : Node) → (m.0 ≡ n.0 → P m) → (m.0 ≢ n.0 → P m) → P m
  by_node P m same other = cases (nat_eq m.0 n.0) (λ t. same (same_number m.0 n.0 t)) (λ f. other (other_number m.0 n.0 f))

  -- a node that isn't up now wasn't up before
  was_idle : (m : Node) → is_up (mode_of (waits s n) m) ≡ false → is_up (mode_of s m) ≡ false
  was_idle m idle = by_node (λ m. is_up (mode_of (waits s n) m) ≡ false → is_up (mode_of s m) ≡ false) m
      (λ e now. ap (λ k. is_up (mode_of s (numbered k))) e ∙ not_up (mode_of s n) down)
      (λ d now. sym (ap is_up (there m d)) ∙ now)
      idle

  -- all but the timers
  sound_but_timers : (timers : List (ℕ × Timer)) → TimersFit (record (waits s n) { timers = timers }) → IsSound (record (waits s n) { timers = timers })
  sound_but_timers timers fit = record {
    within = h.within;
    shaped = shaped_timers (waits s n) timers
        (shaped_mode (with_incarnation s n (incarnation_of s n + 1)) n Waiting (shaped_incarnation s n (incarnation_of s n + 1) one_more h.shaped));
    once = record { running = h.once.running; waiting = h.once.waiting; apart = h.once.apart };
    idle = record {
      running = λ m idle. h.idle.running m (was_idle m idle);
      waiting = λ m idle. h.idle.waiting m (was_idle m idle);
      permissions = λ m known idle. h.idle.permissions m known (was_idle m idle);
    };
    standing = record { listed = h.standing.listed; stands = h.standing.stands; local = h.standing.local };
    runs = record { runs = h.runs.runs };
    timers = fit;
  }

  unset : is_set (Sync n) s.timers ≡ false
  unset = h.timers.sync n ∙ and_left _ _ (not_waiting (mode_of s n) down)

  abbrev Needs : Node → Bool → Type 0
  Needs m set = set ≡ (is_waiting (mode_of (waits s n) m) && is_timed (sync_wait_of s.cluster m))

  needs_here : (m : Node) (set : Bool) → m.0 ≡ n.0 → set ≡ is_timed (sync_wait_of s.cluster n) → Needs m set
  needs_here m set e is = is ∙ sym (ap (λ k. is_timed (sync_wait_of s.cluster (numbered k))) e)
      ∙ sym (ap (λ mode. is_waiting mode && is_timed (sync_wait_of s.cluster m)) (here m e))

  needs_there : (m : Node) (set : Bool) → m.0 ≢ n.0 → set ≡ is_set (Sync m) s.timers → Needs m set
  needs_there m set d is = is ∙ h.timers.sync m ∙ sym (ap (λ mode. is_waiting mode && is_timed (sync_wait_of s.cluster m)) (there m d))

  -- no timer more
  untimed : is_timed (sync_wait_of s.cluster n) ≡ false → TimersFit (waits s n)
  untimed none = record {
    sync = λ m. by_node (λ m. Needs m (is_set (Sync m) s.timers)) m
        (λ e. needs_here m _ e (ap (λ k. is_set (Sync (numbered k)) s.timers) e ∙ unset ∙ sym none))
        (λ d. needs_there m _ d refl);
    failover = h.timers.failover;
    once = h.timers.once;
    order = h.timers.order;
    due = h.timers.due;
  }

  -- one timer more
  timed : (ms : ℕ) → is_timed (sync_wait_of s.cluster n) ≡ true → TimersFit (with_timer (waits s n) (s.time + ms) (Sync n))
  timed ms some =
      let new : ℕ × Timer = (s.time + ms, Sync n) in
      record {
        sync = λ m. by_node (λ m. Needs m (is_set (Sync m) (with_timer (waits s n) (s.time + ms) (Sync n)).timers)) m
            (λ e. needs_here m _ e (ap (λ k. is_set (Sync (numbered k)) (with_timer (waits s n) (s.time + ms) (Sync n)).timers) e ∙ set-behind new s.timers
            ∙ sym some))
            (λ d. needs_there m _ d (set-behind_other new (Sync m) s.timers (differ m.0 n.0 d)));
        failover = λ a. set-behind_other new (Failover a) s.timers refl ∙ h.timers.failover a;
        once = once-behind new s.timers unset h.timers.once;
        order = order-behind new s.timers h.timers.order;
        due = All-behind (λ entry. s.time ≤ entry.0) new s.timers (omega arith) h.timers.due;
      }

  sound_waits : (wait : SyncWait) → sync_wait_of s.cluster n ≡ wait → IsSound (with_sync_timer (waits s n) n wait)
  sound_waits Unset e = sound_but_timers s.timers (untimed (ap is_timed e))
  sound_waits (After ms) e = sound_but_timers (with_timer (waits s n) (s.time + ms) (Sync n)).timers (timed ms (ap is_timed e))
  sound_waits Forever e = sound_but_timers s.timers (untimed (ap is_timed e))

  pub sound_booted : IsSound (booted s n)
  unfolding booted
  sound_booted = sound_waits (sync_wait_of s.cluster n) refl
