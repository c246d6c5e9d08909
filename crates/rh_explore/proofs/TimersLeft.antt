-- A timer that fires sets no other: what holds of all timers that are set holds of all that are left.
use Rattle.std.proofs.Common.{◌≡◌, ℕ, Bool, true, false, cond, List, [], ◌∷◌, fold, All, None, Some, sym, ap, ◌∙◌, subst}
use Rattle.rh_base.proofs.Lists.{cases}
use Rattle.rh_base.proofs.Truths.{both, same_number}
use Rattle.rh_model.specs.ClusterView.{mandatory_of, boot_of, numbered}
use Rattle.rh_model.specs.declared.node.Node.{Node}
use Rattle.rh_model.specs.declared.node.App.{App}
use Rattle.rh_model.specs.declared.settings.Restart.{Restart}
use Rattle.rh_state.specs.declared.status.Mode.TheVariants as mode
use Rattle.rh_state.specs.declared.status.Standing.{Standing}
use Rattle.rh_state.specs.declared.status.Standing.TheVariants.{Quiet, Wanted, Running, Lost}
use Rattle.rh_state.specs.declared.status.Timer.{Timer}
use Rattle.rh_state.specs.declared.status.Timer.TheVariants.{Sync, Failover}
use Rattle.rh_state.specs.Lists.{has_app}
use Rattle.rh_state.specs.Numbers.{same_node, nodes_of, apps_of}
use Rattle.rh_state.specs.StateView.{StateView, mode_of, is_waiting, standing_of, runs_at, earliest}
use Rattle.rh_state.specs.Setters.{with_mode, with_standing, with_restart, with_waiting, without_due}
use Rattle.rh_rules.specs.declared.pick.Pick.{Pick}
use Rattle.rh_rules.specs.declared.notice.Notice.TheVariants as notice
use Rattle.rh_rules.specs.Course.{Course, told, now_in, is_local}
use Rattle.rh_rules.specs.NodesStart.{all_alive, is_ready, come_up, come_up_if_ready, ready_come_up}
use Rattle.rh_rules.specs.Marking.{wanted_by_mark, with_mark, mark, mark_booted, mark_all}
use Rattle.rh_rules.specs.NodesEnd.{cleared, all_lost, ended, wanted_if_lost}
use Rattle.rh_rules.specs.Time.{effect, taken_off, fired}
use Rattle.rh_trace.specs.Validity.{IsSound}
use Rattle.rh_trace.proofs.TimersToldApart.{All-without}
use Rattle.rh_settle.proofs.Unchanged.{settled_timers}
use Rattle.rh_events.proofs.SoundComingUp.{idle_waits}
use Rattle.rh_events.proofs.TimersFall.{NoneRunsAt, none_lost}
use Rattle.rh_step.proofs.TakenOff.{waits_to_end}

-- no application stands as running at a node that waits
idle_at_wait : (s : StateView) (n : Node) → IsSound s → is_waiting (mode_of s n) ≡ true → NoneRunsAt s n
idle_at_wait s n sound waits a m stands = cases (same_node m n)
    (λ same. both (runs_at s n a)
    (ap (λ k. runs_at s (numbered k) a) (sym (same_number m.0 n.0 same)) ∙ sound.runs.runs a m stands)
    (ap (λ apps. has_app apps a) (idle_waits s n sound waits).0))
    (λ other. other)

module _ (P : ℕ × Timer → Type 0) where
  -- ---- nodes come up
  wanted_keeps : (s : StateView) (n : Node) (a : App) (st : Standing) → All P s.timers → All P (wanted_by_mark s n a st).timers
  wanted_keeps s n a Quiet h = by (is_local s.cluster a)
    where
      by : (b : Bool) → All P (cond b s (with_standing s a (Wanted None))).timers
      by true = h
      by false = h
  wanted_keeps s n a (Lost m) h = by (same_node m n)
    where
      by : (b : Bool) → All P (cond b (without_due (with_standing s a (Wanted (Some n))) (Failover a)) s).timers
      by true = All-without P (Failover a) s.timers h
      by false = h
  wanted_keeps s n a (Wanted from) h = h
  wanted_keeps s n a (Running m) h = h

  marks_keep : (n : Node) (boot : List (App × Restart)) (o : Course) → All P o.state.timers → All P (fold (mark_booted n) o boot).state.timers
  unfolding with_mark
  marks_keep n [] o h = h
  marks_keep n (b ∷ boot) o h = marks_keep n boot (mark o n b.0 b.1)
      (wanted_keeps (with_restart (with_waiting o.state n b.0) n b.0 b.1) n b.0 (standing_of o.state b.0) h)

  come_up_keeps : (o : Course) (n : Node) → All P o.state.timers → All P (come_up o n).state.timers
  unfolding come_up mark_all
  come_up_keeps o n h = marks_keep n (boot_of o.state.cluster n)
      (told (now_in o (with_mode (without_due o.state (Sync n)) n mode.Up)) (notice.Up n)) (All-without P (Sync n) o.state.timers h)

  each_keeps : (ns : List Node) (o : Course) → All P o.state.timers → All P (fold come_up_if_ready o ns).state.timers
  unfolding come_up_if_ready
  each_keeps [] o h = h
  each_keeps (n ∷ ns) o h = each_keeps ns (come_up_if_ready o n) (by (is_ready o.state n))
    where
      by : (b : Bool) → All P (cond b (come_up o n) o).state.timers
      by true = come_up_keeps o n h
      by false = h

  ready_keeps : (o : Course) → All P o.state.timers → All P (ready_come_up o).state.timers
  unfolding ready_come_up
  ready_keeps o h = each_keeps (nodes_of o.state.cluster) o h

  -- ---- a node at which nothing runs ends
  ended_keeps : (o : Course) (n : Node) → NoneRunsAt o.state n → All P o.state.timers → All P (ended o n).state.timers
  unfolding ended all_lost cleared
  ended_keeps o n idle h = subst (λ (s : StateView). All P s.timers) (sym (none_lost n (cleared o.state n) (apps_of o.state.cluster) idle))
      (All-without P (Sync n) o.state.timers h)

  -- ---- a timer fires
  lost_keeps : (s : StateView) (a : App) (st : Standing) → All P s.timers → All P (wanted_if_lost s a st).timers
  lost_keeps s a (Lost n) h = h
  lost_keeps s a Quiet h = h
  lost_keeps s a (Wanted from) h = h
  lost_keeps s a (Running n) h = h

  effect_keeps : (o : Course) (entry : ℕ × Timer) → IsSound o.state → earliest o.state ≡ Some entry → All P o.state.timers
      → All P (effect (taken_off o entry) entry.1).state.timers
  effect_keeps o (at, Failover a) sound first h =
      lost_keeps (taken_off o (at, Failover a)).state a (standing_of o.state a) (All-without P (Failover a) o.state.timers h)
  effect_keeps o (at, Sync n) sound first h = by (all_alive (taken_off o (at, Sync n)).state (mandatory_of o.state.cluster n))
    where
      left : All P (taken_off o (at, Sync n)).state.timers
      left = All-without P (Sync n) o.state.timers h

      by : (b : Bool) → All P (cond b (come_up (taken_off o (at, Sync n)) n) (ended (taken_off o (at, Sync n)) n)).state.timers
      by true = come_up_keeps (taken_off o (at, Sync n)) n left
      by false = ended_keeps (taken_off o (at, Sync n)) n (idle_at_wait o.state n sound (waits_to_end o.state at n sound first)) left

  pub fired_keeps : (pick : Pick) (o : Course) (entry : ℕ × Timer) → IsSound o.state → earliest o.state ≡ Some entry → All P o.state.timers
      → All P (fired pick o entry).state.timers
  unfolding fired
  fired_keeps pick o entry sound first h =
      let q = effect (taken_off o entry) entry.1 in
      subst (λ (entries : List (ℕ × Timer)). All P entries) (sym (settled_timers pick (ready_come_up q)))
      (ready_keeps q (effect_keeps o entry sound first h))
