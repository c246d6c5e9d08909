-- One timer fires: what its effect asks, and what that keeps.
use Rattle.std.proofs.Common.{◌≡◌, ℕ, Bool, true, false, cond, List, [], Some, IsNone, is_some, All, refl, sym, ap, ◌∙◌, subst}
use Rattle.rh_model.specs.ClusterView.{IsWithin, mandatory_of}
use Rattle.rh_model.specs.declared.node.Node.{Node}
use Rattle.rh_model.specs.declared.node.App.{App}
use Rattle.rh_state.specs.declared.status.Standing.{Standing}
use Rattle.rh_state.specs.declared.status.Standing.TheVariants.{Running, Lost}
use Rattle.rh_state.specs.declared.status.Timer.{Timer}
use Rattle.rh_state.specs.declared.status.Timer.TheVariants.{Sync, Failover}
use Rattle.rh_state.specs.Shape.{IsTimerOf}
use Rattle.rh_state.specs.Setters.{with_time, without_due}
use Rattle.rh_state.specs.StateView.{StateView, standing_of, due_of, earliest, running_at, waiting_at}
use Rattle.rh_rules.specs.declared.notice.Pair.{Pair}
use Rattle.rh_rules.specs.Course.{Course}
use Rattle.rh_trace.specs.Traces.{IsPairOf}
use Rattle.rh_trace.specs.Validity.{IsSound}
use Rattle.rh_rules.specs.NodesStart.{all_alive, come_up}
use Rattle.rh_rules.specs.NodesEnd.{ended, wanted_if_lost}
use Rattle.rh_events.proofs.Losing.{due_without_sync}
use Rattle.rh_events.proofs.Marked.{marked_come_up, ended_marked}
use Rattle.rh_events.proofs.SoundComingUp.{idle_waits, come_up_cluster}
use Rattle.rh_events.proofs.Fields.{ended_cluster}
use Rattle.rh_rules.specs.Time.{effect}
use Rattle.rh_events.proofs.Requirements.{unset_failover}
use Rattle.rh_step.proofs.TakenOff.{waits_to_end}

-- the state in which the first timer takes effect
abbrev pub at_due : StateView → ℕ → Timer → StateView
at_due s due timer = with_time (without_due s timer) due

module _ (s : StateView) (due : ℕ) (timer : Timer) (sound : IsSound s) (first : earliest s ≡ Some (due, timer)) where
  idle : (n : Node) → timer ≡ Sync n → (running_at s n ≡ []) × (waiting_at s n ≡ [])
  idle n is = idle_waits s n sound (waits_to_end s due n sound (first ∙ ap (λ (t : Timer). Some (due, t)) is))

  pub none_runs : (n : Node) → timer ≡ Sync n → running_at (at_due s due timer) n ≡ []
  none_runs n is = (idle n is).0

  pub none_waits : (n : Node) → timer ≡ Sync n → waiting_at (at_due s due timer) n ≡ []
  none_waits n is = (idle n is).1

  pub none_timed : (n : Node) (a : App) → timer ≡ Sync n → standing_of (at_due s due timer) a ≡ Running n → IsNone (due_of (at_due s due timer) (Failover a))
  none_timed n a is stands =
      subst (λ (t : Timer). IsNone (due_of (at_due s due t) (Failover a))) (sym is)
      (ap is_some (due_without_sync a n s.timers) ∙ unset_failover s n sound a stands)

pub effect_cluster : (o : Course) (t : Timer) → (effect o t).state.cluster ≡ o.state.cluster
effect_cluster o (Sync n) = by (all_alive o.state (mandatory_of o.state.cluster n))
  where
    by : (b : Bool) → (cond b (come_up o n) (ended o n)).state.cluster ≡ o.state.cluster
    by true = come_up_cluster o n
    by false = ended_cluster o n
effect_cluster o (Failover a) = by (standing_of o.state a)
  where
    by : (standing : Standing) → (wanted_if_lost o.state a standing).cluster ≡ o.state.cluster
    by (Lost n) = refl
    by _ = refl

pub effect_marked : (o : Course) (t : Timer) → IsTimerOf o.state.cluster t → IsWithin o.state.cluster → All (IsPairOf o.state.cluster) o.marked
    → All (IsPairOf o.state.cluster) (effect o t).marked
effect_marked o (Sync n) here within before = by (all_alive o.state (mandatory_of o.state.cluster n))
  where
    by : (b : Bool) → All (IsPairOf o.state.cluster) (cond b (come_up o n) (ended o n)).marked
    by true = marked_come_up o.state.cluster o n refl within here before
    by false = subst (λ (ps : List Pair). All (IsPairOf o.state.cluster) ps) (sym (ended_marked o n)) before
effect_marked o (Failover a) here within before = before
