-- What the end of a node leaves as it was.
use Rattle.std.proofs.Common.{◌≡◌, ◌≢◌, ℕ, ◌+◌, ◌==◌, Bool, true, false, cond, List, [], ◌∷◌, fold, refl, ap, ◌∙◌, Some, unwrap_or, slice_get}
use Rattle.rh_model.specs.declared.node.Node.{Node}
use Rattle.rh_model.specs.declared.node.App.{App}
use Rattle.rh_state.specs.declared.status.Mode.TheVariants.{Down}
use Rattle.rh_state.specs.declared.status.Standing.{Standing}
use Rattle.rh_state.specs.declared.status.Standing.TheVariants.{Wanted, Running, Lost}
use Rattle.rh_state.specs.declared.status.Timer.TheVariants.{Failover}
use Rattle.rh_state.specs.Numbers.{same_node, apps_of}
use Rattle.rh_state.specs.Tables.{row}
use Rattle.rh_state.specs.StateView.{StateView, standing_of, running_at, waiting_at}
use Rattle.rh_state.specs.Setters.{with_standing, with_timer}
use Rattle.rh_rules.specs.Course.{Course}
use Rattle.rh_trace.proofs.Places.{at_set_there}
use Rattle.rh_rules.specs.NodesEnd.{timeout_of, cleared, lost_at, lost_from, lost_if_ran, all_lost, ended}
use Rattle.rh_events.specs.Laws.{EndLeavesOthers}
use Rattle.rh_events.proofs.Fields.{ended_modes}

-- what hangs neither on standings nor on timers stays while applications are lost
module _ {A : Type 0} (F : StateView → A) (standing : (s : StateView) (a : App) (st : Standing) → F (with_standing s a st) ≡ F s)
    (timer : (s : StateView) (due : ℕ) (a : App) → F (with_timer s due (Failover a)) ≡ F s) where
  one_lost : (n : Node) (s : StateView) (a : App) → F (lost_if_ran n s a) ≡ F s
  unfolding lost_if_ran
  one_lost n s a = by (standing_of s a)
    where
      at : (b : Bool) → F (cond b (with_standing s a (Wanted (Some n)))
          (with_timer (with_standing s a (Lost n)) (s.time + timeout_of s.cluster a) (Failover a))) ≡ F s
      at true = standing s a (Wanted (Some n))
      at false = timer (with_standing s a (Lost n)) (s.time + timeout_of s.cluster a) a ∙ standing s a (Lost n)

      there : (b : Bool) → F (cond b (lost_at s n a) s) ≡ F s
      there true = at (timeout_of s.cluster a == 0)
      there false = refl

      by : (st : Standing) → F (lost_from s n a st) ≡ F s
      by (Running m) = there (same_node m n)
      by _ = refl

  each_lost : (n : Node) (apps : List App) (s : StateView) → F (fold (lost_if_ran n) s apps) ≡ F s
  each_lost n [] s = refl
  each_lost n (a ∷ apps) s = each_lost n apps (lost_if_ran n s a) ∙ one_lost n s a

ended_running : (o : Course) (n m : Node) → m.0 ≢ n.0 → running_at (ended o n).state m ≡ running_at o.state m
unfolding ended all_lost cleared
ended_running o n m other =
    ap (λ table. row table m.0) (each_lost (λ s. s.running) (λ s a st. refl) (λ s due a. refl) n (apps_of o.state.cluster) (cleared o.state n))
    ∙ at_set_there o.state.running n.0 m.0 [] [] other

ended_waiting : (o : Course) (n m : Node) → m.0 ≢ n.0 → waiting_at (ended o n).state m ≡ waiting_at o.state m
unfolding ended all_lost cleared
ended_waiting o n m other =
    ap (λ table. row table m.0) (each_lost (λ s. s.waiting) (λ s a st. refl) (λ s due a. refl) n (apps_of o.state.cluster) (cleared o.state n))
    ∙ at_set_there o.state.waiting n.0 m.0 [] [] other

pub end_leaves_others : EndLeavesOthers
end_leaves_others o n m other = (
  ended_running o n m other,
  ended_waiting o n m other,
  ap (λ modes. unwrap_or (slice_get modes m.0) Down) (ended_modes o n) ∙ at_set_there o.state.modes n.0 m.0 Down Down other,
)
