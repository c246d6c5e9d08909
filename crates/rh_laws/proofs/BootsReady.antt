-- Which nodes come up at a boot.
use Rattle.std.proofs.Common.{◌≡◌, ◌&&◌, ◌||◌, ◌++◌, ◌∷◌, [], ◌∙◌, List, Bool, true, false, cond, slice_get, slice_set, unwrap_or, refl, ap, sym, inl, inr, arith}
use Rattle.std.specs.List.{list_all}
use Rattle.std.proofs.lemmas.Bool.Decides.{eqb_tells}
use Rattle.rh_model.specs.ClusterView.{ClusterView, mandatory_of, optional_of, sync_wait_of}
use Rattle.rh_model.specs.declared.node.Node.{Node}
use Rattle.rh_model.specs.declared.settings.SyncWait.{SyncWait}
use Rattle.rh_model.specs.declared.settings.SyncWait.TheVariants.{Unset, After, Forever}
use Rattle.rh_state.specs.declared.status.Mode.{Mode}
use Rattle.rh_state.specs.declared.status.Mode.TheVariants.{Down, Waiting}
use Rattle.rh_state.specs.Numbers.{same_node}
use Rattle.rh_state.specs.Shape.{IsShaped, IsNodeOf}
use Rattle.rh_state.specs.StateView.{StateView, mode_of, is_alive, is_waiting}
use Rattle.rh_rules.specs.NodesStart.{booted, is_ready, all_alive, has_others}
use Rattle.rh_rules.specs.declared.event.Event.TheVariants.{Boot}
use Rattle.rh_trace.proofs.Places.{at_set_here, at_set_there}
use Rattle.rh_events.proofs.Fields.{booted_same}
use Rattle.rh_events.proofs.ModesKept.{booted_modes}
use Rattle.rh_step_findings.specs.After.{comes_up, is_alive_with, has_others_with}

module _ (s : StateView) (b : Node) (shape : IsShaped s) (known : IsNodeOf s.cluster b) where
  mode_behind : (n : Node) → mode_of (booted s b) n ≡ cond (same_node b n) Waiting (mode_of s n)
  mode_behind n =
      ap (λ (modes : List Mode). unwrap_or (slice_get modes n.0) Down) (booted_modes s b)
      ∙ elim (eqb_tells b.0 n.0) [
        | inl same ↦ rw same.0 (ap (λ k. unwrap_or (slice_get (slice_set s.modes b.0 Waiting) k) Down) (sym same.1)
            ∙ at_set_here s.modes b.0 Waiting Down (let e = shape.modes in omega (arith, e, known)))
        | inr other ↦ rw other.0 (at_set_there s.modes b.0 n.0 Waiting Down (λ e. other.1 (sym e)))
      ]

  waits_behind : (n : Node) → is_waiting (mode_of (booted s b) n) ≡ (same_node b n || is_waiting (mode_of s n))
  waits_behind n = ap is_waiting (mode_behind n) ∙ by (same_node b n)
    where
      by : (t : Bool) → is_waiting (cond t Waiting (mode_of s n)) ≡ (t || is_waiting (mode_of s n))
      by true = refl
      by false = refl

  alive_behind : (n : Node) → is_alive (mode_of (booted s b) n) ≡ is_alive_with s b n
  alive_behind n = ap is_alive (mode_behind n) ∙ by (same_node b n)
    where
      by : (t : Bool) → is_alive (cond t Waiting (mode_of s n)) ≡ (t || is_alive (mode_of s n))
      by true = refl
      by false = refl

  all_behind : (nodes : List Node) → all_alive (booted s b) nodes ≡ list_all (is_alive_with s b) nodes
  unfolding all_alive
  all_behind [] = refl
  all_behind (n ∷ nodes) =
      ap (λ t. t && all_alive (booted s b) nodes) (alive_behind n) ∙ ap (λ t. is_alive_with s b n && t) (all_behind nodes)

  others_behind : (n : Node) (wait : SyncWait) → has_others (booted s b) n wait ≡ has_others_with s b n wait
  others_behind n Unset = refl
  others_behind n (After ms) =
      ap (λ (c : ClusterView). all_alive (booted s b) (mandatory_of c n ++ optional_of c n)) (booted_same s b).cluster
      ∙ all_behind (mandatory_of s.cluster n ++ optional_of s.cluster n)
  others_behind n Forever =
      ap (λ (c : ClusterView). all_alive (booted s b) (mandatory_of c n ++ optional_of c n)) (booted_same s b).cluster
      ∙ all_behind (mandatory_of s.cluster n ++ optional_of s.cluster n)

  pub comes_up_if_ready : (n : Node) → comes_up s (Boot b) n ≡ is_ready (booted s b) n
  unfolding comes_up is_ready
  comes_up_if_ready n =
      sym (ap (λ t. t && has_others (booted s b) n (sync_wait_of (booted s b).cluster n)) (waits_behind n)
      ∙ ap (λ (c : ClusterView). (same_node b n || is_waiting (mode_of s n)) && has_others (booted s b) n (sync_wait_of c n)) (booted_same s b).cluster
      ∙ ap (λ t. (same_node b n || is_waiting (mode_of s n)) && t) (others_behind n (sync_wait_of s.cluster n)))
