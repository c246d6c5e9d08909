-- By the manual's rules the last node of a cold start is the last one: it isn't refused, and all others wait.
use Rattle.std.proofs.Common.{◌≡◌, ◌≢◌, ◌<◌, ◌==◌, not, nat_lt, [], ◌∷◌, None, sym, ap, subst, ◌∙◌}
use Rattle.std.proofs.lemmas.Bool.{lt-ltb, ltb-true}
use Rattle.rh_model.specs.ClusterView.{ClusterView, node_count}
use Rattle.rh_model.specs.declared.node.Node.{Node}
use Rattle.rh_state.specs.declared.status.Mode.TheVariants as mode
use Rattle.rh_state.specs.Limits.{incarnation_limit}
use Rattle.rh_state.specs.StateView.{StateView, mode_of, incarnation_of, is_alive}
use Rattle.rh_rules.specs.declared.event.Event.TheVariants as event
use Rattle.rh_rules.specs.declared.pick.Pick.{Pick}
use Rattle.rh_rules.specs.declared.refusal.Refusal.TheVariants.{UnknownNode, AlreadyAlive, IncarnationLimit}
use Rattle.rh_rules.specs.Refusals.{refused, first_that_applies}
use Rattle.rh_rules.specs.Steps.{next}
use Rattle.rh_start_laws.specs.Starts.{StartsInOrder, IsLast, HasStarted, LastBootsStartAll, start_told}
use Rattle.rh_trace.specs.Validity.{IsValid}
use Rattle.rh_trail.specs.SimView.{SimView, state_of}
use Rattle.rh_otp_node.specs.Live.{LiveView, never_begun}
use Rattle.rh_otp_node.specs.declared.node.Phase.TheVariants as phase
use Rattle.rh_otp_sim.specs.Refusing.{phase_in, node_in}
use Rattle.rh_otp_sim.specs.Sim.{LiveSimView}
use Rattle.rh_otp_system.specs.Resting.{forgotten}
use Rattle.rh_otp_laws.specs.Acting.{IsThere}
use Rattle.rh_otp_colds.proofs.Starting.{is_there_so, listed_alive, unlisted_dead}
use Rattle.rh_otp_colds.proofs.Starting.{there_so as is_there_if}
use Rattle.rh_agreement.specs.Telling.{GoTogether, mode_of_phase}
use Rattle.rh_agreement.specs.Resting.{AreBothAtRest, held}
use Rattle.rh_agreement_colds.specs.Colds.{StartsCold}

-- a node begins, where there is one of that number, it isn't alive, and has never begun
not_refused : (s : StateView) (n : Node) → n.0 < node_count s.cluster → mode_of s n ≡ mode.Down → incarnation_of s n ≡ 0
    → refused s (event.Boot n) ≡ None
unfolding refused
not_refused s n within down new = λ i.
    first_that_applies ((not (lt-ltb n.0 (node_count s.cluster) within i), UnknownNode) ∷ (is_alive (down i), AlreadyAlive)
    ∷ (new i == incarnation_limit, IncarnationLimit) ∷ [])

-- the law, where the cluster is known under another name
started_by : LastBootsStartAll → (s : StateView) (n : Node) (pick : Pick) (c : ClusterView) → s.cluster ≡ c → (order : StartsInOrder c)
    → IsValid s → refused s (event.Boot n) ≡ None → IsLast s n
    → HasStarted s n order.at (next s (event.Boot n) pick).state × ((next s (event.Boot n) pick).notices ≡ start_told c order.at)
started_by law s n pick c same order valid fine last =
    subst (λ (d : ClusterView). (f : StartsInOrder d) → HasStarted s n f.at (next s (event.Boot n) pick).state
    × ((next s (event.Boot n) pick).notices ≡ start_told d f.at)) same (λ f. law s n pick valid fine f last) order

module _ (sim : SimView) (l : LiveSimView) (n : Node) (together : GoTogether sim l) (at_rest : AreBothAtRest sim l)
    (starts : StartsCold n sim l) where
  abbrev pub s : StateView
  s = state_of sim

  pub cluster_so : (held l).cluster ≡ s.cluster
  unfolding forgotten
  cluster_so = together.now.cluster

  -- a number that the cluster has is a node's
  pub there_so : (m : Node) → m.0 < node_count s.cluster → IsThere m (held l)
  there_so m within =
      is_there_so (held l) m
      (starts.can.nodes m ∙ (λ i. nat_lt m.0 (node_count (cluster_so i))) ∙ lt-ltb m.0 (node_count s.cluster) within)

  pub within_so : (m : Node) → IsThere m (held l) → m.0 < node_count s.cluster
  within_so m there =
      ltb-true m.0 (node_count s.cluster)
      (sym (λ i. nat_lt m.0 (node_count (cluster_so i))) ∙ sym (starts.can.nodes m) ∙ is_there_if (held l) m there)

  pub within : n.0 < node_count s.cluster
  within = within_so n starts.left.there

  -- the node has never begun
  pub never : node_in l n ≡ never_begun
  unfolding forgotten
  never = starts.cold.new n (unlisted_dead (held l) starts.cold n starts.left.down)

  pub down_so : mode_of s n ≡ mode.Down
  down_so = sym (together.now.modes n within) ∙ ap (λ (v : LiveView). mode_of_phase v.phase) never

  pub new_so : incarnation_of s n ≡ 0
  new_so = sym (together.now.begun n within) ∙ ap (λ (v : LiveView). v.life) never

  pub fine : refused s (event.Boot n) ≡ None
  fine = not_refused s n within down_so new_so

  -- each other one waits
  waits_live : (m : Node) → m.0 < node_count s.cluster → m.0 ≢ n.0 → phase_in l m ≡ phase.Waiting
  unfolding forgotten
  waits_live m within_m other =
      ap (λ (v : LiveView). v.phase)
      (starts.cold.begun m (listed_alive (held l) starts.cold m (starts.left.others m (there_so m within_m) other))).node

  waits_so : (m : Node) → m.0 < node_count s.cluster → m.0 ≢ n.0 → mode_of s m ≡ mode.Waiting
  waits_so m within_m other = sym (together.now.modes m within_m) ∙ ap mode_of_phase (waits_live m within_m other)

  pub is_last : IsLast s n
  is_last = record { others = waits_so; quiet = starts.quiet }

  pub started : LastBootsStartAll → HasStarted s n starts.order.at (next s (event.Boot n) sim.pick).state
      × ((next s (event.Boot n) sim.pick).notices ≡ start_told sim.cluster starts.order.at)
  started law =
      started_by law s n sim.pick sim.cluster (sym together.now.cluster ∙ together.cluster) starts.order at_rest.valid fine is_last
