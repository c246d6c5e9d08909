-- What a call at a node has to meet on both sides, so that it isn't refused.
use Rattle.std.proofs.Common.{◌≡◌, ◌<◌, true, not, cond, nat_lt, Option, Some, None, refl, sym, ◌∙◌}
use Rattle.std.proofs.lemmas.Bool.{lt-ltb}
use Rattle.std.proofs.lemmas.Option.{none-some}
use Rattle.rh_model.specs.ClusterView.{node_count, app_count}
use Rattle.rh_model.specs.declared.node.App.{App}
use Rattle.rh_model.specs.declared.node.Node.{Node}
use Rattle.rh_rules.specs.declared.event.Event.{Event}
use Rattle.rh_rules.specs.declared.refusal.Refusal.{Refusal}
use Rattle.rh_rules.specs.declared.refusal.Refusal.TheVariants.{UnknownNode, UnknownApp, NodeNotUp}
use Rattle.rh_rules.specs.Refusals.{refused}
use Rattle.rh_state.specs.StateView.{StateView, mode_of, is_up}
use Rattle.rh_trail.specs.SimView.{SimView, state_of}
use Rattle.rh_otp_sim.specs.Refusing.{refusal_of}
use Rattle.rh_otp_sim.specs.Sim.{LiveSimView, net_in}
use Rattle.rh_agreement.specs.Telling.{GoTogether}
use Rattle.rh_agreement.specs.Laws.{is_at_a_node}
use Rattle.rh_agreement.proofs.Refusing.{refused_too}

-- nothing that all calls at a node ask refuses it: the other tests count
pub by_hand : (s : StateView) (n : Node) (a : App) → n.0 < node_count s.cluster → a.0 < app_count s.cluster → is_up (mode_of s n) ≡ true
    → (others : Option Refusal) → cond (not (nat_lt n.0 (node_count s.cluster))) (Some UnknownNode)
    (cond (not (nat_lt a.0 (app_count s.cluster))) (Some UnknownApp) (cond (not (is_up (mode_of s n))) (Some NodeNotUp) others)) ≡ others
by_hand s n a inside known up others = λ i.
    cond (not (lt-ltb n.0 (node_count s.cluster) inside i)) (Some UnknownNode)
    (cond (not (lt-ltb a.0 (app_count s.cluster) known i)) (Some UnknownApp) (cond (not (up i)) (Some NodeNotUp) others))

-- what the manual's rules don't refuse can be given to a live node
pub not_refused : (sim : SimView) (l : LiveSimView) (e : Event) → GoTogether sim l → is_at_a_node e ≡ true → refused (state_of sim) e ≡ None
    → refusal_of (net_in l).clock e l ≡ None
not_refused sim l e together at fine = by (refusal_of (net_in l).clock e l) refl
  where
    by : (why : Option Refusal) → refusal_of (net_in l).clock e l ≡ why → refusal_of (net_in l).clock e l ≡ None
    by (Some why) is = absurd (none-some why (sym fine ∙ refused_too sim l e why together at is))
    by None is = is
