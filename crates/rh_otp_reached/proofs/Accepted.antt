-- A node that begins is one of the cluster, and isn't alive: else its beginning is refused.
use Rattle.std.proofs.Common.{◌≡◌, ◌<◌, ℕ, Bool, true, false, cond, not, nat_le, Option, Some, None, refl, sym, ap}
use Rattle.std.proofs.lemmas.Bool.{ltb-true}
use Rattle.std.proofs.lemmas.Option.{none-some}
use Rattle.rh_model.specs.ClusterView.{node_count}
use Rattle.rh_model.specs.declared.node.Node.{Node}
use Rattle.rh_rules.specs.declared.event.Event.{Event}
use Rattle.rh_rules.specs.declared.event.Event.TheVariants as event
use Rattle.rh_rules.specs.declared.refusal.Refusal.{Refusal}
use Rattle.rh_rules.specs.declared.refusal.Refusal.TheVariants as refusal
use Rattle.rh_otp_node.specs.Live.{is_down, is_alive}
use Rattle.rh_otp_sim.specs.Refusing.{has_node, phase_in, life_in, node_in, or_full, is_full, refused, refusal_of}
use Rattle.rh_otp_sim.specs.Sim.{LiveSimView}

none_by : (full : Bool) (why : Option Refusal) → or_full full why ≡ None → why ≡ None
none_by full None none = refl
none_by full (Some why) none = absurd (none-some why (sym none))

pub accepted : (clock last : ℕ) (e : Event) (sim : LiveSimView) → refused clock last e sim ≡ None → refusal_of clock e sim ≡ None
accepted clock last e sim none = none_by (is_full last sim) (refusal_of clock e sim) none

boots_by : (is_node is_down is_many : Bool)
    → cond (not is_node) (Some refusal.UnknownNode) (cond (not is_down) (Some refusal.AlreadyAlive) (cond is_many (Some refusal.IncarnationLimit) None)) ≡ None
    → (is_node ≡ true) × (is_down ≡ true)
boots_by true true is_many none = (refl, refl)
boots_by true false is_many none = absurd (none-some refusal.AlreadyAlive (sym none))
boots_by false is_down is_many none = absurd (none-some refusal.UnknownNode (sym none))

pub boots_down : (clock : ℕ) (n : Node) (sim : LiveSimView) → refusal_of clock (event.Boot n) sim ≡ None
    → (n.0 < node_count sim.cluster) × (is_alive (node_in sim n) ≡ false)
boots_down clock n sim none =
    let both : (has_node sim n ≡ true) × (is_down (phase_in sim n) ≡ true) =
    boots_by (has_node sim n) (is_down (phase_in sim n)) (nat_le 9999 (life_in sim n)) none in
    (ltb-true n.0 (node_count sim.cluster) both.0, ap (λ (b : Bool). cond b false true) both.1)
