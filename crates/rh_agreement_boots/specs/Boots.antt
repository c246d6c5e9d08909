-- Which boots `run` and `run --rules otp25` answer alike, and what that says: that of the first node, where it waits for others (ours).
use Rattle.std.specs.Prelude.{◌≡◌, ◌<◌, ◌++◌, [], true, false, None}
use Rattle.rh_model.specs.ClusterView.{node_count, is_in, mandatory_of, optional_of}
use Rattle.rh_model.specs.declared.node.Node.{Node}
use Rattle.rh_rules.specs.declared.event.Event.TheVariants as event
use Rattle.rh_rules.specs.NodesStart.{booted, is_ready}
use Rattle.rh_rules.specs.Refusals.{refused}
use Rattle.rh_calls.specs.declared.call.Call.TheVariants as call
use Rattle.rh_calls.specs.declared.call.Reply.TheVariants as reply
use Rattle.rh_trail.specs.Lone.{served}
use Rattle.rh_trail.specs.SimView.{SimView, state_of}
use Rattle.rh_otp_node.specs.declared.node.Phase.TheVariants as phase
use Rattle.rh_otp_node.specs.Live.{is_ending}
use Rattle.rh_otp_sim.specs.Calls.{made_by}
use Rattle.rh_otp_sim.specs.Refusing.{phase_in}
use Rattle.rh_otp_sim.specs.Sim.{LiveSimView}
use Rattle.rh_otp_system.specs.State.{node_at, wait_at, is_alive_at}
use Rattle.rh_otp_laws.specs.Acting.{IsThere}
use Rattle.rh_otp_waits.specs.Waits.{HasItWait, AllSeeAll}
use Rattle.rh_agreement.specs.Telling.{GoTogether}
use Rattle.rh_agreement.specs.Laws.{IsAnsweredAlike, HasRoom}
use Rattle.rh_agreement.specs.Resting.{AreBothAtRest, held}

-- Each two live nodes that are alive see one another, and none is on its way to its end, for which a boot waits.
pub record StayInTouch (live : LiveSimView) : Type 0 where
  pub see : AllSeeAll (held live)
  pub stay : (m : Node) → is_alive_at (held live) m ≡ true → is_ending (node_at (held live) m) ≡ false

-- Both answer the boot alike and come to what is told alike, both are at rest behind it, and the live nodes stay in touch. Where it isn't
-- refused, the answer is `ok` alone.
abbrev pub IsBootedAlike : Node → SimView → LiveSimView → Type 0
IsBootedAlike n sim live = IsAnsweredAlike (call.Step (event.Boot n)) sim live
    × GoTogether (served sim (call.Step (event.Boot n))).sim (made_by (call.Step (event.Boot n)) live)
    × AreBothAtRest (served sim (call.Step (event.Boot n))).sim (made_by (call.Step (event.Boot n)) live)
    × (refused (state_of sim) (event.Boot n) ≡ None → (served sim (call.Step (event.Boot n))).reply ≡ reply.Done [])
    × StayInTouch (made_by (call.Step (event.Boot n)) live)

-- No node is alive, and this one waits for others once it has begun: by the manual's rules it isn't ready then, and on live nodes its own
-- file has it wait. Its lists don't name the node itself. (And if it is one of the cluster's nodes there is a cell for it: that is so of
-- each simulation that was given calls.)
pub record BeginsToWait (n : Node) (sim : SimView) (live : LiveSimView) : Type 0 where
  pub alone : (m : Node) → phase_in live m ≡ phase.Down
  pub waits : is_ready (booted (state_of sim) n) n ≡ false
  pub live_waits : HasItWait (wait_at (held live) n)
  pub others : is_in n (mandatory_of live.cluster n ++ optional_of live.cluster n) ≡ false
  pub there : n.0 < node_count live.cluster → IsThere n (held live)

-- Where both are at rest, such a boot is answered by both alike and leads to what is told alike; both are at rest again, and the live nodes
-- stay in touch. Where it isn't refused, the answer is `ok` alone.
abbrev pub FirstBootsAreAnsweredAlike : Type 0
FirstBootsAreAnsweredAlike = (sim : SimView) (live : LiveSimView) (n : Node) → GoTogether sim live → HasRoom sim live
    → AreBothAtRest sim live → BeginsToWait n sim live → IsBootedAlike n sim live
