-- Which takeovers by a call `run` and `run --rules otp25` refuse in the same words: where the application runs at the node of the call, and
-- where it runs nowhere that is known (ours).
use Rattle.std.specs.Prelude.{◌≡◌, true, Option, Some, None}
use Rattle.rh_model.specs.declared.node.App.{App}
use Rattle.rh_model.specs.declared.node.Node.{Node}
use Rattle.rh_model.specs.declared.settings.Restart.{Restart}
use Rattle.rh_rules.specs.declared.event.Event.TheVariants as event
use Rattle.rh_rules.specs.declared.refusal.Refusal.{Refusal}
use Rattle.rh_rules.specs.declared.refusal.Refusal.TheVariants as refusal
use Rattle.rh_rules.specs.Refusals.{refused}
use Rattle.rh_calls.specs.declared.call.Call.TheVariants as call
use Rattle.rh_trail.specs.Lone.{served}
use Rattle.rh_trail.specs.SimView.{SimView, state_of}
use Rattle.rh_otp_dist.specs.declared.state.Stand.TheVariants as stand
use Rattle.rh_otp_dist.specs.declared.state.Standing.{Standing}
use Rattle.rh_otp_dist.specs.declared.state.Standing.TheVariants as standing
use Rattle.rh_otp_dist.specs.State.{DistView, standing_of}
use Rattle.rh_otp_node.specs.Live.{LiveView}
use Rattle.rh_otp_sim.specs.Calls.{made_by}
use Rattle.rh_otp_sim.specs.Refusing.{node_in}
use Rattle.rh_otp_sim.specs.Sim.{LiveSimView}
use Rattle.rh_agreement.specs.Telling.{TellTheSame, GoTogether}
use Rattle.rh_agreement.specs.Laws.{IsAnsweredAlike, HasRoom}
use Rattle.rh_agreement.specs.Resting.{AreBothAtRest}

-- why a dist_ac that has the application so refuses to take it over, in the words of the manual's rules (dist_ac, handle_call/3 of
-- takeover_application)
abbrev pub refusal_at : Standing → Option Refusal
refusal_at standing.Local = Some refusal.RunsHere
refusal_at (standing.Distributed m) = None
refusal_at stands = Some refusal.NotRunning

-- The node's dist_ac takes whatever comes, has synchronised with the others, and refuses the takeover for this.
pub record RefusesFor (why : Refusal) (a : App) (v : LiveView) : Type 0 where
  pub dist : DistView
  pub has : v.dist ≡ Some dist
  pub takes_all : dist.stand ≡ stand.Idle
  pub synchronised : dist.is_synchronised ≡ true
  pub refuses : refusal_at (standing_of dist a) ≡ Some why

-- Where both are at rest, and both refuse a takeover for the same reason, they do so by the same text, both tell the same behind it, and
-- are at rest again. By the manual's rules nothing changes. (Live nodes were asked: so the call is a step there, which `undo` takes back,
-- and the two go together no more.)
abbrev pub TakeoversAreRefusedAlike : Type 0
TakeoversAreRefusedAlike = (sim : SimView) (live : LiveSimView) (n : Node) (a : App) (restart : Restart) (why : Refusal)
    → GoTogether sim live → HasRoom sim live → AreBothAtRest sim live → refused (state_of sim) (event.Takeover n a restart) ≡ Some why
    → RefusesFor why a (node_in live n)
    → IsAnsweredAlike (call.Step (event.Takeover n a restart)) sim live
    × ((served sim (call.Step (event.Takeover n a restart))).sim ≡ sim)
    × TellTheSame (state_of sim) (made_by (call.Step (event.Takeover n a restart)) live)
    × AreBothAtRest sim (made_by (call.Step (event.Takeover n a restart)) live)
