-- Which calls that end an application `run` and `run --rules otp25` answer alike: where it isn't distributed, and runs at the node (ours).
use Rattle.std.specs.Prelude.{◌≡◌, [], ◌∷◌, Bool, true, false}
use Rattle.rh_model.specs.declared.node.App.{App}
use Rattle.rh_model.specs.declared.node.Node.{Node}
use Rattle.rh_rules.specs.declared.event.Event.{Event}
use Rattle.rh_rules.specs.declared.event.Event.TheVariants as event
use Rattle.rh_rules.specs.declared.notice.Notice.TheVariants as notice
use Rattle.rh_rules.specs.ByHand.{ends_node}
use Rattle.rh_rules.specs.Course.{is_local}
use Rattle.rh_calls.specs.declared.call.Call.TheVariants as call
use Rattle.rh_calls.specs.declared.call.Reply.TheVariants as reply
use Rattle.rh_state.specs.StateView.{runs_at, is_allowed, restart_of}
use Rattle.rh_trail.specs.Lone.{served}
use Rattle.rh_trail.specs.SimView.{SimView, state_of}
use Rattle.rh_otp_controller.specs.Calls.{is_here, ends_with}
use Rattle.rh_otp_model.specs.Own.{controls}
use Rattle.rh_otp_model.specs.Rows.{keyfind}
use Rattle.rh_otp_node.specs.Live.{is_alive, is_ending}
use Rattle.rh_otp_sim.specs.Calls.{made_by}
use Rattle.rh_otp_sim.specs.Refusing.{node_in}
use Rattle.rh_otp_sim.specs.Sim.{LiveSimView}
use Rattle.rh_otp_system.specs.State.{own_at}
use Rattle.rh_agreement.specs.Telling.{GoTogether}
use Rattle.rh_agreement.specs.Laws.{IsAnsweredAlike, HasRoom}
use Rattle.rh_agreement.specs.Resting.{AreBothAtRest, held}

-- The application isn't distributed, neither in the cluster nor in the node's own file, and runs at the node on both sides. The live node
-- isn't on its way to its end.
pub record RunsAlone (n : Node) (a : App) (sim : SimView) (live : LiveSimView) : Type 0 where
  pub local : is_local (state_of sim).cluster a ≡ true
  pub own : controls (own_at (held live) n) a ≡ false
  pub runs : runs_at (state_of sim) n a ≡ true
  pub live_runs : is_here (keyfind a (node_in live n).controller.running) ≡ true
  pub stays : is_ending (node_in live n) ≡ false

-- The call is answered alike, by `ok` and the stop of the application alone, and leads to what is told alike; and both are at rest again.
abbrev pub IsStoppedAlike : Event → Node → App → SimView → LiveSimView → Type 0
IsStoppedAlike e n a sim live = IsAnsweredAlike (call.Step e) sim live
    × GoTogether (served sim (call.Step e)).sim (made_by (call.Step e) live)
    × AreBothAtRest (served sim (call.Step e)).sim (made_by (call.Step e) live)
    × ((served sim (call.Step e)).reply ≡ reply.Done (notice.Stopped a n ∷ []))

-- So is a stop of such an application (application(3), stop/1), where both are at rest.
abbrev pub StopsAreAnsweredAlike : Type 0
StopsAreAnsweredAlike = (sim : SimView) (live : LiveSimView) (n : Node) (a : App) → GoTogether sim live → HasRoom sim live
    → AreBothAtRest sim live → RunsAlone n a sim live → IsStoppedAlike (event.Stop n a) n a sim live

-- And a call that forbids it, where it was permitted (application(3), permit/2).
abbrev pub ForbidsAreAnsweredAlike : Type 0
ForbidsAreAnsweredAlike = (sim : SimView) (live : LiveSimView) (n : Node) (a : App) → GoTogether sim live → HasRoom sim live
    → AreBothAtRest sim live → RunsAlone n a sim live → is_allowed (state_of sim) n a ≡ true
    → IsStoppedAlike (event.Permit n a false) n a sim live

-- Such an end of the application keeps the node on both sides, by the restart type that each knows (application(3), restart types); and no
-- live node is on its way to its end, for which such a call waits.
pub record KeepsNodes (n : Node) (a : App) (normal : Bool) (sim : SimView) (live : LiveSimView) : Type 0 where
  pub keeps : ends_node (restart_of (state_of sim) n a) normal ≡ false
  pub live_keeps : ends_with (keyfind a (node_in live n).controller.started) normal ≡ false
  pub stay : (m : Node) → is_alive (node_in live m) ≡ true → is_ending (node_in live m) ≡ false

-- And the end of its top process, normal or not, where that keeps the node.
abbrev pub ExitsAreAnsweredAlike : Type 0
ExitsAreAnsweredAlike = (sim : SimView) (live : LiveSimView) (n : Node) (a : App) (normal : Bool) → GoTogether sim live → HasRoom sim live
    → AreBothAtRest sim live → RunsAlone n a sim live → KeepsNodes n a normal sim live
    → IsStoppedAlike (event.Exit n a normal) n a sim live
