-- Which calls that end an application `run` and `run --rules otp25` answer alike, whether it is distributed or not: where it runs at the
-- node, and where it only waits there (ours).
use Rattle.std.specs.Prelude.{◌≡◌, ◌<◌, ◌+◌, ◌||◌, [], length, Bool, true, false, Some}
use Rattle.rh_model.specs.declared.node.App.{App}
use Rattle.rh_model.specs.declared.node.Node.{Node}
use Rattle.rh_rules.specs.declared.event.Event.{Event}
use Rattle.rh_rules.specs.declared.event.Event.TheVariants as event
use Rattle.rh_calls.specs.declared.call.Call.TheVariants as call
use Rattle.rh_calls.specs.declared.call.Reply.TheVariants as reply
use Rattle.rh_state.specs.StateView.{runs_at, waits_at}
use Rattle.rh_trail.specs.Lone.{served}
use Rattle.rh_trail.specs.SimView.{SimView, state_of}
use Rattle.rh_otp_controller.specs.Calls.{is_here}
use Rattle.rh_otp_dist.specs.State.{DistView}
use Rattle.rh_otp_model.specs.Own.{controls}
use Rattle.rh_otp_model.specs.Rows.{keyfind, has_row}
use Rattle.rh_otp_node.specs.Live.{is_ending}
use Rattle.rh_otp_sim.specs.Acting.{most_moves}
use Rattle.rh_otp_sim.specs.Calls.{made_by}
use Rattle.rh_otp_sim.specs.Refusing.{node_in}
use Rattle.rh_otp_sim.specs.Sim.{LiveSimView}
use Rattle.rh_otp_system.specs.State.{own_at}
use Rattle.rh_otp_stops.specs.Stops.{CanEnd}
use Rattle.rh_agreement.specs.Telling.{GoTogether}
use Rattle.rh_agreement.specs.Laws.{IsAnsweredAlike, HasRoom}
use Rattle.rh_agreement.specs.Resting.{AreBothAtRest, held}
use Rattle.rh_agreement_calls.specs.Stops.{IsStoppedAlike, KeepsNodes}

-- The live node isn't on its way to its end. Where the application is one of its own `distributed`, its dist_ac can tell the others of the
-- end, and knows so few nodes that with one message for each of them, and three more, the step isn't taken for one without end.
pub record CanEndThere (n : Node) (a : App) (live : LiveSimView) : Type 0 where
  pub stays : is_ending (node_in live n) ≡ false
  pub ends : CanEnd n a (held live)
  pub few : controls (own_at (held live) n) a ≡ true → (d : DistView) → (node_in live n).dist ≡ Some d → length d.known + 3 < most_moves

-- The application runs at the node on both sides, and can end there.
pub record RunsOnBoth (n : Node) (a : App) (sim : SimView) (live : LiveSimView) : Type 0 where
  pub runs : runs_at (state_of sim) n a ≡ true
  pub live_runs : is_here (keyfind a (node_in live n).controller.running) ≡ true
  pub can : CanEndThere n a live

-- Where both are at rest, a stop of it there is answered alike (application(3), stop/1).
abbrev pub StopsWhereItRunsAreAnsweredAlike : Type 0
StopsWhereItRunsAreAnsweredAlike = (sim : SimView) (live : LiveSimView) (n : Node) (a : App) → GoTogether sim live → HasRoom sim live
    → AreBothAtRest sim live → RunsOnBoth n a sim live → IsStoppedAlike (event.Stop n a) n a sim live

-- And the end of its top process, normal or not, where that keeps the node (application(3), restart types).
abbrev pub ExitsWhereItRunsAreAnsweredAlike : Type 0
ExitsWhereItRunsAreAnsweredAlike = (sim : SimView) (live : LiveSimView) (n : Node) (a : App) (normal : Bool) → GoTogether sim live
    → HasRoom sim live → AreBothAtRest sim live → RunsOnBoth n a sim live → KeepsNodes n a normal sim live
    → IsStoppedAlike (event.Exit n a normal) n a sim live

-- By the manual's rules the application waits at the node; on live nodes its controller has it in a list, but not as one that runs there.
-- Wherever else it runs.
pub record WaitsOnBoth (n : Node) (a : App) (sim : SimView) (live : LiveSimView) : Type 0 where
  pub waits : waits_at (state_of sim) n a ≡ true
  pub live_waits : (has_row a (node_in live n).controller.running || has_row a (node_in live n).controller.started) ≡ true
  pub live_runs_not : is_here (keyfind a (node_in live n).controller.running) ≡ false
  pub can : CanEndThere n a live

-- The call is answered alike, by `ok` alone, and leads to what is told alike; and both are at rest again.
abbrev pub IsLeftAlike : Event → SimView → LiveSimView → Type 0
IsLeftAlike e sim live = IsAnsweredAlike (call.Step e) sim live
    × GoTogether (served sim (call.Step e)).sim (made_by (call.Step e) live)
    × AreBothAtRest (served sim (call.Step e)).sim (made_by (call.Step e) live)
    × ((served sim (call.Step e)).reply ≡ reply.Done [])

-- So is a stop where the application waits (application(3), stop/1).
abbrev pub StopsWhereItWaitsAreAnsweredAlike : Type 0
StopsWhereItWaitsAreAnsweredAlike = (sim : SimView) (live : LiveSimView) (n : Node) (a : App) → GoTogether sim live → HasRoom sim live
    → AreBothAtRest sim live → WaitsOnBoth n a sim live → IsLeftAlike (event.Stop n a) sim live
