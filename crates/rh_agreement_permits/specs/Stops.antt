-- Which calls that forbid a distributed application where it runs `run` and `run --rules otp25` answer alike by its stop: those behind
-- which no other node can run it (ours).
use Rattle.std.specs.Prelude.{◌≡◌, ◌≢◌, ◌<◌, ◌+◌, length, true, false, Some}
use Rattle.rh_model.specs.declared.node.App.{App}
use Rattle.rh_model.specs.declared.node.Node.{Node}
use Rattle.rh_rules.specs.declared.event.Event.TheVariants as event
use Rattle.rh_rules.specs.Course.{is_local}
use Rattle.rh_rules.specs.Placing.{is_operational}
use Rattle.rh_state.specs.StateView.{StateView, is_allowed, runs_at}
use Rattle.rh_trail.specs.SimView.{SimView, state_of}
use Rattle.rh_otp_controller.specs.Calls.{is_here}
use Rattle.rh_otp_dist.specs.declared.state.Stand.TheVariants as stand
use Rattle.rh_otp_dist.specs.Choosing.{backwards}
use Rattle.rh_otp_dist.specs.State.{DistView}
use Rattle.rh_otp_model.specs.Own.{controls}
use Rattle.rh_otp_model.specs.Rows.{keyfind, has_row}
use Rattle.rh_otp_moves.specs.Stopping.{StopsBehind}
use Rattle.rh_otp_node.specs.Live.{is_ending}
use Rattle.rh_otp_sim.specs.Acting.{most_moves}
use Rattle.rh_otp_sim.specs.Refusing.{node_in}
use Rattle.rh_otp_sim.specs.Sim.{LiveSimView}
use Rattle.rh_otp_system.specs.State.{own_at}
use Rattle.rh_agreement.specs.Telling.{GoTogether}
use Rattle.rh_agreement.specs.Laws.{HasRoom}
use Rattle.rh_agreement.specs.Resting.{AreBothAtRest, held}
use Rattle.rh_agreement_calls.specs.Stops.{IsStoppedAlike}

-- By the manual's rules the application is distributed, runs at the node and is permitted there, and can run at no other node.
pub record CanRunThereAlone (s : StateView) (n : Node) (a : App) : Type 0 where
  pub spread : is_local s.cluster a ≡ false
  pub runs : runs_at s n a ≡ true
  pub may : is_allowed s n a ≡ true
  pub nobody : (m : Node) → m.0 ≢ n.0 → is_operational s a m ≡ false

-- On the live node the application is one of its own `distributed`, and its controller has started it and runs it. Behind the forbid the
-- node's dist_ac knows of no node that may run it; each other node of the list that is alive and has it in its own `distributed` knows that
-- it may not run it itself. The dist_ac has synchronised, takes whatever comes, and can tell the others of the end; the node sees those of
-- the list that are alive, and isn't on its way to its end. The list and what its dist_ac knows are so short that with one message for
-- each node of either, and six more, the step isn't taken for one without end.
pub record StopsThereLive (live : LiveSimView) (n : Node) (a : App) : Type 0 where
  pub own : controls (own_at (held live) n) a ≡ true
  pub started : has_row a (node_in live n).controller.started ≡ true
  pub runs : is_here (keyfind a (node_in live n).controller.running) ≡ true
  pub dist : DistView
  pub has : (node_in live n).dist ≡ Some dist
  pub takes_all : dist.stand ≡ stand.Idle
  pub stops : StopsBehind n a (held live)
  pub stays : is_ending (node_in live n) ≡ false
  pub few : length (backwards (own_at (held live) n) a) + length dist.known + 6 < most_moves

-- Where both are at rest, such a forbid is answered alike, by `ok` and the stop alone, and leads to what is told alike; and both are at
-- rest again (application(3), permit/2; kernel(6), `distributed`).
abbrev pub ForbidsWhereItRunsAreAnsweredAlike : Type 0
ForbidsWhereItRunsAreAnsweredAlike = (sim : SimView) (live : LiveSimView) (n : Node) (a : App) → GoTogether sim live → HasRoom sim live
    → AreBothAtRest sim live → CanRunThereAlone (state_of sim) n a → StopsThereLive live n a
    → IsStoppedAlike (event.Permit n a false) n a sim live
