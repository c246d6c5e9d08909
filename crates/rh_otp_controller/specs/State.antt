-- The state of an application_controller, and a turn of it (application_controller.erl, the record `state`).
use Rattle.std.specs.Prelude.{List, Bool, Option}
use Rattle.rh_model.specs.ClusterView.{ClusterView}
use Rattle.rh_model.specs.declared.node.App.{App}
use Rattle.rh_model.specs.declared.settings.Restart.{Restart}
use Rattle.rh_otp_model.specs.declared.output.Output.{Output}
use Rattle.rh_otp_model.specs.declared.process.Here.{Here}
use Rattle.rh_otp_model.specs.declared.process.Process.{Process}
use Rattle.rh_otp_model.specs.Own.{OwnView}
use Rattle.rh_otp_controller.specs.declared.state.Place.{Place}
use Rattle.rh_otp_controller.specs.declared.state.Starting.{Starting}

-- What is new stands in front. `ended` are the applications that have ended by themselves since they were started last, which an
-- observer knows.
pub record ControllerView : Type 0 where
  pub running : List (App × Place)
  pub starting : List (App × Starting)
  pub started : List (App × Option Restart)
  pub start_p_false : List (App × Restart)
  pub start_req : List (App × Option Process)
  pub permissions : List (App × Bool)
  pub ended : List App
  pub is_ending : Bool

-- a turn: what the process knows of itself, its state, and what it has done so far
pub record TurnView : Type 0 where
  pub cluster : ClusterView
  pub own : OwnView
  pub here : Here
  pub state : ControllerView
  pub out : List Output
