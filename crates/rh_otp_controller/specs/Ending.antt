-- The end of a controller (application_controller, terminate/2).
use Rattle.std.specs.Prelude.{List, [], ◌∷◌, Some}
use Rattle.rh_model.specs.declared.node.App.{App}
use Rattle.rh_otp_controller.specs.declared.state.Place.{Place}
use Rattle.rh_otp_controller.specs.State.{TurnView}
use Rattle.rh_otp_controller.specs.Sending.{stop_appl}

-- each of these that runs here stops
abbrev pub stop_each : List (App × Place) → TurnView → TurnView
stop_each [] t = t
stop_each (row ∷ rows) t = stop_each rows (stop_appl row.0 (Some row.1) t)

-- terminate/2: all that runs here stops
abbrev pub terminated : TurnView → TurnView
terminated t = stop_each t.state.running t
