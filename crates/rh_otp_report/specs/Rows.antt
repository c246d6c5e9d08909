-- What runs at a node, waits there, and is being started (ours: what application:info/0 shows of a controller's lists).
use Rattle.std.specs.Prelude.{List, [], ◌++◌, ◌&&◌, not, map, filter, reverse, Bool, Option, Some, None, unwrap_or, if◌then◌else◌}
use Rattle.rh_model.specs.declared.node.App.{App}
use Rattle.rh_model.specs.declared.settings.Restart.{Restart}
use Rattle.rh_otp_controller.specs.declared.state.Place.{Place}
use Rattle.rh_otp_controller.specs.declared.state.Starting.{Starting}
use Rattle.rh_otp_controller.specs.State.{ControllerView}
use Rattle.rh_otp_model.specs.declared.process.StartType.{StartType}
use Rattle.rh_otp_model.specs.declared.process.StartType.TheVariants.{Normal}
use Rattle.rh_otp_model.specs.Rows.{keyfind}
use Rattle.rh_otp_node.specs.Live.{LiveView, is_up}
use Rattle.rh_otp_sim.specs.Waiting.{is_here, has_ended_by_itself}
use Rattle.rh_otp_report.specs.declared.rows.Runs.{Runs}
use Rattle.rh_otp_report.specs.declared.rows.Waits.{Waits}

abbrev pub known : Option (Option Restart) → Option Restart
known (Some restart) = restart
known None = None

-- with which restart type the application was started, if that is known
abbrev pub restart_of : App → ControllerView → Option Restart
restart_of a k = known (keyfind a k.started)

-- how it was started last
abbrev pub kind_of : App → LiveView → StartType
kind_of a v = unwrap_or (keyfind a v.kinds) Normal

-- what is told of one that runs
abbrev pub runs_of : LiveView → App → Runs
runs_of v a = record { app = a; restart = restart_of a v.controller; kind = kind_of a v }

-- does it run here?
abbrev pub runs_here : App × Place → Bool
runs_here row = is_here (Some row.1)

-- what runs, what was started last in front
abbrev pub running_rows : LiveView → List Runs
running_rows v = map (λ row. runs_of v row.0) (filter runs_here v.controller.running)

-- what runs at a node that is up, in the order of its starts
abbrev pub running_at : LiveView → List Runs
running_at v = if is_up v then reverse (running_rows v) else []

-- does one that is started wait here? One that has ended by itself doesn't.
abbrev pub waits_here : App → ControllerView → Bool
waits_here a k = not (is_here (keyfind a k.running)) && not (has_ended_by_itself a k)

abbrev pub waits_as : App → Option Restart → Waits
waits_as a restart = record { app = a; restart = restart }

-- what is started and waits, what was started last in front
abbrev pub waiting_rows : ControllerView → List Waits
waiting_rows k = map (λ row. waits_as row.0 row.1) (filter (λ row. waits_here row.0 k) k.started)

-- what was started while it was forbidden, and waits, likewise
abbrev pub forbidden_rows : ControllerView → List Waits
forbidden_rows k = map (λ row. waits_as row.0 (Some row.1)) (filter (λ row. waits_here row.0 k) k.start_p_false)

-- what waits at a node that is up: what was started while it was forbidden, and the rest, each in the order of the starts
abbrev pub waiting_at : LiveView → List Waits
waiting_at v = if is_up v then reverse (waiting_rows v.controller ++ forbidden_rows v.controller) else []

abbrev pub app_of : App × Starting → App
app_of row = row.0

-- what is being started at a node that is up, in the order in which that began
abbrev pub starting_at : LiveView → List App
starting_at v = if is_up v then reverse (map app_of v.controller.starting) else []
