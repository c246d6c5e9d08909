-- A controller that begins (application_controller, init/2).
use Rattle.std.specs.Prelude.{List, [], Bool, false}
use Rattle.rh_model.specs.declared.node.App.{App}
use Rattle.rh_otp_controller.specs.State.{ControllerView}

-- nothing is started; the permissions are those of the file
abbrev pub first : List (App × Bool) → ControllerView
first permissions = record {
  running = [];
  starting = [];
  started = [];
  start_p_false = [];
  start_req = [];
  permissions = permissions;
  ended = [];
  is_ending = false;
}
