-- What a controller sends and shows.
use Rattle.std.specs.Prelude.{List, [], ◌∷◌, ◌++◌, Bool, Option, Some, None, if◌then◌else◌}
use Rattle.rh_model.specs.declared.node.App.{App}
use Rattle.rh_otp_model.specs.declared.fault.Outcome.{Outcome}
use Rattle.rh_otp_model.specs.declared.message.Message.{Message}
use Rattle.rh_otp_model.specs.declared.message.Message.TheVariants.{Answer}
use Rattle.rh_otp_model.specs.declared.output.Event.{Event}
use Rattle.rh_otp_model.specs.declared.output.Event.TheVariants as event
use Rattle.rh_otp_model.specs.declared.output.Output.{Output}
use Rattle.rh_otp_model.specs.declared.output.Output.TheVariants.{Send, Tell}
use Rattle.rh_otp_model.specs.declared.process.Process.{Process}
use Rattle.rh_otp_model.specs.declared.process.Role.{Role}
use Rattle.rh_otp_model.specs.declared.process.Role.TheVariants as role
use Rattle.rh_otp_model.specs.Own.{controls}
use Rattle.rh_otp_model.specs.Processes.{process_at}
use Rattle.rh_otp_controller.specs.declared.state.Place.{Place}
use Rattle.rh_otp_controller.specs.declared.state.Place.TheVariants.{Here}
use Rattle.rh_otp_controller.specs.State.{TurnView}

-- with one more thing done
abbrev pub with_output : Output → TurnView → TurnView
with_output o t = record t { out = t.out ++ o ∷ [] }

-- it sends a message
abbrev pub send : Process → Message → TurnView → TurnView
send to message t = with_output (Send (record { from = process_at t.here role.Controller; to = to; message = message })) t

-- an observer sees this
abbrev pub tell : Event → TurnView → TurnView
tell e t = with_output (Tell e) t

-- gen_server:reply/2
abbrev pub reply : Process → Outcome → TurnView → TurnView
reply caller outcome t = send caller (Answer outcome) t

-- gen_server:reply/2 to who asked, if somebody did
abbrev pub reply_to : Option Process → Outcome → TurnView → TurnView
reply_to None outcome t = t
reply_to (Some caller) outcome t = reply caller outcome t

-- cntrl/3: tells dist_ac of an application that it controls
abbrev pub control : App → Message → TurnView → TurnView
control a message t = if controls t.own a then send (process_at t.here role.DistAc) message t else t

-- stop_appl/3: an application that runs here stops
abbrev pub stop_appl : App → Option Place → TurnView → TurnView
stop_appl a (Some Here) t = tell (event.Stopped a t.here.node) t
stop_appl a place t = t
