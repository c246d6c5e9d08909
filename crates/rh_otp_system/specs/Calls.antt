-- Calls of an operator (application.erl).
use Rattle.std.specs.Prelude.{Bool, true, false}
use Rattle.rh_otp_model.specs.declared.message.Message.{Message}
use Rattle.rh_otp_model.specs.declared.message.Message.TheVariants as message
use Rattle.rh_otp_model.specs.declared.process.Process.{Process}
use Rattle.rh_otp_model.specs.declared.process.Role.TheVariants as role
use Rattle.rh_otp_system.specs.declared.calls.Ask.{Ask}
use Rattle.rh_otp_system.specs.declared.calls.Ask.TheVariants as ask
use Rattle.rh_otp_system.specs.declared.calls.Call.{Call}
use Rattle.rh_otp_system.specs.declared.calls.Stage.{Stage}
use Rattle.rh_otp_system.specs.declared.calls.Stage.TheVariants as stage

-- its process
abbrev pub process_of : Call → Process
process_of call = record { role = role.Call call.number; node = call.node; life = call.life }

abbrev pub first_by : Ask → Call → Message
first_by (ask.Start restart) call = message.Start call.app restart (process_of call)
first_by ask.Stop call = message.Stop call.app (process_of call)
first_by (ask.Permit allow) call = message.Permit call.app allow (process_of call)
first_by (ask.Takeover restart) call = message.Start call.app restart (process_of call)
first_by (ask.Exit is_normal) call = message.TopEnds call.app is_normal (process_of call)

-- what it sends to the controller at first; a takeover doesn't ask it
abbrev pub message_of : Call → Message
message_of call = first_by call.ask call

abbrev pub second_by : Ask → Call → Message
second_by (ask.Start restart) call = message.TakeOver call.app restart (process_of call)
second_by (ask.Takeover restart) call = message.TakeOver call.app restart (process_of call)
second_by (ask.Permit allow) call = message.PermitDistributed call.app allow call.only_loaded (process_of call)
second_by a call = message.PermitDistributed call.app false call.only_loaded (process_of call)

-- what it asks of dist_ac once it has the lock; only takeovers and permissions do
abbrev pub second_of : Call → Message
second_of call = second_by call.ask call

abbrev pub is_takeover : Ask → Bool
is_takeover (ask.Takeover restart) = true
is_takeover a = false

abbrev pub is_permit : Ask → Bool
is_permit (ask.Permit allow) = true
is_permit a = false

abbrev pub is_done : Stage → Bool
is_done (stage.Done outcome) = true
is_done s = false
