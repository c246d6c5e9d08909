-- Calls that haven't returned (ours).
use Rattle.std.specs.Prelude.{List, ◌&&◌, not, Bool, false, Option, Some, None, if◌then◌else◌}
use Rattle.std.specs.List.{filter_map}
use Rattle.rh_otp_node.specs.Live.{LiveView}
use Rattle.rh_otp_sim.specs.Sim.{LiveSimView, live_in}
use Rattle.rh_otp_system.specs.Calls.{is_done}
use Rattle.rh_otp_system.specs.declared.calls.Call.{Call}
use Rattle.rh_otp_report.specs.declared.calls.OpenCall.{OpenCall}
use Rattle.rh_otp_report.specs.NodeTimers.{lives}

abbrev pub is_open_at : Option LiveView → Call → Bool
is_open_at None call = false
is_open_at (Some v) call = not (is_done call.stage) && lives v call.life

-- hasn't it returned, and is its node still alive?
abbrev pub is_open : LiveSimView → Call → Bool
is_open sim call = is_open_at (live_in sim call.node) call

-- what is told of a call, if it is open
abbrev pub open_call : LiveSimView → Call → Option OpenCall
open_call sim call = if is_open sim call then Some (record { ask = call.ask; node = call.node; app = call.app }) else None

-- those of these calls that are open, in their order
abbrev pub open_calls : LiveSimView → List Call → List OpenCall
open_calls sim calls = filter_map (open_call sim) calls
