-- What a caller asks of a simulation of live nodes, and is answered (ours).
use Rattle.std.specs.Prelude.{◌-◌, length, if◌then◌else◌}
use Rattle.rh_calls.specs.declared.call.Call.{Call}
use Rattle.rh_calls.specs.declared.call.Call.TheVariants as call
use Rattle.rh_otp_sim.specs.declared.calls.LiveReply.{LiveReply}
use Rattle.rh_otp_sim.specs.declared.calls.LiveReply.TheVariants as reply
use Rattle.rh_otp_sim.specs.Sim.{LiveSimView, at_step_of, can_undo, can_redo, undone, redone}
use Rattle.rh_otp_sim.specs.Stepping.{stepped, outcome_of}

-- what a call makes of a simulation; a look changes nothing
abbrev pub made_by : Call → LiveSimView → LiveSimView
made_by (call.Step e) sim = stepped e sim
made_by call.Undo sim = undone sim
made_by call.Redo sim = redone sim
made_by call.UndoAll sim = at_step_of 0 sim
made_by call.RedoAll sim = at_step_of (length sim.history.states - 1) sim
made_by call.Look sim = sim

-- what it is answered
abbrev pub reply_to : Call → LiveSimView → LiveReply
reply_to (call.Step e) sim = reply.Step (outcome_of e sim)
reply_to call.Undo sim = if can_undo sim then reply.Undone else reply.AtStart
reply_to call.Redo sim = if can_redo sim then reply.Redone else reply.AtEnd
reply_to call.UndoAll sim = reply.Moved sim.history.cursor
reply_to call.RedoAll sim = reply.Moved (length sim.history.states - 1 - sim.history.cursor)
reply_to call.Look sim = reply.Seen
