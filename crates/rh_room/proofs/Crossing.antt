-- A room may be handed from thread to thread.
use denote.Param.Send.{IsSend, sendable}
use Rattle.std.proofs.Crossing.{crosses}
use Rattle.rh_trail.proofs.Crossing.{sim_send}
use Rattle.rh_room.proofs.pass.Entry.TheSendSync as entry
use Rattle.rh_room.specs.contracts.room.Room as Room

pub room_send : IsSend Room.the_row
room_send = search (sim_send, entry.the_send, crosses, sendable) depth 60 fits 20000
