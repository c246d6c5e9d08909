-- A simulation may be handed from thread to thread, and threads may share one.
use denote.Param.Send.{IsSend, IsSync, sendable}
use Rattle.std.proofs.Crossing.{crosses}
use Rattle.rh_model.proofs.Crossing.{cluster_send, cluster_sync}
use Rattle.rh_state.proofs.Crossing.{state_send, state_sync}
use Rattle.rh_rules.proofs.event.Event.TheSendSync as event
use Rattle.rh_trail.specs.contracts.sim.Sim as Sim

pub sim_send : IsSend Sim.the_row
sim_send = search (cluster_send, cluster_sync, state_send, event.the_send, crosses, sendable) depth 60 fits 20000

pub sim_sync : IsSync Sim.the_row
sim_sync = search (cluster_send, cluster_sync, state_sync, event.the_sync, crosses, sendable) depth 60 fits 20000
