-- Threads may share a simulation of live nodes.
use denote.Param.Send.{IsSync, sendable}
use Rattle.std.proofs.Crossing.{crosses}
use Rattle.rh_history.proofs.history.History.TheSendSync as history
use Rattle.rh_model.proofs.Crossing.{cluster_send, cluster_sync}
use Rattle.rh_otp_model.proofs.wait.OwnFile.TheSendSync as own_file
use Rattle.rh_otp_system.proofs.cell.Cell.TheSendSync as cell
use Rattle.rh_otp_sim.specs.contracts.sim.LiveSim as LiveSim

pub live_sim_sync : IsSync LiveSim.the_row
live_sim_sync = search (cluster_sync, own_file.the_send, own_file.the_sync, cell.the_sync, history.the_sync, crosses, sendable) depth 60 fits 20000
