-- A state may be handed from thread to thread, and threads may share one.
use denote.Param.Send.{IsSend, IsSync, sendable}
use Rattle.std.proofs.Crossing.{crosses}
use Rattle.rh_model.proofs.settings.Restart.TheSendSync as restart
use Rattle.rh_model.proofs.Crossing.{cluster_send, cluster_sync}
use Rattle.rh_wheel.proofs.wheel.Wheel.TheSendSync as wheel
use Rattle.rh_arena.proofs.lists.Lists.TheSendSync as links
use Rattle.rh_state.proofs.status.Kind.TheSendSync as kind
use Rattle.rh_state.proofs.status.Mode.TheSendSync as mode
use Rattle.rh_state.proofs.status.Standing.TheSendSync as standing
use Rattle.rh_state.proofs.table.Table.TheSendSync as table
use Rattle.rh_state.specs.contracts.state.State as State

pub state_send : IsSend State.the_row
state_send =
    search (
      cluster_send,
      cluster_sync,
      links.the_send,
      kind.the_send,
      mode.the_send,
      standing.the_send,
      restart.the_send,
      table.the_send,
      wheel.the_send,
      crosses,
      sendable,
    ) depth 60 fits 20000

pub state_sync : IsSync State.the_row
state_sync =
    search (
      cluster_send,
      cluster_sync,
      links.the_sync,
      kind.the_sync,
      mode.the_sync,
      standing.the_sync,
      restart.the_sync,
      table.the_sync,
      wheel.the_sync,
      crosses,
      sendable,
    ) depth 60 fits 20000
