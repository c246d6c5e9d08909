-- What holds of a simulation of live nodes after any list of calls (ours).
use Rattle.std.specs.Prelude.{◌≡◌, List, [], ◌∷◌, true}
use Rattle.rh_model.specs.ClusterView.{ClusterView, node_count}
use Rattle.rh_history.specs.HistoryView.{IsClosed}
use Rattle.rh_calls.specs.declared.call.Call.{Call}
use Rattle.rh_otp_model.specs.declared.wait.OwnFile.{OwnFile}
use Rattle.rh_otp_net.specs.declared.order.Order.{Order}
use Rattle.rh_otp_system.specs.declared.cell.Cell.{Cell}
use Rattle.rh_otp_sim.specs.Sim.{LiveSimView, opened, first_cells, at_step_of, can_undo, can_redo, undone, redone}
use Rattle.rh_otp_sim.specs.Calls.{made_by}
use Rattle.rh_otp_sim.specs.Stepping.{with_step}

-- calls one after the other
abbrev pub behind : List Call → LiveSimView → LiveSimView
behind [] sim = sim
behind (call ∷ calls) sim = behind calls (made_by call sim)

pub record IsReversible (cells : List Cell) (sim : LiveSimView) : Type 0 where
  -- no step is half made
  pub closed : IsClosed sim.history
  -- redo makes what undo took back, and the other way round: the whole simulation is what it was
  pub made_again : can_undo sim ≡ true → redone (undone sim) ≡ sim
  pub taken_back : can_redo sim ≡ true → undone (redone sim) ≡ sim
  -- undoing all gives the cells in which no node has begun
  pub first : (at_step_of 0 sim).history.now ≡ cells
  -- any step that is written is undone: the cells, pending timers and open calls included, are as they were
  pub step_undone : (written : List Cell) → (undone (with_step written sim)).history.now ≡ sim.history.now

-- after any calls to a new simulation of any cluster, whatever its nodes' own files say and in which order messages are taken
abbrev pub LiveCallsAreReversible : Type 0
LiveCallsAreReversible = (cluster : ClusterView) (files : List OwnFile) (order : Order) (calls : List Call)
    → IsReversible (first_cells (node_count cluster)) (behind calls (opened cluster files order))
