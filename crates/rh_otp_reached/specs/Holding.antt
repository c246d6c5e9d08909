-- The states of live nodes that a simulation holds (ours).
use Rattle.std.specs.Prelude.{◌<◌, ℕ, false, List, length}
use Rattle.rh_model.specs.ClusterView.{ClusterView}
use Rattle.rh_calls.specs.declared.call.Call.{Call}
use Rattle.rh_otp_model.specs.declared.wait.OwnFile.{OwnFile}
use Rattle.rh_otp_net.specs.declared.order.Order.{Order}
use Rattle.rh_otp_system.specs.State.{SystemView, system_of}
use Rattle.rh_otp_sim.specs.Laws.{behind}
use Rattle.rh_otp_sim.specs.Sim.{LiveSimView, opened, net_in, at_step_of}
use Rattle.rh_otp_laws.specs.Acting.{IsReached, IsNoneDueBefore}
use Rattle.rh_otp_laws.specs.Lives.{IsListed}
use Rattle.rh_otp_laws.specs.Locking.{IsOneName}

-- the nodes and what is between them, as a simulation holds them between two commands: nothing is on its way
abbrev pub state_of : LiveSimView → SystemView
state_of sim = system_of sim.cluster sim.files sim.history.now (net_in sim) false

-- what can be relied on in the state that a simulation holds
pub record IsLive (sim : LiveSimView) : Type 0 where
  -- live nodes reach it
  pub reached : IsReached (state_of sim)
  -- no timer is overdue
  pub in_time : IsNoneDueBefore (net_in sim).clock (net_in sim).timers
  -- at each node at most one name has global's lock
  pub one_name : IsOneName (net_in sim).locks
  -- the list of those that are alive has exactly these, and each once
  pub listed : IsListed (state_of sim)

-- now, and with any number of steps done: wherever undo and redo lead
pub record IsAlwaysLive (sim : LiveSimView) : Type 0 where
  pub now : IsLive sim
  pub each : (k : ℕ) → k < length sim.history.states → IsLive (at_step_of k sim)

-- after any calls to a new simulation of any cluster, whatever its nodes' own files say and in which order messages are taken
abbrev pub LiveStatesAreReached : Type 0
LiveStatesAreReached = (cluster : ClusterView) (files : List OwnFile) (order : Order) (calls : List Call)
    → IsAlwaysLive (behind calls (opened cluster files order))
