-- What is said within a sweep on live nodes (ours).
use Rattle.std.specs.Prelude.{◌≡◌, List, [], Result, Ok, Err, Some, slice_get}
use Rattle.std.specs.Global.{Vec}
use Rattle.rh_base.specs.declared.memory.OutOfMemory.{OutOfMemory}
use Rattle.rh_otp_sim.specs.Sim.{LiveSimView, without_past}
use Rattle.rh_otp_sweep.specs.Outcomes.{LiveOutcomeView}

-- a worker's simulation is where the base is: no step is done, and what it would undo leads to these cells; the steps of an earlier plan may
-- still be there to be made again
pub record IsAtBase (sim base : LiveSimView) : Type 0 where
  pub same : without_past sim ≡ without_past base
  pub start : sim.history.cursor ≡ 0
  pub begins : slice_get sim.history.states 0 ≡ Some sim.history.now

-- what came of the plans that a worker was given
abbrev pub part_items : Result (Vec LiveOutcomeView) OutOfMemory → List LiveOutcomeView
part_items (Ok outcomes) = outcomes.items
part_items (Err e) = []
