-- What callers see of a simulation: the trail of its accepted events, and a cursor in it (ours).
use Rattle.std.specs.Prelude.{ℕ, List, [], take, slice_index_or}
use Rattle.rh_model.specs.ClusterView.{ClusterView}
use Rattle.rh_rules.specs.declared.event.Event.{Event}
use Rattle.rh_rules.specs.declared.pick.Pick.{Pick}
use Rattle.rh_state.specs.StateView.{StateView}
use Rattle.rh_state.specs.Stored.{Stored}
use Rattle.rh_state.specs.declared.edit.Edit.{Edit}
use Rattle.rh_step.specs.Runs.{after}

pub record SimView : Type 0 where
  pub cluster : ClusterView
  pub pick : Pick
  -- the events that stand, and behind them those that can be made again
  pub trail : List Event
  -- how many events stand
  pub cursor : ℕ

-- its state is that after the events up to the cursor
abbrev pub state_of : SimView → StateView
state_of s = after s.cluster s.pick (take s.cursor s.trail)

-- all that a simulation is by its contracts: also the words of its state, and what each event of the trail changed
pub record Held : Type 0 where
  pub seen : SimView
  pub words : Stored
  pub records : List (List Edit)

-- what an event of the trail changed
abbrev pub record_at : Held → ℕ → List Edit
record_at s k = slice_index_or s.records k []
