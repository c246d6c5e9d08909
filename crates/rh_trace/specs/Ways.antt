-- How far a part of a step went: what it changed can be taken back, and what was told before it stays (ours).
use Rattle.std.specs.Prelude.{◌≡◌, ◌++◌, true, List}
use Rattle.rh_state.specs.declared.edit.Edit.{Edit}
use Rattle.rh_state.specs.Edits.{exchange, is_done}
use Rattle.rh_state.specs.Records.{Grows}
use Rattle.rh_state.specs.Stored.{Stored}
use Rattle.rh_rules.specs.declared.notice.Notice.{Notice}
use Rattle.rh_trace.specs.Traces.{TraceView}

-- notices were added behind those that were told
pub record Tells (old new : List Notice) : Type 0 where
  pub more : List Notice
  pub is : new ≡ old ++ more

-- nothing is told, marked or freed between them
pub record TellsNothing (old new : TraceView) : Type 0 where
  pub notices : new.notices ≡ old.notices
  pub marked : new.marked ≡ old.marked
  pub freed : new.freed ≡ old.freed

-- the edit is done, and leads back from w to v
pub record LeadsBack (v : Stored) (e : Edit) (w : Stored) : Type 0 where
  pub done : is_done e ≡ true
  pub exact : exchange w e ≡ v

-- the way from a state and its trace to a later one: the edits that were added lead back to the state, word for word, over
-- states that are well formed; and the notices only grew
pub record Goes (v : Stored) (old : TraceView) (w : Stored) (new : TraceView) : Type 0 where
  pub edits : Grows v old.edits w new.edits
  pub notices : Tells old.notices new.notices
