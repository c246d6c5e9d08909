-- What a call that isn't refused leaves of the words and the records of a simulation (ours).
use Rattle.std.specs.Prelude.{◌≡◌, ◌+◌, ◌-◌, ◌++◌, length, take, drop, slice_set}
use Rattle.rh_base.specs.Exchanges.{back, backed, forth, forthed}
use Rattle.rh_state.specs.Edits.{exchange, turned}
use Rattle.rh_calls.specs.declared.call.Call.{Call}
use Rattle.rh_calls.specs.declared.call.Call.TheVariants as call
use Rattle.rh_trail.specs.Chain.{chain}
use Rattle.rh_trail.specs.SimView.{Held, record_at}

-- undo, redo and their like lead to the words of the chain where the cursor stands then; of a step, `chain` of the call says what
-- it keeps
abbrev pub LeavesWords : Held → Call → Held → Type 0
LeavesWords old (call.Step e) new = Unit {0}
LeavesWords old call.Undo new = new.words ≡ chain old (old.seen.cursor - 1)
LeavesWords old call.Redo new = new.words ≡ chain old (old.seen.cursor + 1)
LeavesWords old call.UndoAll new = new.words ≡ chain old 0
LeavesWords old call.RedoAll new = new.words ≡ chain old (length old.seen.trail)
LeavesWords old call.Look new = new.words ≡ old.words

-- a step keeps the records of the events that stand; undo, redo and their like turn each record that they pass, and keep the
-- others
abbrev pub LeavesRecords : Held → Call → Held → Type 0
LeavesRecords old (call.Step e) new = take old.seen.cursor new.records ≡ take old.seen.cursor old.records
LeavesRecords old call.Undo new =
    new.records ≡ slice_set old.records (old.seen.cursor - 1) (backed exchange turned old.words (record_at old (old.seen.cursor - 1)))
LeavesRecords old call.Redo new =
    new.records ≡ slice_set old.records old.seen.cursor (forthed exchange turned old.words (record_at old old.seen.cursor))
LeavesRecords old call.UndoAll new =
    new.records ≡ backed (back exchange) (backed exchange turned) old.words (take old.seen.cursor old.records) ++ drop old.seen.cursor old.records
LeavesRecords old call.RedoAll new =
    new.records ≡ take old.seen.cursor old.records ++ forthed (forth exchange) (forthed exchange turned) old.words (drop old.seen.cursor old.records)
LeavesRecords old call.Look new = new.records ≡ old.records
