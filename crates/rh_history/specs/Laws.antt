-- What holds of a history after any list of calls (ours).
use Rattle.std.specs.Prelude.{◌≡◌, ◌<◌, ◌+◌, ◌-◌, ℕ, List, [], ◌∷◌, length, map, replicate, slice_set}
use Rattle.rh_history.specs.HistoryView.{HistoryView, IsHistory, IsClosed, at_step, committed}

-- the calls that change a history, each named after its function
pub data Call (T : Type 0) : Type 0 where
  Put : ℕ → T → Call T
  RollBack : Call T
  Commit : Call T
  Undo : Call T
  Redo : Call T
  UndoAll : Call T
  RedoAll : Call T

-- what a call makes of a history, where there is memory for it: what its function requires, and the result that it ensures
abbrev pub Makes : {T : Type 0} → HistoryView T → Call T → HistoryView T → Type 0
Makes h (Put at value) new = (at < length h.now) × (new ≡ record h { now = slice_set h.now at value })
Makes h RollBack new = new ≡ at_step h h.cursor
Makes h Commit new = new ≡ committed h
Makes h Undo new = IsClosed h × (0 < h.cursor) × (new ≡ at_step h (h.cursor - 1))
Makes h Redo new = IsClosed h × (h.cursor + 1 < length h.states) × (new ≡ at_step h (h.cursor + 1))
Makes h UndoAll new = IsClosed h × (new ≡ at_step h 0)
Makes h RedoAll new = IsClosed h × (new ≡ at_step h (length h.states - 1))

-- calls one after the other
abbrev pub Make : {T : Type 0} → HistoryView T → List (Call T) → HistoryView T → Type 0
Make h [] new = new ≡ h
Make {T} h (call ∷ calls) new = (next : HistoryView T) × Makes h call next × Make next calls new

-- the writes of some cells, each with its value
abbrev pub puts : {T : Type 0} → List (ℕ × T) → List (Call T)
puts writes = map (λ w. Put w.0 w.1) writes

pub record IsReversible {T : Type 0} (cells : List T) (h : HistoryView T) : Type 0 where
  pub history : IsHistory h
  -- redo makes what undo took back, and the other way round
  pub redone : (m n : HistoryView T) → Makes h Undo m → Makes m Redo n → n ≡ h
  pub undone : (m n : HistoryView T) → Makes h Redo m → Makes m Undo n → n ≡ h
  -- to any depth: k undos lead k steps back, and k redos k steps forth
  pub back_to : (k : ℕ) (m : HistoryView T) → IsClosed h → Make h (replicate k Undo) m → m ≡ at_step h (h.cursor - k)
  pub forth_to : (k : ℕ) (m : HistoryView T) → IsClosed h → Make h (replicate k Redo) m → m ≡ at_step h (h.cursor + k)
  -- undoing all gives the cells that the history began with
  pub first : (m : HistoryView T) → Makes h UndoAll m → m.now ≡ cells
  -- any writes leave no trace where they are rolled back
  pub rolled_back : (writes : List (ℕ × T)) (m n : HistoryView T) → IsClosed h → Make h (puts writes) m → Makes m RollBack n → n ≡ h
  -- and where they are closed as a step that is undone, the cells are as they were
  pub step_undone : (writes : List (ℕ × T)) (m n o : HistoryView T) → IsClosed h → Make h (puts writes) m → Makes m Commit n → Makes n Undo o
      → o.now ≡ h.now

-- after any calls to a new history of any cells
abbrev pub CallsAreReversible : Type 0 → Type 0
CallsAreReversible T = (cells : List T) (calls : List (Call T)) (h : HistoryView T)
    → Make (record { now = cells; states = cells ∷ []; cursor = 0 }) calls h → IsReversible cells h
