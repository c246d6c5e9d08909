-- Any list of calls keeps the first state, and can be taken back.
use Rattle.std.proofs.Common.{◌≡◌, suc, zero, ℕ, ◌+◌, ◌-◌, ◌<◌, List, [], ◌∷◌, length, take, replicate, get_or, set, refl, sym, ap, subst, ◌∙◌, arith}
use Rattle.std.proofs.lemmas.List.{length-set, length-take-le, length_push, get_or_append_left, get_or-take}
use Rattle.std.proofs.lemmas.List.Elements.{All-nil, All-cons, All-push, All-take, All-get_or}
use Rattle.std.specs.Prelude.{All}
use Rattle.rh_history.specs.HistoryView.{HistoryView, IsHistory, IsClosed, at_step, committed}
use Rattle.rh_history.specs.Laws.{Call, Put, RollBack, Commit, Undo, Redo, UndoAll, RedoAll, Makes, Make, puts, IsReversible, CallsAreReversible}
use Rattle.rh_history.proofs.Seen.{stands, at_step_closed}

-- what each call keeps
record IsFrom {T : Type 0} (cells : List T) (h : HistoryView T) : Type 0 where
  history : IsHistory h
  first : get_or h.states 0 [] ≡ cells

module _ {T : Type 0} (cells : List T) where
  at_step_from : (h : HistoryView T) (k : ℕ) → k < length h.states → IsFrom cells h → IsFrom cells (at_step h k)
  at_step_from h k inside from =
      let P : List T → Type 0 = λ v. length v ≡ length h.now in
      let same : length (get_or h.states k []) ≡ length h.now = All-get_or P h.states k [] inside from.history.long in
      record {
        history = record { within = inside; long = subst (λ n. All (λ v. length v ≡ n) h.states) (sym same) from.history.long };
        first = from.first;
      }

  put_from : (h : HistoryView T) (at : ℕ) (value : T) → IsFrom cells h → IsFrom cells (record h { now = set h.now at value })
  put_from h at value from = record {
    history = record {
      within = from.history.within;
      long = subst (λ n. All (λ v. length v ≡ n) h.states) (sym (length-set h.now at value)) from.history.long;
    };
    first = from.first;
  }

  committed_from : (h : HistoryView T) → IsFrom cells h → IsFrom cells (committed h)
  committed_from h from =
      let P : List T → Type 0 = λ v. length v ≡ length h.now in
      let kept : length (take (h.cursor + 1) h.states) ≡ h.cursor + 1 =
      length-take-le (h.cursor + 1) h.states (omega (arith, from.history.within)) in
      record {
        history = record {
          within = omega (arith, length_push (take (h.cursor + 1) h.states) h.now, kept);
          long = All-push P (take (h.cursor + 1) h.states) h.now (All-take P (h.cursor + 1) h.states from.history.long) refl;
        };
        first =
            get_or_append_left (take (h.cursor + 1) h.states) (h.now ∷ []) [] 0 (omega (arith, kept))
            ∙ get_or-take (h.cursor + 1) h.states 0 [] (omega arith)
            ∙ from.first;
      }

  makes_from : (h : HistoryView T) (call : Call T) (new : HistoryView T) → IsFrom cells h → Makes h call new → IsFrom cells new
  makes_from h (Put at value) new from made = subst (IsFrom cells) (sym made.1) (put_from h at value from)
  makes_from h RollBack new from made = subst (IsFrom cells) (sym made) (at_step_from h h.cursor from.history.within from)
  makes_from h Commit new from made = subst (IsFrom cells) (sym made) (committed_from h from)
  makes_from h Undo new from made = subst (IsFrom cells) (sym made.2) (at_step_from h (h.cursor - 1) (omega (arith, from.history.within)) from)
  makes_from h Redo new from made = subst (IsFrom cells) (sym made.2) (at_step_from h (h.cursor + 1) made.1 from)
  makes_from h UndoAll new from made = subst (IsFrom cells) (sym made.1) (at_step_from h 0 (omega (arith, from.history.within)) from)
  makes_from h RedoAll new from made =
      subst (IsFrom cells) (sym made.1) (at_step_from h (length h.states - 1) (omega (arith, from.history.within)) from)

  make_from : (calls : List (Call T)) (h new : HistoryView T) → IsFrom cells h → Make h calls new → IsFrom cells new
  make_from [] h new from made = subst (IsFrom cells) (sym made) from
  make_from (call ∷ calls) h new from made = make_from calls made.0 new (makes_from h call made.0 from made.1) made.2

  fresh_from : IsFrom cells (record { now = cells; states = cells ∷ []; cursor = 0 })
  fresh_from =
      let P : List T → Type 0 = λ v. length v ≡ length cells in
      record { history = record { within = omega arith; long = All-cons P cells [] refl (All-nil P) }; first = refl }

-- writes leave the steps
record KeepsSteps {T : Type 0} (old new : HistoryView T) : Type 0 where
  states : new.states ≡ old.states
  cursor : new.cursor ≡ old.cursor

puts_keep : {T : Type 0} (writes : List (ℕ × T)) (h new : HistoryView T) → Make h (puts writes) new → KeepsSteps h new
puts_keep [] h new made = record { states = ap (λ v. v.states) made; cursor = ap (λ v. v.cursor) made }
puts_keep (w ∷ writes) h new made =
    let later : KeepsSteps made.0 new = puts_keep writes made.0 new made.2 in
    record { states = later.states ∙ ap (λ v. v.states) made.1.1; cursor = later.cursor ∙ ap (λ v. v.cursor) made.1.1 }

-- a history that stands behind a step, after it was left and reached again
returned : {T : Type 0} (h m n : HistoryView T) (j k : ℕ) → IsClosed h → m ≡ at_step h j → n ≡ at_step m k → k ≡ h.cursor → n ≡ h
returned h m n j k closed left back at =
    back ∙ (λ i. at_step (left i) (at i)) ∙ sym (stands h h h.cursor refl closed refl)

-- so many steps back, and forth
back_to : {T : Type 0} (k : ℕ) (h m : HistoryView T) → h.cursor < length h.states → IsClosed h → Make h (replicate k Undo) m → m ≡ at_step h (h.cursor - k)
back_to zero h m within closed made = made ∙ stands h h (h.cursor - 0) refl closed (omega arith)
back_to (suc k) h m within closed made =
    let next : made.0 ≡ at_step h (h.cursor - 1) = made.1.2 in
    let inside : h.cursor - 1 < length h.states = omega (arith, within) in
    let there : IsClosed made.0 = subst IsClosed (sym next) (at_step_closed h (h.cursor - 1) inside) in
    let reach : made.0.cursor < length made.0.states = subst (λ v. v.cursor < length v.states) (sym next) inside in
    let fewer : h.cursor - 1 - k ≡ h.cursor - suc k = omega arith in
    back_to k made.0 m reach there made.2 ∙ (λ i. at_step (next i) ((next i).cursor - k)) ∙ ap (at_step h) fewer

forth_to : {T : Type 0} (k : ℕ) (h m : HistoryView T) → IsClosed h → Make h (replicate k Redo) m → m ≡ at_step h (h.cursor + k)
forth_to zero h m closed made = made ∙ stands h h (h.cursor + 0) refl closed (omega arith)
forth_to (suc k) h m closed made =
    let next : made.0 ≡ at_step h (h.cursor + 1) = made.1.2 in
    let there : IsClosed made.0 = subst IsClosed (sym next) (at_step_closed h (h.cursor + 1) made.1.1) in
    let more : h.cursor + 1 + k ≡ h.cursor + suc k = omega arith in
    forth_to k made.0 m there made.2 ∙ (λ i. at_step (next i) ((next i).cursor + k)) ∙ ap (at_step h) more

module _ {T : Type 0} (cells : List T) (h : HistoryView T) (from : IsFrom cells h) where
  redone : (m n : HistoryView T) → Makes h Undo m → Makes m Redo n → n ≡ h
  redone m n undo redo =
      let at : m.cursor ≡ h.cursor - 1 = ap (λ v. v.cursor) undo.2 in
      returned h m n (h.cursor - 1) (m.cursor + 1) undo.0 undo.2 redo.2 (omega (arith, at, undo.1))

  undone : (m n : HistoryView T) → Makes h Redo m → Makes m Undo n → n ≡ h
  undone m n redo undo =
      let at : m.cursor ≡ h.cursor + 1 = ap (λ v. v.cursor) redo.2 in
      returned h m n (h.cursor + 1) (m.cursor - 1) redo.0 redo.2 undo.2 (omega (arith, at))

  rolled_back : (writes : List (ℕ × T)) (m n : HistoryView T) → IsClosed h → Make h (puts writes) m → Makes m RollBack n → n ≡ h
  rolled_back writes m n closed put rolled =
      let kept : KeepsSteps h m = puts_keep writes h m put in
      rolled
      ∙ (λ i. record { now = get_or (kept.states i) (kept.cursor i) []; states = kept.states i; cursor = kept.cursor i })
      ∙ sym (stands h h h.cursor refl closed refl)

  step_undone : (writes : List (ℕ × T)) (m n o : HistoryView T) → IsClosed h → Make h (puts writes) m → Makes m Commit n → Makes n Undo o
      → o.now ≡ h.now
  step_undone writes m n o closed put commit undo =
      let kept : KeepsSteps h m = puts_keep writes h m put in
      let inside : m.cursor < length m.states = omega (arith, kept.cursor, ap length kept.states, from.history.within) in
      let front : length (take (m.cursor + 1) m.states) ≡ m.cursor + 1 = length-take-le (m.cursor + 1) m.states (omega (arith, inside)) in
      let at : n.cursor - 1 ≡ m.cursor = omega (arith, ap (λ v. v.cursor) commit) in
      ap (λ v. v.now) undo.2
      ∙ (λ i. get_or (commit i).states (at i) [])
      ∙ get_or_append_left (take (m.cursor + 1) m.states) (m.now ∷ []) [] m.cursor (omega (arith, front))
      ∙ get_or-take (m.cursor + 1) m.states m.cursor [] (omega arith)
      ∙ (λ i. get_or (kept.states i) (kept.cursor i) [])
      ∙ sym (ap (λ v. v.now) (stands h h h.cursor refl closed refl))

  reversible : IsReversible cells h
  reversible = record {
    history = from.history;
    redone = redone;
    undone = undone;
    back_to = λ k m closed made. back_to k h m from.history.within closed made;
    forth_to = λ k m closed made. forth_to k h m closed made;
    first = λ m undo. ap (λ v. v.now) undo.1 ∙ from.first;
    rolled_back = rolled_back;
    step_undone = step_undone;
  }

pub calls_reversible : (T : Type 0) → CallsAreReversible T
calls_reversible T cells calls h made =
    reversible cells h (make_from cells calls (record { now = cells; states = cells ∷ []; cursor = 0 }) h (fresh_from cells) made)
