-- Any list of calls to a simulation of live nodes can be taken back.
use Rattle.std.proofs.Common.{◌≡◌, ℕ, suc, zero, ◌+◌, ◌-◌, ◌<◌, nat_lt, Bool, true, false, cond, List, [], ◌∷◌, ◌++◌, Option, Some, None, slice_get, length, take, get_or, refl, sym, ap, subst, ◌∙◌, arith}
use Rattle.std.proofs.lemmas.List.{length-take-le, length_push, get_or_append_left, get_or-take}
use Rattle.std.proofs.lemmas.Bool.{ltb-true, lt-ltb, false≢true}
use Rattle.std.proofs.lemmas.Option.{get_or_from_slice_get}
use Rattle.rh_model.specs.ClusterView.{ClusterView, node_count}
use Rattle.rh_history.specs.HistoryView.{HistoryView, IsClosed, at_step, committed}
use Rattle.rh_history.proofs.Seen.{stands, at_step_closed}
use Rattle.rh_rules.specs.declared.event.Event.{Event}
use Rattle.rh_rules.specs.declared.refusal.Refusal.{Refusal}
use Rattle.rh_otp_model.specs.declared.wait.OwnFile.{OwnFile}
use Rattle.rh_otp_system.specs.declared.cell.Cell.{Cell}
use Rattle.rh_otp_sim.specs.Refusing.{refused}
use Rattle.rh_otp_sim.specs.Sim.{LiveSimView, opened, first_cells, at_step_of, can_undo, can_redo, undone, redone, net_in}
use Rattle.rh_otp_sim.specs.Stepping.{stepped, stepped_if, with_step, ends_with, cells_behind, system_with}
use Rattle.rh_otp_system.specs.Views.{NetView}
use Rattle.rh_calls.specs.declared.call.Call.{Call}
use Rattle.rh_calls.specs.declared.call.Call.TheVariants.{Step, Undo, Redo, UndoAll, RedoAll, Look}
use Rattle.rh_otp_sim.specs.Calls.{made_by}
use Rattle.rh_otp_sim.specs.Laws.{behind, IsReversible, LiveCallsAreReversible}

-- what each call keeps
record IsFrom (first : List Cell) (h : HistoryView Cell) : Type 0 where
  within : h.cursor < length h.states
  closed : IsClosed h
  begins : get_or h.states 0 [] ≡ first

-- what stands behind a list stands at its length
last_closed : (states : List (List Cell)) (cells : List Cell) (k : ℕ) → k ≡ length states → slice_get (states ++ cells ∷ []) k ≡ Some cells
last_closed [] cells k is = ap (slice_get (cells ∷ [])) is
last_closed (state ∷ states) cells zero is = absurd (omega (arith, is))
last_closed (state ∷ states) cells (suc k) is = last_closed states cells k (omega (arith, is))

at_step_from : (first : List Cell) (h : HistoryView Cell) (k : ℕ) → k < length h.states → IsFrom first h → IsFrom first (at_step h k)
at_step_from first h k inside from = record { within = inside; closed = at_step_closed h k inside; begins = from.begins }

-- the steps that are left where one is made, and their count
kept_count : (h : HistoryView Cell) → h.cursor < length h.states → length (take (h.cursor + 1) h.states) ≡ h.cursor + 1
kept_count h within = length-take-le (h.cursor + 1) h.states (omega (arith, within))

step_from : (first cells : List Cell) (h : HistoryView Cell) → IsFrom first h → IsFrom first (committed (record h { now = cells }))
step_from first cells h from =
    let kept : length (take (h.cursor + 1) h.states) ≡ h.cursor + 1 = kept_count h from.within in
    let many : length (take (h.cursor + 1) h.states ++ cells ∷ []) ≡ h.cursor + 1 + 1 =
    length_push (take (h.cursor + 1) h.states) cells ∙ ap (λ n. n + 1) kept in
    record {
      within = omega (arith, many);
      closed = last_closed (take (h.cursor + 1) h.states) cells (h.cursor + 1) (sym kept);
      begins =
          get_or_append_left (take (h.cursor + 1) h.states) (cells ∷ []) [] 0 (omega (arith, kept))
          ∙ get_or-take (h.cursor + 1) h.states 0 [] (omega arith)
          ∙ from.begins;
    }

made_from : (first : List Cell) (b : Bool) (cells : List Cell) (sim : LiveSimView) → IsFrom first sim.history
    → IsFrom first (cond b (with_step cells sim) sim).history
made_from first true cells sim from = step_from first cells sim.history from
made_from first false cells sim from = from

stepped_from : (first : List Cell) (why : Option Refusal) (net : NetView) (e : Event) (sim : LiveSimView) → IsFrom first sim.history
    → IsFrom first (stepped_if why net e sim).history
stepped_from first (Some why) net e sim from = from
stepped_from first None net e sim from =
    made_from first (ends_with net e sim) (cells_behind net (node_count sim.cluster) (system_with net e sim)) sim from

undone_from : (first : List Cell) (b : Bool) (sim : LiveSimView) → IsFrom first sim.history
    → IsFrom first (cond b (at_step_of (sim.history.cursor - 1) sim) sim).history
undone_from first true sim from = at_step_from first sim.history (sim.history.cursor - 1) (omega (arith, from.within)) from
undone_from first false sim from = from

redone_from : (first : List Cell) (b : Bool) (sim : LiveSimView) → can_redo sim ≡ b → IsFrom first sim.history
    → IsFrom first (cond b (at_step_of (sim.history.cursor + 1) sim) sim).history
redone_from first true sim is from =
    at_step_from first sim.history (sim.history.cursor + 1) (ltb-true (sim.history.cursor + 1) (length sim.history.states) is) from
redone_from first false sim is from = from

makes_from : (first : List Cell) (call : Call) (sim : LiveSimView) → IsFrom first sim.history → IsFrom first (made_by call sim).history
makes_from first (Step e) sim from =
    stepped_from first (refused (net_in sim).clock (net_in sim).last_call e sim) (net_in sim) e sim from
makes_from first Undo sim from = undone_from first (can_undo sim) sim from
makes_from first Redo sim from = redone_from first (can_redo sim) sim refl from
makes_from first UndoAll sim from = at_step_from first sim.history 0 (omega (arith, from.within)) from
makes_from first RedoAll sim from = at_step_from first sim.history (length sim.history.states - 1) (omega (arith, from.within)) from
makes_from first Look sim from = from

behind_from : (first : List Cell) (calls : List Call) (sim : LiveSimView) → IsFrom first sim.history → IsFrom first (behind calls sim).history
behind_from first [] sim from = from
behind_from first (call ∷ calls) sim from = behind_from first calls (made_by call sim) (makes_from first call sim from)

-- a simulation that stands behind its step, left and reached again
stands_again : (sim : LiveSimView) (k : ℕ) → IsClosed sim.history → k ≡ sim.history.cursor → at_step_of k sim ≡ sim
stands_again sim k closed at = λ i. record sim { history = sym (stands sim.history sim.history k refl closed (sym at)) i }

-- what a test chooses, where it holds
chosen : {A : Type 0} (b : Bool) (x y : A) → b ≡ true → cond b x y ≡ x
chosen true x y is = refl
chosen false x y is = absurd (false≢true is)

undone_is : (sim : LiveSimView) → can_undo sim ≡ true → undone sim ≡ at_step_of (sim.history.cursor - 1) sim
undone_is sim can = chosen (can_undo sim) (at_step_of (sim.history.cursor - 1) sim) sim can

redone_is : (sim : LiveSimView) → can_redo sim ≡ true → redone sim ≡ at_step_of (sim.history.cursor + 1) sim
redone_is sim can = chosen (can_redo sim) (at_step_of (sim.history.cursor + 1) sim) sim can

redone_undone : (sim : LiveSimView) → can_undo sim ≡ true → sim.history.cursor < length sim.history.states → IsClosed sim.history
    → redone (undone sim) ≡ sim
redone_undone sim can within closed =
    let some : 0 < sim.history.cursor = ltb-true 0 sim.history.cursor can in
    let place : sim.history.cursor - 1 + 1 ≡ sim.history.cursor = omega (arith, some) in
    let back : LiveSimView = at_step_of (sim.history.cursor - 1) sim in
    let more : can_redo back ≡ true = lt-ltb (sim.history.cursor - 1 + 1) (length sim.history.states) (omega (arith, place, within)) in
    ap redone (undone_is sim can) ∙ redone_is back more ∙ stands_again sim (sim.history.cursor - 1 + 1) closed place

undone_redone : (sim : LiveSimView) → can_redo sim ≡ true → IsClosed sim.history → undone (redone sim) ≡ sim
undone_redone sim can closed =
    let forth : LiveSimView = at_step_of (sim.history.cursor + 1) sim in
    let some : can_undo forth ≡ true = lt-ltb 0 (sim.history.cursor + 1) (omega arith) in
    ap undone (redone_is sim can) ∙ undone_is forth some ∙ stands_again sim (sim.history.cursor + 1 - 1) closed (omega arith)

undone_step : (cells : List Cell) (sim : LiveSimView) → sim.history.cursor < length sim.history.states → IsClosed sim.history
    → (undone (with_step cells sim)).history.now ≡ sim.history.now
undone_step cells sim within closed =
    let h : HistoryView Cell = sim.history in
    let kept : length (take (h.cursor + 1) h.states) ≡ h.cursor + 1 = kept_count h within in
    let back : h.cursor + 1 - 1 ≡ h.cursor = omega arith in
    let some : can_undo (with_step cells sim) ≡ true = lt-ltb 0 (h.cursor + 1) (omega arith) in
    ap (λ (t : LiveSimView). t.history.now) (undone_is (with_step cells sim) some)
    ∙ ap (λ (k : ℕ). get_or (take (h.cursor + 1) h.states ++ cells ∷ []) k []) back
    ∙ get_or_append_left (take (h.cursor + 1) h.states) (cells ∷ []) [] h.cursor (omega (arith, kept))
    ∙ get_or-take (h.cursor + 1) h.states h.cursor [] (omega arith)
    ∙ get_or_from_slice_get h.states h.cursor h.now [] closed

pub live_calls_reversible : LiveCallsAreReversible
live_calls_reversible cluster files order calls =
    let first : List Cell = first_cells (node_count cluster) in
    let sim : LiveSimView = behind calls (opened cluster files order) in
    let from : IsFrom first sim.history =
    behind_from first calls (opened cluster files order) (record { within = omega arith; closed = refl; begins = refl }) in
    record {
      closed = from.closed;
      made_again = λ can. redone_undone sim can from.within from.closed;
      taken_back = λ can. undone_redone sim can from.closed;
      first = from.begins;
      step_undone = λ cells. undone_step cells sim from.within from.closed;
    }
