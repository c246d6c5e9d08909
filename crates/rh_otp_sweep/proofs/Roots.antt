-- What the events of a plan leave as it was, so that undo leads back to where the plan began.
use Rattle.std.proofs.Common.{◌≡◌, ◌+◌, ◌++◌, ℕ, suc, add-one, Bool, true, false, cond, List, [], ◌∷◌, take, get_or, slice_get, Option, Some, None, refl, sym, ap, ◌∙◌}
use Rattle.std.proofs.lemmas.Option.{get_or_from_slice_get}
use Rattle.rh_model.specs.ClusterView.{node_count}
use Rattle.rh_rules.specs.declared.event.Event.{Event}
use Rattle.rh_rules.specs.declared.refusal.Refusal.{Refusal}
use Rattle.rh_otp_sim.specs.declared.stepping.Outcome.{Outcome}
use Rattle.rh_otp_sim.specs.declared.stepping.Outcome.TheVariants as outcome
use Rattle.rh_otp_sim.specs.Refusing.{refused}
use Rattle.rh_otp_sim.specs.Sim.{LiveSimView, net_in, without_past, at_step_of}
use Rattle.rh_otp_sim.specs.Stepping.{ends_with, cells_behind, system_with, with_step, stepped_if, stepped, outcome_of as comes_to}
use Rattle.rh_otp_system.specs.Views.{NetView}
use Rattle.rh_otp_system.specs.declared.cell.Cell.{Cell}
use Rattle.rh_otp_sweep.specs.declared.outcome.EventAnswer.{EventAnswer}
use Rattle.rh_otp_sweep.specs.Outcomes.{Course, is_ok, course_by, course_of}
use Rattle.rh_otp_sweep.specs.Working.{IsAtBase}

-- without its cells
abbrev root : LiveSimView → LiveSimView
root sim = record sim { history = record { now = []; states = []; cursor = 0 } }

-- it went on from a simulation of the same cluster, files and order, and these cells are where all its steps are undone
record IsFrom (sim : LiveSimView) (cells : List Cell) (later : LiveSimView) : Type 0 where
  same : root later ≡ root sim
  begins : slice_get later.history.states 0 ≡ Some cells

-- a step more doesn't change the first state
first_stays : (states : List (List Cell)) (k : ℕ) (cells more : List Cell) → slice_get states 0 ≡ Some cells
    → slice_get (take (k + 1) states ++ more ∷ []) 0 ≡ Some cells
first_stays [] k cells more is = absurd (cc is)
first_stays (state ∷ states) k cells more is = rw add-one is

module _ (sim : LiveSimView) (cells : List Cell) where
  made_from : (b : Bool) (now : List Cell) (later : LiveSimView) → IsFrom sim cells later → IsFrom sim cells (cond b (with_step now later) later)
  made_from true now later from = record {
    same = from.same;
    begins = first_stays later.history.states later.history.cursor cells now from.begins;
  }
  made_from false now later from = from

  step_from_if : (why : Option Refusal) (net : NetView) (e : Event) (later : LiveSimView) → IsFrom sim cells later
      → IsFrom sim cells (stepped_if why net e later)
  step_from_if (Some why) net e later from = from
  step_from_if None net e later from =
      made_from (ends_with net e later) (cells_behind net (node_count later.cluster) (system_with net e later)) later from

  step_from : (e : Event) (later : LiveSimView) → IsFrom sim cells later → IsFrom sim cells (stepped e later)
  step_from e later from = step_from_if (refused (net_in later).clock (net_in later).last_call e later) (net_in later) e later from

  answered_from : (b : Bool) (a : EventAnswer) (c : Course) → IsFrom sim cells c.sim
      → IsFrom sim cells (cond b c (record c { answers = a ∷ c.answers })).sim
  answered_from true a c from = from
  answered_from false a c from = from

  by_from : (made : ℕ) (later : LiveSimView) (o : Outcome) (c : Course) → IsFrom sim cells later → IsFrom sim cells c.sim
      → IsFrom sim cells (course_by made later o c).sim
  by_from made later (outcome.Refused why) c from on = from
  by_from made later outcome.Endless c from on = from
  by_from made later (outcome.Done h) c from on = answered_from (is_ok h.answer) (record { event = made + 1; answer = h.answer }) c on

  course_from : (made : ℕ) (later : LiveSimView) (events : List Event) → IsFrom sim cells later → IsFrom sim cells (course_of made later events).sim
  unfolding course_of
  course_from made later [] from = from
  course_from made later (e ∷ events) from =
      by_from made later (comes_to e later) (course_of (made + 1) (stepped e later) events) from
      (course_from (made + 1) (stepped e later) events (step_from e later from))

-- the cells of a simulation in place of another's, with no step
abbrev at_cells : LiveSimView → List Cell → LiveSimView
at_cells sim cells = record sim { history = record { now = cells; states = cells ∷ []; cursor = 0 } }

-- behind a plan undo leads back
pub back_at_base : (sim : LiveSimView) (events : List Event) → slice_get sim.history.states 0 ≡ Some sim.history.now
    → IsAtBase (at_step_of 0 (course_of 0 sim events).sim) sim
back_at_base sim events begins =
    let later : LiveSimView = (course_of 0 sim events).sim in
    let from : IsFrom sim sim.history.now later = course_from sim sim.history.now 0 sim events (record { same = refl; begins = begins }) in
    let cells : get_or later.history.states 0 [] ≡ sim.history.now = get_or_from_slice_get later.history.states 0 sim.history.now [] from.begins in
    record {
      same = (λ i. at_cells (root later) (cells i)) ∙ ap (λ (r : LiveSimView). at_cells r sim.history.now) from.same;
      start = refl;
      begins = from.begins ∙ ap Some (sym cells);
    }
