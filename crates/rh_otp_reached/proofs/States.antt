-- After any calls a simulation holds cells that live nodes reach, and so does each state of its history.
use Rattle.std.proofs.Common.{◌≡◌, ◌<◌, ◌+◌, ◌-◌, ◌++◌, ℕ, zero, suc, Bool, true, false, cond, List, [], ◌∷◌, length, take, slice_get, Option, Some, None, unwrap_or, refl, ap, arith}
use Rattle.std.specs.Prelude.{All}
use Rattle.std.proofs.lemmas.Bool.{ltb-true}
use Rattle.std.proofs.lemmas.List.{length-take-le, length_push}
use Rattle.std.proofs.lemmas.List.Elements.{All-nil, All-cons, All-append, All-take}
use Rattle.rh_model.specs.ClusterView.{ClusterView, node_count}
use Rattle.rh_calls.specs.declared.call.Call.{Call}
use Rattle.rh_calls.specs.declared.call.Call.TheVariants.{Step, Undo, Redo, UndoAll, RedoAll, Look}
use Rattle.rh_rules.specs.declared.event.Event.{Event}
use Rattle.rh_rules.specs.declared.refusal.Refusal.{Refusal}
use Rattle.rh_otp_model.specs.declared.wait.OwnFile.{OwnFile}
use Rattle.rh_otp_net.specs.declared.order.Order.{Order}
use Rattle.rh_otp_node.specs.Live.{LiveView, never_begun}
use Rattle.rh_otp_system.specs.declared.cell.Cell.{Cell}
use Rattle.rh_otp_system.specs.declared.cell.Cell.TheVariants as cell
use Rattle.rh_otp_system.specs.Views.{NetView}
use Rattle.rh_otp_laws.specs.Acting.{IsNew, new}
use Rattle.rh_otp_laws.proofs.Listing.{alive_listed}
use Rattle.rh_otp_laws.proofs.Locking.{one_name}
use Rattle.rh_otp_laws.proofs.Overdue.{in_time}
use Rattle.rh_otp_sim.specs.Calls.{made_by}
use Rattle.rh_otp_sim.specs.Laws.{behind}
use Rattle.rh_otp_sim.specs.Refusing.{refused}
use Rattle.rh_otp_sim.specs.Sim.{LiveSimView, opened, first_cells, first_net, net_of_cell, net_in, at_step_of, can_undo, can_redo}
use Rattle.rh_otp_sim.specs.Stepping.{stepped_if, with_step, cells_behind, system_with, ends_with}
use Rattle.rh_otp_reached.specs.Holding.{IsLive, IsAlwaysLive, LiveStatesAreReached}
use Rattle.rh_otp_reached.proofs.Cells.{node_in}
use Rattle.rh_otp_reached.proofs.Held.{held, AreHeld}
use Rattle.rh_otp_reached.proofs.Steps.{step_held}

-- ---- no node has begun

first_long : (count : ℕ) → length (first_cells count) ≡ count + 1
first_long zero = refl
first_long (suc count) = let more : length (first_cells count) ≡ count + 1 = first_long count in omega (arith, more)

first_nodes : (count k : ℕ) → k < count → node_in (first_cells count) k ≡ Some never_begun
first_nodes zero k within = absurd (omega (arith, within))
first_nodes (suc count) zero within = refl
first_nodes (suc count) (suc k) within = first_nodes count k (omega (arith, within))

first_between : (count : ℕ) → slice_get (first_cells count) count ≡ Some (cell.Net first_net)
first_between zero = refl
first_between (suc count) = first_between count

abbrev or_never : Option LiveView → LiveView
or_never o = unwrap_or o never_begun

none_begun : (count k : ℕ) → or_never (node_in (first_cells count) k) ≡ never_begun
none_begun zero zero = refl
none_begun zero (suc k) = refl
none_begun (suc count) zero = refl
none_begun (suc count) (suc k) = none_begun count k

first_new : (c : ClusterView) (files : List OwnFile) → IsNew (held c files (first_cells (node_count c)))
first_new c files =
    let between : net_of_cell (slice_get (first_cells (node_count c)) (node_count c)) ≡ first_net =
    ap net_of_cell (first_between (node_count c)) in
    record {
      nodes = λ n. none_begun (node_count c) n.0;
      alive = ap (λ (net : NetView). net.alive) between;
      links = ap (λ (net : NetView). net.links) between;
      locks = ap (λ (net : NetView). net.locks) between;
      timers = ap (λ (net : NetView). net.timers) between;
      calls = ap (λ (net : NetView). net.calls) between;
      messages = refl;
      slow = refl;
    }

first_held : (c : ClusterView) (files : List OwnFile) → AreHeld c files (first_cells (node_count c))
first_held c files = record {
  reached = new (held c files (first_cells (node_count c))) (first_new c files);
  are = record {
    long = first_long (node_count c);
    nodes = λ n within. (never_begun, first_nodes (node_count c) n.0 within);
  };
  net = (first_net, first_between (node_count c));
}

-- ---- what each call keeps

pub record Holds (sim : LiveSimView) : Type 0 where
  pub within : sim.history.cursor < length sim.history.states
  pub now : AreHeld sim.cluster sim.files sim.history.now
  pub each : All (AreHeld sim.cluster sim.files) sim.history.states

at_step_holds : (sim : LiveSimView) (k : ℕ) → k < length sim.history.states → Holds sim → Holds (at_step_of k sim)
at_step_holds sim k inside p = record { within = inside; now = p.each k [] inside; each = p.each }

with_step_holds : (cells : List Cell) (sim : LiveSimView) → AreHeld sim.cluster sim.files cells → Holds sim → Holds (with_step cells sim)
with_step_holds cells sim is p =
    let before : List (List Cell) = take (sim.history.cursor + 1) sim.history.states in
    let kept : length before ≡ sim.history.cursor + 1 =
    length-take-le (sim.history.cursor + 1) sim.history.states (omega (arith, p.within)) in
    let many : length (before ++ cells ∷ []) ≡ length before + 1 = length_push before cells in
    record {
      within = omega (arith, kept, many);
      now = is;
      each =
          All-append (AreHeld sim.cluster sim.files) before (cells ∷ [])
          (All-take (AreHeld sim.cluster sim.files) (sim.history.cursor + 1) sim.history.states p.each)
          (All-cons (AreHeld sim.cluster sim.files) cells [] is (All-nil (AreHeld sim.cluster sim.files)));
    }

made_holds : (e : Event) (b : Bool) (sim : LiveSimView) → refused (net_in sim).clock (net_in sim).last_call e sim ≡ None
    → ends_with (net_in sim) e sim ≡ b → Holds sim
    → Holds (cond b (with_step (cells_behind (net_in sim) (node_count sim.cluster) (system_with (net_in sim) e sim)) sim) sim)
made_holds e true sim none ends p =
    with_step_holds (cells_behind (net_in sim) (node_count sim.cluster) (system_with (net_in sim) e sim)) sim
    (step_held e sim none ends p.now) p
made_holds e false sim none ends p = p

stepped_holds : (e : Event) (why : Option Refusal) (sim : LiveSimView) → refused (net_in sim).clock (net_in sim).last_call e sim ≡ why
    → Holds sim → Holds (stepped_if why (net_in sim) e sim)
stepped_holds e (Some why) sim is p = p
stepped_holds e None sim is p = made_holds e (ends_with (net_in sim) e sim) sim is refl p

undone_holds : (b : Bool) (sim : LiveSimView) → Holds sim → Holds (cond b (at_step_of (sim.history.cursor - 1) sim) sim)
undone_holds true sim p = at_step_holds sim (sim.history.cursor - 1) (omega (arith, p.within)) p
undone_holds false sim p = p

redone_holds : (b : Bool) (sim : LiveSimView) → can_redo sim ≡ b → Holds sim
    → Holds (cond b (at_step_of (sim.history.cursor + 1) sim) sim)
redone_holds true sim is p =
    at_step_holds sim (sim.history.cursor + 1) (ltb-true (sim.history.cursor + 1) (length sim.history.states) is) p
redone_holds false sim is p = p

pub makes_holds : (call : Call) (sim : LiveSimView) → Holds sim → Holds (made_by call sim)
makes_holds (Step e) sim p = stepped_holds e (refused (net_in sim).clock (net_in sim).last_call e sim) sim refl p
makes_holds Undo sim p = undone_holds (can_undo sim) sim p
makes_holds Redo sim p = redone_holds (can_redo sim) sim refl p
makes_holds UndoAll sim p = at_step_holds sim 0 (omega (arith, p.within)) p
makes_holds RedoAll sim p = at_step_holds sim (length sim.history.states - 1) (omega (arith, p.within)) p
makes_holds Look sim p = p

behind_holds : (calls : List Call) (sim : LiveSimView) → Holds sim → Holds (behind calls sim)
behind_holds [] sim p = p
behind_holds (call ∷ calls) sim p = behind_holds calls (made_by call sim) (makes_holds call sim p)

pub opened_holds : (c : ClusterView) (files : List OwnFile) (order : Order) → Holds (opened c files order)
opened_holds c files order =
    let first : List Cell = first_cells (node_count c) in
    record {
      within = omega arith;
      now = first_held c files;
      each = All-cons (AreHeld c files) first [] (first_held c files) (All-nil (AreHeld c files));
    }

-- ---- the law

live : (sim : LiveSimView) → AreHeld sim.cluster sim.files sim.history.now → IsLive sim
live sim is = record {
  reached = is.reached;
  in_time = in_time _ is.reached;
  one_name = one_name _ is.reached;
  listed = alive_listed _ is.reached;
}

always_live : (sim : LiveSimView) → Holds sim → IsAlwaysLive sim
always_live sim p = record { now = live sim p.now; each = λ k inside. live (at_step_of k sim) (p.each k [] inside) }

pub states_reached : LiveStatesAreReached
states_reached cluster files order calls =
    always_live (behind calls (opened cluster files order)) (behind_holds calls (opened cluster files order) (opened_holds cluster files order))
