-- A step tells the same in two simulations, and leads to the same.
use Rattle.std.proofs.Common.{◌≡◌, ◌<◌, ◌+◌, ◌++◌, ℕ, Bool, true, false, cond, List, [], ◌∷◌, length, take, Option, Some, None, refl, sym, ap, subst, ◌∙◌, arith}
use Rattle.std.proofs.lemmas.Bool.{false≢true}
use Rattle.rh_history.specs.HistoryView.{HistoryView}
use Rattle.rh_model.specs.ClusterView.{node_count}
use Rattle.rh_rules.specs.declared.event.Event.{Event}
use Rattle.rh_rules.specs.declared.refusal.Refusal.{Refusal}
use Rattle.rh_otp_net.specs.declared.order.Order.{Order}
use Rattle.rh_otp_system.specs.declared.cell.Cell.{Cell}
use Rattle.rh_otp_system.specs.State.{SystemView}
use Rattle.rh_otp_system.specs.Views.{NetView}
use Rattle.rh_otp_orders.specs.Orders.{of_owner, node_of_timer, node_told}
use Rattle.rh_otp_sim.specs.declared.stepping.Outcome.TheVariants as outcome
use Rattle.rh_otp_sim.specs.Acting.{waits_for_end}
use Rattle.rh_otp_sim.specs.Refusing.{refused}
use Rattle.rh_otp_sim.specs.Sim.{LiveSimView, net_in}
use Rattle.rh_otp_sim.specs.Stepping.{begun, waiting_of, happened, net_behind, cells_behind, system_with, ends_with, outcome_if, outcome_of, with_step, stepped_if, stepped}
use Rattle.rh_otp_sim.specs.Telling.{answer_of}
use Rattle.rh_otp_reached.proofs.Accepted.{accepted}
use Rattle.rh_otp_reached.proofs.Held.{AreHeld, IsOver}
use Rattle.rh_otp_reached.proofs.Standing.{Stands}
use Rattle.rh_otp_reached.proofs.Steps.{begun_stands, begun_alive, first_stands, runs_over}
use Rattle.rh_otp_commands.proofs.Settling.{Both}
use Rattle.rh_otp_rehearsals.specs.Alike.{NetsAlike, ToldAlike, OutcomesAlike}
use Rattle.rh_otp_rehearsals.specs.Rehearsals.{EventEndsAlike}
use Rattle.rh_otp_rehearsals.proofs.Acting.{read_live, read_cluster, read_between, first_both, acts_both}
use Rattle.rh_otp_rehearsals.proofs.Cells.{CellsAlike, AllAlike, one_more, resembles_first, alike_behind}
use Rattle.rh_otp_rehearsals.proofs.Refusing.{another, same_refused}
use Rattle.rh_otp_rehearsals.proofs.Resembling.{Resembles, resembles_rests, resembles_forgets}
use Rattle.rh_otp_rehearsals.proofs.Twins.{Between, twin_between}
use Rattle.rh_otp_rehearsals.proofs.Waiting.{TellTheSame, same_told}

-- ---- what is told behind a command

tells_both : (m n : NetView) (u v : SystemView) → Resembles u v → NetsAlike m n → TellTheSame (waiting_of m u) (waiting_of n v)
tells_both m n u v g nets =
    same_told u v m n
    (record {
      cluster = read_cluster u v g;
      nodes = λ k. read_live u v k g;
      events = λ o. g.1.events o ∙ ap (λ (x : Between). of_owner node_told o x.events) (twin_between g.0 v g.2);
    })
    (read_between (λ (x : Between). x.calls) u v g u.calls g.1.calls) nets.last_call nets.told

happens_both : (m n : NetView) (u v : SystemView) → Resembles u v → NetsAlike m n → ToldAlike (happened m u) (happened n v)
happens_both m n u v g nets = record {
  answer = λ i. answer_of (nets.last_call i) (read_between (λ (x : Between). x.calls) u v g u.calls g.1.calls i);
  lines = (tells_both m n u v g nets).lines;
}

nets_both : (m n : NetView) (u v : SystemView) → Resembles u v → NetsAlike m n → NetsAlike (net_behind m u) (net_behind n v)
nets_both m n u v g nets = record {
  clock = read_between (λ (x : Between). x.clock) u v g u.clock g.1.clock;
  step = read_between (λ (x : Between). x.step) u v g u.step g.1.step;
  last_call = read_between (λ (x : Between). x.last_call) u v g u.last_call g.1.last_call;
  alive = read_between (λ (x : Between). x.alive) u v g u.alive g.1.alive;
  links = read_between (λ (x : Between). x.links) u v g u.links g.1.links;
  locks = read_between (λ (x : Between). x.locks) u v g u.locks g.1.locks;
  calls = read_between (λ (x : Between). x.calls) u v g u.calls g.1.calls;
  asleep = read_between (λ (x : Between). x.asleep) u v g u.asleep g.1.asleep;
  timers = λ o. g.1.timers o ∙ ap (λ (x : Between). of_owner node_of_timer o x.timers) (twin_between g.0 v g.2);
  told = (tells_both m n u v g nets).told;
}

-- ---- two simulations

pub record Matches (one other : LiveSimView) : Type 0 where
  pub cluster : one.cluster ≡ other.cluster
  pub files : one.files ≡ other.files
  pub done : one.history.cursor ≡ other.history.cursor
  pub now : CellsAlike one.cluster one.history.now other.history.now
  pub states : AllAlike one.cluster one.history.states other.history.states

with_step_matches : (xs ys : List Cell) (sim : LiveSimView) (order : Order) (history : HistoryView Cell) → CellsAlike sim.cluster xs ys
    → Matches sim (another sim order history) → Matches (with_step xs sim) (with_step ys (another sim order history))
with_step_matches xs ys sim order history alike g = record {
  cluster = refl;
  files = refl;
  done = ap (λ (k : ℕ). k + 1) g.done;
  now = alike;
  states =
      subst (λ (k : ℕ). AllAlike sim.cluster (take (sim.history.cursor + 1) sim.history.states ++ xs ∷ [])
      (take (k + 1) history.states ++ ys ∷ [])) g.done
      (one_more sim.cluster (sim.history.cursor + 1) sim.history.states history.states xs ys g.states alike);
}

-- ---- a step that isn't refused

runs_both : (e : Event) (sim : LiveSimView) (order : Order) (history : HistoryView Cell)
    → refused (net_in sim).clock (net_in sim).last_call e sim ≡ None → AreHeld sim.cluster sim.files sim.history.now
    → AreHeld sim.cluster sim.files history.now → CellsAlike sim.cluster sim.history.now history.now
    → EventEndsAlike e sim (begun (net_in sim) e sim)
    → Both Resembles (ends_with (net_in sim) e sim) (ends_with (net_in (another sim order history)) e (another sim order history))
    (system_with (net_in sim) e sim) (system_with (net_in (another sim order history)) e (another sim order history))
runs_both e sim order history none held held_too alike every =
    let other : LiveSimView = another sim order history in
    let s : SystemView = begun (net_in sim) e sim in
    let t : SystemView = begun (net_in other) e other in
    let start : Resembles s t =
    resembles_forgets _ _ (resembles_first sim.cluster sim.files sim.history.now history.now (waits_for_end e) held held_too alike) in
    let stands : Stands sim.cluster sim.files s = begun_stands e sim held in
    let accepts = accepted (net_in sim).clock (net_in sim).last_call e sim none in
    let both =
    acts_both e sim other s t (first_stands (net_in sim).clock e sim s accepts (begun_alive e sim) stands).reached
    (first_both (net_in sim).clock e sim order history s t accepts stands alike.nodes start) every in
    (both.0, λ ends. resembles_rests _ _ (both.1 ends))

long_enough : (e : Event) (sim : LiveSimView) → refused (net_in sim).clock (net_in sim).last_call e sim ≡ None
    → ends_with (net_in sim) e sim ≡ true → AreHeld sim.cluster sim.files sim.history.now
    → node_count sim.cluster < length (system_with (net_in sim) e sim).nodes.cells
long_enough e sim none quiet held =
    let over : IsOver sim.cluster sim.files (system_with (net_in sim) e sim) = runs_over e sim none quiet held in
    let long : length (system_with (net_in sim) e sim).nodes.cells ≡ node_count sim.cluster + 1 = over.0.whole.2.long in
    omega (arith, long)

-- what both answer, and what comes of both
abbrev StepBoth : Option Refusal → Option Refusal → Event → LiveSimView → LiveSimView → Type 0
StepBoth why why' e one other =
    OutcomesAlike (outcome_if why (net_in one) e one) (outcome_if why' (net_in other) e other)
    × Matches (stepped_if why (net_in one) e one) (stepped_if why' (net_in other) e other)

ends_both : (e : Event) (sim : LiveSimView) (order : Order) (history : HistoryView Cell) (p q : Bool) (u v : SystemView)
    → Both Resembles p q u v
    → (p ≡ true → node_count sim.cluster < length u.nodes.cells) → (q ≡ true → node_count sim.cluster < length v.nodes.cells)
    → Matches sim (another sim order history)
    → OutcomesAlike (cond p (outcome.Done (happened (net_in sim) u)) outcome.Endless)
    (cond q (outcome.Done (happened (net_in (another sim order history)) v)) outcome.Endless)
    × Matches (cond p (with_step (cells_behind (net_in sim) (node_count sim.cluster) u) sim) sim)
    (cond q (with_step (cells_behind (net_in (another sim order history)) (node_count sim.cluster) v) (another sim order history))
    (another sim order history))
ends_both e sim order history true true u v both within within_too g =
    let other : LiveSimView = another sim order history in
    let alike : Resembles u v = both.1 refl in (
      happens_both (net_in sim) (net_in other) u v alike g.now.net,
      with_step_matches _ _ sim order history
          (alike_behind sim.cluster u v (net_behind (net_in sim) u) (net_behind (net_in other) v) (λ k. read_live u v k alike)
          (nets_both (net_in sim) (net_in other) u v alike g.now.net) (within refl) (within_too refl)) g,
    )
ends_both e sim order history false false u v both within within_too g = (refl, g)
ends_both e sim order history true false u v both within within_too g = absurd (false≢true (sym both.0))
ends_both e sim order history false true u v both within within_too g = absurd (false≢true both.0)

step_by : (e : Event) (sim : LiveSimView) (order : Order) (history : HistoryView Cell) (why : Option Refusal)
    → refused (net_in sim).clock (net_in sim).last_call e sim ≡ why
    → refused (net_in (another sim order history)).clock (net_in (another sim order history)).last_call e (another sim order history) ≡ why
    → AreHeld sim.cluster sim.files sim.history.now → AreHeld sim.cluster sim.files history.now → Matches sim (another sim order history)
    → (why ≡ None → EventEndsAlike e sim (begun (net_in sim) e sim)) → StepBoth why why e sim (another sim order history)
step_by e sim order history (Some why) is is_too held held_too g every = (refl, g)
step_by e sim order history None is is_too held held_too g every =
    let other : LiveSimView = another sim order history in
    ends_both e sim order history (ends_with (net_in sim) e sim) (ends_with (net_in other) e other) (system_with (net_in sim) e sim)
    (system_with (net_in other) e other) (runs_both e sim order history is held held_too g.now (every refl))
    (λ quiet. long_enough e sim is quiet held) (λ quiet. long_enough e other is_too quiet held_too) g

pub steps_both : (e : Event) (sim : LiveSimView) (order : Order) (history : HistoryView Cell)
    → AreHeld sim.cluster sim.files sim.history.now
    → AreHeld sim.cluster sim.files history.now → Matches sim (another sim order history)
    → (refused (net_in sim).clock (net_in sim).last_call e sim ≡ None → EventEndsAlike e sim (begun (net_in sim) e sim))
    → OutcomesAlike (outcome_of e sim) (outcome_of e (another sim order history))
    × Matches (stepped e sim) (stepped e (another sim order history))
steps_both e sim order history held held_too g every =
    let other : LiveSimView = another sim order history in
    let same : refused (net_in sim).clock (net_in sim).last_call e sim ≡ refused (net_in other).clock (net_in other).last_call e other =
    same_refused (net_in sim).clock (net_in other).clock (net_in sim).last_call (net_in other).last_call e sim order history g.now.net.clock
    g.now.net.last_call g.done g.now.nodes in
    subst (λ (why : Option Refusal). StepBoth (refused (net_in sim).clock (net_in sim).last_call e sim) why e sim other) same
    (step_by e sim order history (refused (net_in sim).clock (net_in sim).last_call e sim) refl (sym same) held held_too g every)
