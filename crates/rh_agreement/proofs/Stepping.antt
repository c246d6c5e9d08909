-- One step more on both sides: what both tell behind it, and that they answer it alike.
use Rattle.std.proofs.Common.{◌≡◌, ◌<◌, ◌≤◌, ◌+◌, ◌-◌, ◌||◌, ◌==◌, ◌++◌, ℕ, zero, suc, Bool, true, false, cond, nat_le, List, [], ◌∷◌, length, take, slice_get, slice_set, slice_index_or, unwrap_or, Option, Some, None, refl, sym, ap, subst, ◌∙◌, inl, inr, arith}
use Rattle.std.specs.Option.{option_and_then}
use Rattle.std.proofs.lemmas.Bool.{cases_lt}
use Rattle.std.proofs.lemmas.Bool.Decides.{nat_tests}
use Rattle.std.proofs.lemmas.List.{length-take-le, length_push, get_or_append_left, get_or-append_right, get_or-take}
use Rattle.rh_model.specs.ClusterView.{node_count}
use Rattle.rh_model.specs.declared.node.Node.{Node}
use Rattle.rh_rules.specs.declared.event.Event.{Event}
use Rattle.rh_rules.specs.declared.refusal.Refusal.{Refusal}
use Rattle.rh_rules.specs.declared.refusal.Refusal.TheVariants.{TrailFull}
use Rattle.rh_rules.specs.Refusals.{refused}
use Rattle.rh_rules.specs.Steps.{next}
use Rattle.rh_calls.specs.declared.call.Call.TheVariants as call
use Rattle.rh_calls.specs.declared.call.Reply.TheVariants as reply
use Rattle.rh_script.specs.Answers.{answer_text}
use Rattle.rh_state.specs.StateView.{StateView}
use Rattle.rh_step.specs.Runs.{step}
use Rattle.rh_trail.specs.Lone.{answered, served, stepped, with_event, trail_limit}
use Rattle.rh_trail.specs.SimView.{SimView, state_of}
use Rattle.rh_trail.proofs.Histories.{state_earlier, state_last}
use Rattle.rh_history.specs.HistoryView.{HistoryView, at_step as history_at}
use Rattle.rh_otp_node.specs.Live.{never_begun}
use Rattle.rh_otp_sim.specs.declared.calls.LiveReply.TheVariants as live_reply
use Rattle.rh_otp_sim.specs.declared.stepping.Outcome.TheVariants as live
use Rattle.rh_otp_sim.specs.Calls.{made_by, reply_to}
use Rattle.rh_otp_sim.specs.Refusing.{refusal_of, or_full, is_full}
use Rattle.rh_otp_sim.specs.Sim.{LiveSimView, net_in, net_of_cell, at_step_of}
use Rattle.rh_otp_sim.specs.Sim.{live_in as live_at_node}
use Rattle.rh_otp_sim.specs.Stepping.{stepped_with, outcome_with, with_step, stepped_if, outcome_if}
use Rattle.rh_otp_sim.specs.Views.{HappenedView}
use Rattle.rh_otp_system.specs.declared.cell.Cell.{Cell}
use Rattle.rh_otp_system.specs.declared.cell.Cell.TheVariants as cell
use Rattle.rh_otp_system.specs.State.{live_in}
use Rattle.rh_otp_system.specs.Views.{NetView}
use Rattle.rh_otp_text.specs.Replies.{reply_text}
use Rattle.rh_agreement.specs.Telling.{TellTheSame, GoTogether, at_step, mode_of_phase}
use Rattle.rh_agreement.specs.Laws.{IsAnsweredAlike, HasRoom, is_of_nodes, is_at_a_node}
use Rattle.rh_agreement.proofs.Refusing.{nodes_events_alike, refused_by_both}

-- ---- what the cells tell behind it

pub set_here : {A : Type 0} (xs : List A) (i : ℕ) (y : A) → i < length xs → slice_get (slice_set xs i y) i ≡ Some y
set_here [] i y within = absurd (omega (arith, within))
set_here (x ∷ xs) zero y within = refl
set_here (x ∷ xs) (suc i) y within = set_here xs i y (omega (arith, within))

set_elsewhere : {A : Type 0} (xs : List A) (i j : ℕ) (y : A) → j < i → slice_get (slice_set xs i y) j ≡ slice_get xs j
set_elsewhere [] i j y below = refl
set_elsewhere (x ∷ xs) zero j y below = absurd (omega (arith, below))
set_elsewhere (x ∷ xs) (suc i) zero y below = refl
set_elsewhere (x ∷ xs) (suc i) (suc j) y below = set_elsewhere xs i j y (omega (arith, below))

module _ (l : LiveSimView) (cells : List Cell) (net : NetView) (inside : node_count l.cluster < length cells) where
  -- what is between the nodes stands behind them
  abbrev pub written : List Cell
  written = slice_set cells (node_count l.cluster) (cell.Net net)

  pub net_so : net_in (with_step written l) ≡ net
  net_so = ap net_of_cell (set_here cells (node_count l.cluster) (cell.Net net) inside)

  pub node_so : (n : Node) → n.0 < node_count l.cluster → live_at_node (with_step written l) n ≡ option_and_then live_in (slice_get cells n.0)
  node_so n within = ap (λ o. option_and_then live_in o) (set_elsewhere cells (node_count l.cluster) n.0 (cell.Net net) within)

-- what is told depends on the cells as they are now
same_now : (s : StateView) (l : LiveSimView) (h : HistoryView Cell) → h.now ≡ l.history.now → TellTheSame s l
    → TellTheSame s (record l { history = h })
same_now s l h now told = record {
  cluster = told.cluster;
  clock = ap (λ (cells : List Cell). (net_of_cell (slice_get cells (node_count l.cluster))).clock) now ∙ told.clock;
  modes = λ n inside.
      ap (λ (cells : List Cell). mode_of_phase (unwrap_or (option_and_then live_in (slice_get cells n.0)) never_begun).phase) now
      ∙ told.modes n inside;
  begun = λ n inside.
      ap (λ (cells : List Cell). (unwrap_or (option_and_then live_in (slice_get cells n.0)) never_begun).life) now ∙ told.begun n inside;
  limited = told.limited;
  cells = subst (λ (cells : List Cell). node_count l.cluster < length cells) (sym now) told.cells;
}

-- ---- one step more

module _ (sim : SimView) (l : LiveSimView) (e : Event) (cells : List Cell) (together : GoTogether sim l) where
  abbrev count : ℕ
  count = l.history.cursor + 1

  kept : length (take count l.history.states) ≡ count
  kept = length-take-le count l.history.states (omega (arith, together.done, together.steps, together.within))

  pub kept_trail : length (take sim.cursor sim.trail) ≡ sim.cursor
  kept_trail = length-take-le sim.cursor sim.trail together.within

  -- the cells behind an earlier step, and behind this one
  pub earlier_cells : (k : ℕ) → k ≤ sim.cursor
      → slice_index_or (take count l.history.states ++ cells ∷ []) k [] ≡ slice_index_or l.history.states k []
  earlier_cells k below =
      let done : l.history.cursor ≡ sim.cursor = together.done in
      get_or_append_left (take count l.history.states) (cells ∷ []) [] k (omega (arith, kept, below, done))
      ∙ get_or-take count l.history.states k [] (omega (arith, below, done))

  pub last_cells : (k : ℕ) → k ≡ sim.cursor + 1 → slice_index_or (take count l.history.states ++ cells ∷ []) k [] ≡ cells
  last_cells k at =
      let done : l.history.cursor ≡ sim.cursor = together.done in
      let none : k - count ≡ 0 = omega (arith, at, done) in
      get_or-append_right (take count l.history.states) (cells ∷ []) count k [] kept (omega (arith, at, done))
      ∙ ap (λ (i : ℕ). slice_index_or (cells ∷ []) i []) none

module _ (sim : SimView) (l : LiveSimView) (e : Event) (cells : List Cell) (together : GoTogether sim l)
    (told : TellTheSame (step sim.pick (state_of sim) e) (with_step cells l)) where
  now_told : TellTheSame (state_of (with_event sim e)) (with_step cells l)
  now_told =
      subst (λ (s : StateView). TellTheSame s (with_step cells l)) (sym (state_last sim.cluster sim.pick sim.trail sim.cursor e together.within)) told

  always_told : (k : ℕ) → k ≤ length (with_event sim e).trail → TellTheSame (state_of (at_step k (with_event sim e))) (at_step_of k (with_step cells l))
  always_told k bound = elim (cases_lt sim.cursor k) [
    | inl above ↦
        let at : k ≡ sim.cursor + 1 = omega (arith, bound, above, length_push (take sim.cursor sim.trail) e, kept_trail sim l e cells together) in
        subst (λ (j : ℕ). TellTheSame (state_of (at_step j (with_event sim e))) (at_step_of k (with_step cells l))) (sym at)
        (same_now (state_of (with_event sim e)) (with_step cells l) (history_at (with_step cells l).history k) (last_cells sim l e cells together k at) now_told)
    | inr below ↦
        subst (λ (s : StateView). TellTheSame s (at_step_of k (with_step cells l)))
        (sym (state_earlier sim.cluster sim.pick sim.trail sim.cursor e together.within k below))
        (same_now (state_of (at_step k sim)) (at_step_of k l) (history_at (with_step cells l).history k) (earlier_cells sim l e cells together k below)
        (together.always k (omega (arith, below, together.within))))
  ]

  pub one_more : GoTogether (with_event sim e) (with_step cells l)
  one_more = record {
    cluster = together.cluster;
    now = now_told;
    always = always_told;
    done = ap (λ (k : ℕ). k + 1) together.done;
    steps = omega (
      arith,
      length_push (take (count sim l e cells together) l.history.states) cells,
      kept sim l e cells together,
      length_push (take sim.cursor sim.trail) e,
      kept_trail sim l e cells together,
      together.done,
    );
    within = omega (arith, length_push (take sim.cursor sim.trail) e, kept_trail sim l e cells together);
  }

-- ---- the answer

not_full : (done last_call : ℕ) → done < trail_limit → last_call < 4000000000 → (nat_le 65535 done || nat_le 4000000000 last_call) ≡ false
not_full done last_call steps calls = grind (arith, nat_tests, steps, calls)

below_limit : (done : ℕ) → done < trail_limit → (done == trail_limit) ≡ false
below_limit done below = grind (arith, nat_tests, below)

-- an event that isn't refused is made by the manual's rules
pub manual : (sim : SimView) (e : Event) → refused (state_of sim) e ≡ None → sim.cursor < trail_limit
    → served sim (call.Step e) ≡ answered (reply.Done (next (state_of sim) e sim.pick).notices) (with_event sim e)
manual sim e fine room =
    ap (stepped sim e) fine
    ∙ ap (λ (b : Bool). cond b (answered (reply.Refused TrailFull) sim)
    (answered (reply.Done (next (state_of sim) e sim.pick).notices) (with_event sim e)))
    (below_limit sim.cursor room)

-- and on live nodes
module _ (sim : SimView) (l : LiveSimView) (e : Event) (together : GoTogether sim l) (room : HasRoom sim l)
    (live_fine : refusal_of (net_in l).clock e l ≡ None) where
  accepted : or_full (is_full (net_in l).last_call l) (refusal_of (net_in l).clock e l) ≡ None
  accepted =
      ap (or_full (is_full (net_in l).last_call l)) live_fine
      ∙ ap (λ (b : Bool). or_full b None)
      (not_full l.history.cursor (net_in l).last_call (subst (λ k. k < trail_limit) (sym together.done) room.steps) room.calls)

  pub live_made : made_by (call.Step e) l ≡ stepped_with (net_in l) e l
  live_made = ap (λ (o : Option Refusal). stepped_if o (net_in l) e l) accepted

  pub live_told : reply_to (call.Step e) l ≡ live_reply.Step (outcome_with (net_in l) e l)
  live_told = ap (λ (o : Option Refusal). live_reply.Step (outcome_if o (net_in l) e l)) accepted

-- An event that neither refuses is answered alike, where both tell the same of it and the same behind it.
pub made_alike : (sim : SimView) (l : LiveSimView) (e : Event) (cells : List Cell) (h : HappenedView) → GoTogether sim l → HasRoom sim l
    → refused (state_of sim) e ≡ None → refusal_of (net_in l).clock e l ≡ None → stepped_with (net_in l) e l ≡ with_step cells l
    → outcome_with (net_in l) e l ≡ live.Done h → TellTheSame (step sim.pick (state_of sim) e) (with_step cells l)
    → answer_text sim.cluster (reply.Done (next (state_of sim) e sim.pick).notices) ≡ reply_text (with_step cells l) (live_reply.Step (live.Done h))
    → IsAnsweredAlike (call.Step e) sim l × GoTogether (served sim (call.Step e)).sim (made_by (call.Step e) l)
made_alike sim l e cells h together room fine live_fine steps comes told text =
    let made : made_by (call.Step e) l ≡ with_step cells l = live_made sim l e together room live_fine ∙ steps in
    let says : reply_to (call.Step e) l ≡ live_reply.Step (live.Done h) =
    live_told sim l e together room live_fine ∙ ap live_reply.Step comes in (
      ap (λ s. answer_text sim.cluster s.reply) (manual sim e fine room.steps) ∙ text ∙ sym (λ i. reply_text (made i) (says i)),
      rw (manual sim e fine room.steps, made) (one_more sim l e cells together told),
    )

-- A boot, a crash or a tick is answered alike, where it is if neither refuses it.
refused_by : (sim : SimView) (l : LiveSimView) (e : Event) (why : Option Refusal) → refused (state_of sim) e ≡ why → is_of_nodes e ≡ true
    → is_at_a_node e ≡ true → GoTogether sim l
    → (refused (state_of sim) e ≡ None → refusal_of (net_in l).clock e l ≡ None
    → IsAnsweredAlike (call.Step e) sim l × GoTogether (served sim (call.Step e)).sim (made_by (call.Step e) l))
    → IsAnsweredAlike (call.Step e) sim l × GoTogether (served sim (call.Step e)).sim (made_by (call.Step e) l)
refused_by sim l e (Some why) is of_nodes at together alike =
    let both = refused_by_both sim l e why together at (nodes_events_alike sim l e together of_nodes ∙ is) in
    (both.0, rw (both.1, both.2) together)
refused_by sim l e None is of_nodes at together alike = alike is (nodes_events_alike sim l e together of_nodes ∙ is)

pub refused_or_made : (sim : SimView) (l : LiveSimView) (e : Event) → is_of_nodes e ≡ true → is_at_a_node e ≡ true → GoTogether sim l
    → (refused (state_of sim) e ≡ None → refusal_of (net_in l).clock e l ≡ None
    → IsAnsweredAlike (call.Step e) sim l × GoTogether (served sim (call.Step e)).sim (made_by (call.Step e) l))
    → IsAnsweredAlike (call.Step e) sim l × GoTogether (served sim (call.Step e)).sim (made_by (call.Step e) l)
refused_or_made sim l e of_nodes at together alike = refused_by sim l e (refused (state_of sim) e) refl of_nodes at together alike

-- What holds of both behind it holds of both, also where it is refused.
unchanged_by : (P : SimView → LiveSimView → Type 0) (sim : SimView) (l : LiveSimView) (e : Event) (why : Option Refusal) → refused (state_of sim) e ≡ why
    → is_of_nodes e ≡ true → is_at_a_node e ≡ true → GoTogether sim l → P sim l
    → (refused (state_of sim) e ≡ None → refusal_of (net_in l).clock e l ≡ None → P (served sim (call.Step e)).sim (made_by (call.Step e) l))
    → P (served sim (call.Step e)).sim (made_by (call.Step e) l)
unchanged_by P sim l e (Some why) is of_nodes at together before then =
    let both = refused_by_both sim l e why together at (nodes_events_alike sim l e together of_nodes ∙ is) in
    rw (both.1, both.2) before
unchanged_by P sim l e None is of_nodes at together before then = then is (nodes_events_alike sim l e together of_nodes ∙ is)

pub unchanged_or_made : (P : SimView → LiveSimView → Type 0) (sim : SimView) (l : LiveSimView) (e : Event) → is_of_nodes e ≡ true → is_at_a_node e ≡ true
    → GoTogether sim l → P sim l
    → (refused (state_of sim) e ≡ None → refusal_of (net_in l).clock e l ≡ None → P (served sim (call.Step e)).sim (made_by (call.Step e) l))
    → P (served sim (call.Step e)).sim (made_by (call.Step e) l)
unchanged_or_made P sim l e of_nodes at together before then =
    unchanged_by P sim l e (refused (state_of sim) e) refl of_nodes at together before then
