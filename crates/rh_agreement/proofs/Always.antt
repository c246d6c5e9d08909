-- One after the other crashes, ticks that reach no timer, and steps back and forth are answered alike.
use Rattle.std.proofs.Common.{◌≡◌, ◌≤◌, ◌+◌, ◌-◌, ◌==◌, ℕ, Bool, true, false, cond, not, nat_lt, List, [], ◌∷◌, length, take, slice_get, None, refl, sym, ap, subst, ◌∙◌, inl, inr, arith}
use Rattle.std.proofs.lemmas.Bool.{cases_lt, ltb-false, true≢false}
use Rattle.std.proofs.lemmas.List.{length_push}
use Rattle.rh_model.specs.ClusterView.{ClusterView, node_count}
use Rattle.rh_rules.specs.declared.event.Event.{Event}
use Rattle.rh_rules.specs.declared.event.Event.TheVariants as event
use Rattle.rh_rules.specs.Refusals.{refused}
use Rattle.rh_calls.specs.declared.call.Call.{Call}
use Rattle.rh_calls.specs.declared.call.Call.TheVariants as call
use Rattle.rh_calls.specs.declared.call.Reply.{Reply}
use Rattle.rh_calls.specs.declared.call.Reply.TheVariants as reply
use Rattle.rh_trace.specs.Validity.{IsValid}
use Rattle.rh_trail.specs.Lone.{Served, served, answered, with_event}
use Rattle.rh_trail.specs.SimView.{SimView, state_of}
use Rattle.rh_trail.proofs.Histories.{state_earlier}
use Rattle.rh_history.specs.HistoryView.{HistoryView, at_step as history_at}
use Rattle.rh_otp_model.specs.declared.wait.OwnFile.{OwnFile}
use Rattle.rh_otp_sim.specs.Calls.{made_by}
use Rattle.rh_otp_sim.specs.Sim.{LiveSimView, net_in, net_of_cell, at_step_of}
use Rattle.rh_otp_sim.specs.Stepping.{cells_behind, with_step}
use Rattle.rh_otp_system.specs.declared.cell.Cell.{Cell}
use Rattle.rh_otp_system.specs.Resting.{forgotten}
use Rattle.rh_otp_system.specs.State.{SystemView, system_of}
use Rattle.rh_otp_laws.specs.Acting.{IsReached}
use Rattle.rh_otp_crashes.specs.Crashes.{AreAtRest, FailOverLater}
use Rattle.rh_agreement.specs.Telling.{GoTogether, at_step}
use Rattle.rh_agreement.specs.Laws.{IsAnsweredAlike, HasRoom, IsStill, is_reversal}
use Rattle.rh_agreement.specs.Resting.{AreBothAtRest, AreAlwaysAtRest, IsPeaceful, IsPeacefulCall, ArePeaceful, AreAnsweredAlike, PeacefulCallsAreAnsweredAlike}
use Rattle.rh_agreement.proofs.CrashAlike.{behind_it, steps_so as crash_steps}
use Rattle.rh_agreement.proofs.Peace.{ticks_alike, crashes_alike}
use Rattle.rh_agreement.proofs.Quiet.{in_limit, cells as tick_cells, steps_so}
use Rattle.rh_agreement.proofs.Rest.{rests_still}
use Rattle.rh_agreement.proofs.Reversing.{reversals_alike, some_or_none, more_or_none, more_left}
use Rattle.rh_agreement.proofs.Stepping.{manual, live_made, unchanged_or_made, earlier_cells, last_cells, kept_trail}

-- ---- whether both are at rest depends on the state, and on the cells as they are now

abbrev held_of : ClusterView → List OwnFile → List Cell → SystemView
held_of c files cells = forgotten (system_of c files cells (net_of_cell (slice_get cells (node_count c))) false)

same_rest : (sim other : SimView) (l : LiveSimView) (h : HistoryView Cell) → state_of other ≡ state_of sim → h.now ≡ l.history.now
    → AreBothAtRest sim l → AreBothAtRest other (record l { history = h })
same_rest sim other l h state now rest = record {
  valid = subst IsValid (sym state) rest.valid;
  reached = subst (λ (cells : List Cell). IsReached (held_of l.cluster l.files cells)) (sym now) rest.reached;
  rest = subst (λ (cells : List Cell). AreAtRest (held_of l.cluster l.files cells)) (sym now) rest.rest;
  later = subst (λ (cells : List Cell). FailOverLater (held_of l.cluster l.files cells)) (sym now) rest.later;
}

-- ---- one step more

module _ (sim : SimView) (l : LiveSimView) (e : Event) (cells : List Cell) (together : GoTogether sim l) (rest : AreAlwaysAtRest sim l)
    (now : AreBothAtRest (with_event sim e) (with_step cells l)) where
  each : (k : ℕ) → k ≤ length (with_event sim e).trail → AreBothAtRest (at_step k (with_event sim e)) (at_step_of k (with_step cells l))
  each k bound = elim (cases_lt sim.cursor k) [
    | inl above ↦
        let at : k ≡ sim.cursor + 1 =
        omega (arith, bound, above, length_push (take sim.cursor sim.trail) e, kept_trail sim l e cells together) in
        same_rest (with_event sim e) (at_step k (with_event sim e)) (with_step cells l) (history_at (with_step cells l).history k)
        (ap (λ (j : ℕ). state_of (at_step j (with_event sim e))) at) (last_cells sim l e cells together k at) now
    | inr below ↦
        same_rest (at_step k sim) (at_step k (with_event sim e)) (at_step_of k l) (history_at (with_step cells l).history k)
        (state_earlier sim.cluster sim.pick sim.trail sim.cursor e together.within k below) (earlier_cells sim l e cells together k below)
        (rest.always k (omega (arith, below, together.within)))
  ]

  pub then_rest : AreAlwaysAtRest (with_event sim e) (with_step cells l)
  then_rest = record { now = now; always = each }

pub accepted_rest : (sim : SimView) (l : LiveSimView) (e : Event) (cells : List Cell) → GoTogether sim l → HasRoom sim l → AreAlwaysAtRest sim l
    → refused (state_of sim) e ≡ None → made_by (call.Step e) l ≡ with_step cells l
    → AreBothAtRest (served sim (call.Step e)).sim (made_by (call.Step e) l)
    → AreAlwaysAtRest (served sim (call.Step e)).sim (made_by (call.Step e) l)
accepted_rest sim l e cells together room rest fine made now =
    let same : (served sim (call.Step e)).sim ≡ with_event sim e = ap (λ (s : Served). s.sim) (manual sim e fine room.steps) in
    let now_then : AreBothAtRest (with_event sim e) (with_step cells l) =
    subst (AreBothAtRest (with_event sim e)) made (subst (λ (s : SimView). AreBothAtRest s (made_by (call.Step e) l)) same now) in
    subst (λ (s : SimView). AreAlwaysAtRest s (made_by (call.Step e) l)) (sym same)
    (subst (AreAlwaysAtRest (with_event sim e)) (sym made) (then_rest sim l e cells together rest now_then))

-- ---- a step back or forth

moved_rest : (sim : SimView) (l : LiveSimView) (k j : ℕ) → j ≡ k → k ≤ length sim.trail → AreAlwaysAtRest sim l
    → AreAlwaysAtRest (at_step k sim) (at_step_of j l)
moved_rest sim l k j same within rest =
    subst (λ (i : ℕ). AreAlwaysAtRest (at_step k sim) (at_step_of i l)) (sym same) (record { now = rest.always k within; always = rest.always })

turned_by : (sim : SimView) (l : LiveSimView) (k j : ℕ) (one other : Reply) (b c : Bool) → c ≡ not b → AreAlwaysAtRest sim l
    → (b ≡ false → AreAlwaysAtRest (at_step k sim) (at_step_of j l))
    → AreAlwaysAtRest (cond b (answered one sim) (answered other (at_step k sim))).sim (cond c (at_step_of j l) l)
turned_by sim l k j one other true true is rest then = absurd (true≢false is)
turned_by sim l k j one other true false is rest then = rest
turned_by sim l k j one other false true is rest then = then refl
turned_by sim l k j one other false false is rest then = absurd (true≢false (sym is))

reversals_rest : (sim : SimView) (l : LiveSimView) (c : Call) → GoTogether sim l → is_reversal c ≡ true → AreAlwaysAtRest sim l
    → AreAlwaysAtRest (served sim c).sim (made_by c l)
reversals_rest sim l call.Undo together is rest =
    turned_by sim l (sim.cursor - 1) (l.history.cursor - 1) reply.AtStart reply.Undone (sim.cursor == 0) (nat_lt 0 l.history.cursor)
    (ap (nat_lt 0) together.done ∙ some_or_none sim.cursor) rest
    (λ some. moved_rest sim l (sim.cursor - 1) (l.history.cursor - 1) (ap (λ (k : ℕ). k - 1) together.done) (omega (arith, together.within)) rest)
reversals_rest sim l call.Redo together is rest =
    turned_by sim l (sim.cursor + 1) (l.history.cursor + 1) reply.AtEnd reply.Redone (sim.cursor == length sim.trail)
    (nat_lt (l.history.cursor + 1) (length l.history.states))
    ((λ i. nat_lt (together.done i + 1) (together.steps i)) ∙ more_or_none sim.cursor (length sim.trail) together.within) rest
    (λ more. moved_rest sim l (sim.cursor + 1) (l.history.cursor + 1) (ap (λ (k : ℕ). k + 1) together.done)
    (more_left sim.cursor (length sim.trail) together.within more) rest)
reversals_rest sim l call.UndoAll together is rest = moved_rest sim l 0 0 refl (omega arith) rest
reversals_rest sim l call.RedoAll together is rest =
    moved_rest sim l (length sim.trail) (length l.history.states - 1) (omega (arith, together.steps)) (omega arith) rest
reversals_rest sim l c together is rest = absurd (true≢false (sym is))

-- ---- one after the other

-- behind each both go together, and are at rest wherever undo and redo lead
pub record GoesOn (c : Call) (sim : SimView) (l : LiveSimView) : Type 0 where
  pub alike : IsAnsweredAlike c sim l
  pub together : GoTogether (served sim c).sim (made_by c l)
  pub rest : AreAlwaysAtRest (served sim c).sim (made_by c l)

pub steps_on : (e : Event) (sim : SimView) (l : LiveSimView) → GoTogether sim l → HasRoom sim l → AreAlwaysAtRest sim l → IsPeaceful e sim l
    → GoesOn (call.Step e) sim l
steps_on (event.Tick ms) sim l together room rest peaceful =
    let all = ticks_alike sim l ms together room rest.now peaceful in
    let still : IsStill ms sim l = rests_still sim l ms rest.now.reached rest.now.rest peaceful in
    record {
      alike = all.0;
      together = all.1;
      rest = unchanged_or_made AreAlwaysAtRest sim l (event.Tick ms) refl refl together rest
          (λ fine live_fine.
          let within : (net_in l).clock + ms ≤ 1000000000000 = ltb-false 1000000000000 ((net_in l).clock + ms) (in_limit _ _ _ _ live_fine) in
          accepted_rest sim l (event.Tick ms) (tick_cells ms sim l still within) together room rest fine
          (live_made sim l (event.Tick ms) together room live_fine ∙ steps_so ms sim l still within) all.2);
    }
steps_on (event.Crash n) sim l together room rest peaceful =
    let all = crashes_alike sim l n together room rest.now peaceful in
    record {
      alike = all.0;
      together = all.1;
      rest = unchanged_or_made AreAlwaysAtRest sim l (event.Crash n) refl refl together rest
          (λ fine live_fine.
          accepted_rest sim l (event.Crash n) (cells_behind (net_in l) (node_count l.cluster) (behind_it l n peaceful.ends)) together room rest fine
          (live_made sim l (event.Crash n) together room live_fine ∙ crash_steps l n peaceful.ends) all.2);
    }
steps_on e sim l together room rest peaceful = absurd peaceful

pub back_on : (c : Call) (sim : SimView) (l : LiveSimView) → GoTogether sim l → AreAlwaysAtRest sim l → is_reversal c ≡ true → GoesOn c sim l
back_on c sim l together rest is =
    let all = reversals_alike sim l c together is in
    record { alike = all.0; together = all.1; rest = reversals_rest sim l c together is rest }

goes_on : (c : Call) (sim : SimView) (l : LiveSimView) → GoTogether sim l → AreAlwaysAtRest sim l → IsPeacefulCall c sim l → GoesOn c sim l
goes_on (call.Step e) sim l together rest peaceful = steps_on e sim l together peaceful.0 rest peaceful.1
goes_on c sim l together rest peaceful = back_on c sim l together rest peaceful

calls_alike : (calls : List Call) (sim : SimView) (l : LiveSimView) → GoTogether sim l → AreAlwaysAtRest sim l → ArePeaceful calls sim l
    → AreAnsweredAlike calls sim l
calls_alike [] sim l together rest peaceful = tt
calls_alike (c ∷ calls) sim l together rest peaceful =
    let one : GoesOn c sim l = goes_on c sim l together rest peaceful.0 in
    (one.alike, calls_alike calls (served sim c).sim (made_by c l) one.together one.rest peaceful.1)

pub peaceful_calls_alike : PeacefulCallsAreAnsweredAlike
peaceful_calls_alike sim l calls together rest peaceful = calls_alike calls sim l together rest peaceful
