-- Undo and redo after any list of calls.
use Rattle.std.proofs.Common.{◌≡◌, ℕ, zero, suc, replicate, ◌+◌, ◌-◌, ◌<◌, ◌≤◌, ◌==◌, List, [], ◌∷◌, ◌++◌, length, take, Option, Some, None, Bool, true, false, cond, refl, sym, ap}
use Rattle.std.proofs.Common.{subst, ◌∙◌, arith}
use Rattle.std.proofs.lemmas.Bool.Decides.{nat_tests}
use Rattle.std.proofs.lemmas.List.{length-take-le, take_all, take_at, length_push}
use Rattle.rh_rules.specs.declared.event.Event.{Event}
use Rattle.rh_rules.specs.declared.notice.Notice.{Notice}
use Rattle.rh_rules.specs.declared.refusal.Refusal.{Refusal}
use Rattle.rh_rules.specs.declared.refusal.Refusal.TheVariants.{TrailFull}
use Rattle.rh_calls.specs.declared.call.Call.{Call}
use Rattle.rh_calls.specs.declared.call.Call.TheVariants as call
use Rattle.rh_calls.specs.declared.call.Reply.{Reply}
use Rattle.rh_calls.specs.declared.call.Reply.TheVariants as reply
use Rattle.rh_rules.specs.Refusals.{refused}
use Rattle.rh_rules.specs.Steps.{Outcome, outcome, next, Allowed}
use Rattle.rh_step.specs.Runs.{step, after}
use Rattle.rh_trail.specs.SimView.{SimView, state_of}
use Rattle.rh_trail.specs.Lone.{Served, answered, served, stepped, with_event, opened, sim_after, trail_limit}
use Rattle.rh_trail.specs.Laws.{is_refusal, next_sim, Accepts, IsReversible, CallsAreReversible}
use Rattle.rh_trace.specs.Validity.{IsValid}
use Rattle.rh_step.proofs.Outcomes.{next_allowed}
use Rattle.rh_step.proofs.Validity.{next_valid}
use Rattle.rh_trail.proofs.Histories.{opened_valid, each_state, state_last}

-- the cursor stands in the trail, and the trail keeps its limit
pub record IsSound (s : SimView) : Type 0 where
  pub within : s.cursor ≤ length s.trail
  pub limited : length s.trail ≤ trail_limit
  pub valid : (k : ℕ) → k ≤ length s.trail → IsValid (after s.cluster s.pick (take k s.trail))

-- so the state is one that a cluster reaches
state_valid : (s : SimView) → IsSound s → IsValid (state_of s)
state_valid s sound = sound.valid s.cursor sound.within

abbrev done : SimView → Event → Served
done s e = answered (reply.Done (next (state_of s) e s.pick).notices) (with_event s e)

abbrev full : SimView → Served
full s = answered (reply.Refused TrailFull) s

kept_front : (s : SimView) → s.cursor ≤ length s.trail → length (take s.cursor s.trail) ≡ s.cursor
kept_front s within = length-take-le s.cursor s.trail within

event_sound : (s : SimView) (e : Event) → IsSound s → refused (state_of s) e ≡ None → (s.cursor == trail_limit) ≡ false → IsSound (with_event s e)
unfolding step
event_sound s e sound fine room =
    let below : s.cursor < trail_limit = grind (arith, nat_tests, sound.within, sound.limited) in
    record {
      within = omega (arith, length_push (take s.cursor s.trail) e, kept_front s sound.within);
      limited = omega (arith, length_push (take s.cursor s.trail) e, kept_front s sound.within);
      valid = each_state s.cluster s.pick s.trail s.cursor e sound.within IsValid sound.valid (next_valid (state_of s) e s.pick (state_valid s sound) fine);
    }

step_sound : (s : SimView) (e : Event) (o : Option Refusal) → refused (state_of s) e ≡ o → IsSound s → IsSound (stepped s e o).sim
step_sound s e (Some r) fine sound = sound
step_sound s e None fine sound = by (s.cursor == trail_limit) refl
  where
    by : (b : Bool) → (s.cursor == trail_limit) ≡ b → IsSound (cond b (full s) (done s e)).sim
    by true _ = sound
    by false room = event_sound s e sound fine room

call_sound : (s : SimView) (call : Call) → IsSound s → IsSound (served s call).sim
call_sound s (call.Step e) sound = step_sound s e (refused (state_of s) e) refl sound
call_sound s call.Undo sound = by (s.cursor == 0)
  where
    by : (b : Bool) → IsSound (cond b (answered reply.AtStart s) (answered reply.Undone (record s { cursor = s.cursor - 1 }))).sim
    by true = sound
    by false = record { within = omega (arith, sound.within); limited = sound.limited; valid = sound.valid }
call_sound s call.Redo sound = by (s.cursor == length s.trail) refl
  where
    by : (b : Bool) → (s.cursor == length s.trail) ≡ b → IsSound
        (cond b (answered reply.AtEnd s) (answered reply.Redone (record s { cursor = s.cursor + 1 }))).sim
    by true _ = sound
    by false more = record { within = grind (arith, nat_tests, sound.within); limited = sound.limited; valid = sound.valid }
call_sound s call.UndoAll sound = record { within = omega arith; limited = sound.limited; valid = sound.valid }
call_sound s call.RedoAll sound = record { within = omega arith; limited = sound.limited; valid = sound.valid }
call_sound s call.Look sound = sound

calls_sound : (s : SimView) (calls : List Call) → IsSound s → IsSound (sim_after s calls)
calls_sound s [] sound = sound
calls_sound s (call ∷ calls) sound = calls_sound (served s call).sim calls (call_sound s call sound)

-- what the answer to an event says where it was accepted
pub record IsAccepted (s : SimView) (e : Event) (ns : List Notice) : Type 0 where
  pub fine : refused (state_of s) e ≡ None
  pub told : ns ≡ (next (state_of s) e s.pick).notices
  pub sim : next_sim s (call.Step e) ≡ with_event s e

abbrev is_done : Reply → Bool
is_done (reply.Done _) = true
is_done _ = false

abbrev notices_or : List Notice → Reply → List Notice
notices_or ns (reply.Done found) = found
notices_or ns _ = ns

pub accepted : (s : SimView) (e : Event) (ns : List Notice) → Accepts s e ns → IsAccepted s e ns
accepted s e ns is = by (refused (state_of s) e) refl is
  where
    within : (b : Bool) → (s.cursor == trail_limit) ≡ b → refused (state_of s) e ≡ None → (cond b (full s) (done s e)).reply ≡ reply.Done ns → IsAccepted s e ns
    within true _ _ h = absurd (cc (ap is_done h))
    within false room at h = record {
      fine = at;
      told = sym (ap (notices_or ns) h);
      sim = ap (λ o. (stepped s e o).sim) at ∙ ap (λ b. (cond b (full s) (done s e)).sim) room;
    }

    by : (o : Option Refusal) → refused (state_of s) e ≡ o → (stepped s e o).reply ≡ reply.Done ns → IsAccepted s e ns
    by (Some r) at h = absurd (cc (ap is_done h))
    by None at h = within (s.cursor == trail_limit) refl at h

-- the state after one more event
pub state_of-with_event : (s : SimView) (e : Event) → s.cursor ≤ length s.trail → state_of (with_event s e) ≡ step s.pick (state_of s) e
state_of-with_event s e within = state_last s.cluster s.pick s.trail s.cursor e within

-- the simulation with another cursor
abbrev at_cursor : SimView → ℕ → SimView
at_cursor s k = record s { cursor = k }

undo_sim : (s : SimView) → (s.cursor == 0) ≡ false → next_sim s call.Undo ≡ at_cursor s (s.cursor - 1)
undo_sim s more = ap (λ b. (cond b (answered reply.AtStart s) (answered reply.Undone (at_cursor s (s.cursor - 1)))).sim) more

redo_sim : (s : SimView) → (s.cursor == length s.trail) ≡ false → next_sim s call.Redo ≡ at_cursor s (s.cursor + 1)
redo_sim s more = ap (λ b. (cond b (answered reply.AtEnd s) (answered reply.Redone (at_cursor s (s.cursor + 1)))).sim) more

-- back and forth from a place that isn't the start
back_forth : (s : SimView) → IsSound s → (s.cursor == 0) ≡ false → next_sim (next_sim s call.Undo) call.Redo ≡ s
back_forth s sound more =
    let behind_start : 0 < s.cursor = grind (arith, nat_tests) in
    let not_end : (s.cursor - 1 == length s.trail) ≡ false = grind (arith, nat_tests, sound.within) in
    let again : s.cursor - 1 + 1 ≡ s.cursor = omega arith in
    ap (λ (t : SimView). next_sim t call.Redo) (undo_sim s more) ∙ redo_sim (at_cursor s (s.cursor - 1)) not_end ∙ ap (at_cursor s) again

-- forth and back from a place that isn't the end
forth_back : (s : SimView) → (s.cursor == length s.trail) ≡ false → next_sim (next_sim s call.Redo) call.Undo ≡ s
forth_back s more =
    let not_start : (s.cursor + 1 == 0) ≡ false = grind (arith, nat_tests) in
    let again : s.cursor + 1 - 1 ≡ s.cursor = omega arith in
    ap (λ (t : SimView). next_sim t call.Undo) (redo_sim s more) ∙ undo_sim (at_cursor s (s.cursor + 1)) not_start ∙ ap (at_cursor s) again

abbrev is_undone : Reply → Bool
is_undone reply.Undone = true
is_undone _ = false

abbrev is_redone : Reply → Bool
is_redone reply.Redone = true
is_redone _ = false

moved_back : (s : SimView) → (served s call.Undo).reply ≡ reply.Undone → (s.cursor == 0) ≡ false
moved_back s is = by (s.cursor == 0) is
  where
    by : (b : Bool) → (cond b (answered reply.AtStart s) (answered reply.Undone (at_cursor s (s.cursor - 1)))).reply ≡ reply.Undone → b ≡ false
    by true h = absurd (cc (ap is_undone h))
    by false h = refl

moved_forth : (s : SimView) → (served s call.Redo).reply ≡ reply.Redone → (s.cursor == length s.trail) ≡ false
moved_forth s is = by (s.cursor == length s.trail) is
  where
    by : (b : Bool) → (cond b (answered reply.AtEnd s) (answered reply.Redone (at_cursor s (s.cursor + 1)))).reply ≡ reply.Redone → b ≡ false
    by true h = absurd (cc (ap is_redone h))
    by false h = refl

module _ (s : SimView) (sound : IsSound s) (e : Event) (ns : List Notice) (is : Accepts s e ns) where
  is_allowed : Allowed (state_of s) e (outcome (state_of (next_sim s (call.Step e))) ns)
  unfolding step
  is_allowed =
      let a = accepted s e ns is in
      let state_is : state_of (next_sim s (call.Step e)) ≡ (next (state_of s) e s.pick).state = ap state_of a.sim ∙ state_of-with_event s e sound.within in
      subst (λ (o : Outcome). Allowed (state_of s) e o) (λ i. outcome (sym state_is i) (sym a.told i))
      (next_allowed (state_of s) e s.pick (state_valid s sound) a.fine)

  is_undone_to : state_of (next_sim (next_sim s (call.Step e)) call.Undo) ≡ state_of s
  is_undone_to =
      let a = accepted s e ns is in
      let not_start : (s.cursor + 1 == 0) ≡ false = grind (arith, nat_tests) in
      let again : s.cursor + 1 - 1 ≡ s.cursor = omega arith in
      ap (λ (t : SimView). state_of (next_sim t call.Undo)) a.sim
      ∙ ap state_of (undo_sim (with_event s e) not_start)
      ∙ ap (λ k. after s.cluster s.pick (take k (take s.cursor s.trail ++ e ∷ []))) again
      ∙ ap (after s.cluster s.pick) (take_at (take s.cursor s.trail) (e ∷ []) s.cursor (kept_front s sound.within))

  is_redone_to : next_sim (next_sim (next_sim s (call.Step e)) call.Undo) call.Redo ≡ next_sim s (call.Step e)
  is_redone_to =
      let a = accepted s e ns is in
      let not_start : (s.cursor + 1 == 0) ≡ false = grind (arith, nat_tests) in
      let sound_after : IsSound (next_sim s (call.Step e)) = call_sound s (call.Step e) sound in
      let moved : ((next_sim s (call.Step e)).cursor == 0) ≡ false = ap (λ (t : SimView). t.cursor == 0) a.sim ∙ not_start in
      back_forth (next_sim s (call.Step e)) sound_after moved

-- a call whose reply is a refusal
step_kept : (s : SimView) (e : Event) (o : Option Refusal) → is_refusal (stepped s e o).reply ≡ true → (stepped s e o).sim ≡ s
step_kept s e (Some r) h = refl
step_kept s e None h = by (s.cursor == trail_limit) h
  where
    by : (b : Bool) → is_refusal (cond b (full s) (done s e)).reply ≡ true → (cond b (full s) (done s e)).sim ≡ s
    by true _ = refl
    by false is = absurd (cc is)

call_kept : (s : SimView) (call : Call) → is_refusal (served s call).reply ≡ true → next_sim s call ≡ s
call_kept s (call.Step e) h = step_kept s e (refused (state_of s) e) h
call_kept s call.Undo h = by (s.cursor == 0) h
  where
    by : (b : Bool) → is_refusal (cond b (answered reply.AtStart s) (answered reply.Undone (at_cursor s (s.cursor - 1)))).reply ≡ true
        → (cond b (answered reply.AtStart s) (answered reply.Undone (at_cursor s (s.cursor - 1)))).sim ≡ s
    by true _ = refl
    by false is = absurd (cc is)
call_kept s call.Redo h = by (s.cursor == length s.trail) h
  where
    by : (b : Bool) → is_refusal (cond b (answered reply.AtEnd s) (answered reply.Redone (at_cursor s (s.cursor + 1)))).reply ≡ true
        → (cond b (answered reply.AtEnd s) (answered reply.Redone (at_cursor s (s.cursor + 1)))).sim ≡ s
    by true _ = refl
    by false is = absurd (cc is)
call_kept s call.UndoAll h = absurd (cc h)
call_kept s call.RedoAll h = absurd (cc h)
call_kept s call.Look h = refl

-- so many steps back, and so many forth
undos_lead : (k : ℕ) (s : SimView) → k ≤ s.cursor → sim_after s (replicate k call.Undo) ≡ at_cursor s (s.cursor - k)
undos_lead zero s within = ap (at_cursor s) (omega arith)
undos_lead (suc k) s within =
    let not_start : (s.cursor == 0) ≡ false = grind (arith, nat_tests, within) in
    let rest : s.cursor - 1 - k ≡ s.cursor - suc k = omega (arith, within) in
    ap (λ (t : SimView). sim_after t (replicate k call.Undo)) (undo_sim s not_start)
    ∙ undos_lead k (at_cursor s (s.cursor - 1)) (omega (arith, within))
    ∙ ap (at_cursor s) rest

redos_lead : (k : ℕ) (s : SimView) → s.cursor + k ≤ length s.trail → sim_after s (replicate k call.Redo) ≡ at_cursor s (s.cursor + k)
redos_lead zero s within = ap (at_cursor s) (omega arith)
redos_lead (suc k) s within =
    let not_end : (s.cursor == length s.trail) ≡ false = grind (arith, nat_tests, within) in
    let rest : s.cursor + 1 + k ≡ s.cursor + suc k = omega arith in
    ap (λ (t : SimView). sim_after t (replicate k call.Redo)) (redo_sim s not_end)
    ∙ redos_lead k (at_cursor s (s.cursor + 1)) (omega (arith, within))
    ∙ ap (at_cursor s) rest

pub reversible : (s : SimView) → IsSound s → IsReversible s
reversible s sound = record {
  within = sound.within;
  limited = sound.limited;
  valid = state_valid s sound;
  steps = λ e ns is. record {
    allowed = is_allowed s sound e ns is;
    undone = is_undone_to s sound e ns is;
    redone = is_redone_to s sound e ns is;
  };
  moves = record {
    back_to = λ k within. ap state_of (undos_lead k s within);
    forth_to = λ k within. ap state_of (redos_lead k s within);
    back = λ is. back_forth s sound (moved_back s is);
    forth = λ is. forth_back s (moved_forth s is);
    all_undone = refl;
    all_redone = ap (after s.cluster s.pick) (take_all (length s.trail) s.trail (omega arith));
  };
  refused = call_kept s;
}

pub calls_reversible : CallsAreReversible
calls_reversible c pick calls fits = reversible (sim_after (opened c pick) calls)
    (calls_sound (opened c pick) calls (record { within = omega arith; limited = omega arith; valid = λ k none. opened_valid c pick fits k }))
