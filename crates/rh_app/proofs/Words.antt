-- What undo and redo restore in memory, by what the calls of a simulation say.
use Rattle.std.proofs.Common.{◌≡◌, ◌≢◌, ℕ, ◌+◌, ◌-◌, ◌≤◌, ◌==◌, List, [], ◌∷◌, ◌++◌, length, Option, Some, None, Result, OnOk, Bool, true, false, cond, sym, ap, subst, refl, ◌∙◌, arith}
use Rattle.rh_rules.specs.declared.refusal.Refusal.{Refusal}
use Rattle.rh_rules.specs.declared.refusal.Refusal.TheVariants.{TrailFull}
use Rattle.rh_rules.specs.Refusals.{refused}
use Rattle.rh_rules.specs.declared.event.Event.{Event}
use Rattle.rh_rules.specs.declared.notice.Notice.{Notice}
use Rattle.rh_state.specs.Stored.{read}
use Rattle.rh_rules.specs.Steps.{Allowed, outcome, next}
use Rattle.rh_calls.specs.declared.call.Call.{Call}
use Rattle.rh_calls.specs.declared.call.Call.TheVariants as call
use Rattle.rh_calls.specs.declared.call.Reply.{Reply}
use Rattle.rh_calls.specs.declared.call.Reply.TheVariants as reply
use Rattle.rh_trail.specs.declared.sim.AtStart.{AtStart}
use Rattle.rh_trail.specs.declared.sim.AtEnd.{AtEnd}
use Rattle.rh_trail.specs.Chain.{chain, kept_to, IsChain}
use Rattle.rh_trail.specs.Laws.{Accepts, IsReversible, is_refusal, next_sim}
use Rattle.rh_trail.specs.Lone.{Served, served, stepped, sim_after, answered, with_event, undo_reply, redo_reply, trail_limit}
use Rattle.rh_trail.specs.SimView.{SimView, Held, state_of}
use Rattle.rh_trail.proofs.Chains.{chain_here}
use Rattle.rh_trail.proofs.Moves.{undo_served, went_back, back_to, went_forth, forth_to}
use Rattle.rh_trail.proofs.Reversals.{accepted}
use Rattle.rh_app.specs.Laws.{KeepsTo}

-- the words that are kept are those of the chain at the cursor
pub words_here : (s : Held) → IsChain s → chain s s.seen.cursor ≡ s.words
words_here s h = chain_here s.words s.records s.seen.cursor (omega (arith, h.count, h.within))

-- and they mean the state behind the events that stand
pub reads_here : (s : Held) → IsChain s → read s.words ≡ state_of s.seen
reads_here s h = ap read (sym (words_here s h)) ∙ h.each s.seen.cursor h.within

-- a step of s that was accepted, behind which t stands
module _ (s t : Held) (h : IsChain s) (e : Event) (ns : List Notice) (is : Accepts s.seen e ns) (at : t.seen ≡ next_sim s.seen (call.Step e)) where
  pub stepped_to : t.seen ≡ with_event s.seen e
  stepped_to = at ∙ (accepted s.seen e ns is).sim

  stepped_cursor : t.seen.cursor ≡ s.seen.cursor + 1
  stepped_cursor = ap (λ (v : SimView). v.cursor) stepped_to

  pub behind_start : t.seen.cursor ≢ 0
  behind_start = λ none. absurd (omega (arith, none, stepped_cursor))

  pub step_undone : (u : Held) → ((k : ℕ) → k ≤ s.seen.cursor → chain t k ≡ chain s k) → u.words ≡ chain t (t.seen.cursor - 1) → u.words ≡ s.words
  step_undone u kept undo =
      let place : t.seen.cursor - 1 ≡ s.seen.cursor = omega (arith, stepped_cursor) in
      undo ∙ ap (λ k. chain t k) place ∙ kept s.seen.cursor (omega arith) ∙ words_here s h

  -- what is kept behind the step, or has the same meaning, is a state that the rules allow
  pub step_allowed : (u : Held) → IsReversible s.seen → IsChain u → u.seen ≡ t.seen → Allowed (read s.words) e (outcome (read u.words) ns)
  step_allowed u law chained same =
      let meant : read u.words ≡ state_of (next_sim s.seen (call.Step e)) = reads_here u chained ∙ ap state_of (same ∙ at) in
      subst (λ x. Allowed x e (outcome (read u.words) ns)) (sym (reads_here s h))
      (subst (λ x. Allowed (state_of s.seen) e (outcome x ns)) (sym meant) (law.steps e ns is).allowed)

-- s with a step to take back, t behind its undo, and u behind the redo
module _ (s t u : Held) (h : IsChain s) (r : Result ℕ AtStart) (q : Result ℕ AtEnd) (some : s.seen.cursor ≢ 0)
    (undo : served s.seen call.Undo ≡ answered (undo_reply r) t.seen) (redo : served t.seen call.Redo ≡ answered (redo_reply q) u.seen) where
  back : t.seen ≡ record s.seen { cursor = s.seen.cursor - 1 }
  back = back_to s.seen t.seen r some undo

  back_cursor : t.seen.cursor ≡ s.seen.cursor - 1
  back_cursor = ap (λ (v : SimView). v.cursor) back

  not_end : t.seen.cursor ≢ length t.seen.trail
  not_end = λ e. absurd (omega (arith, e, back_cursor, ap (λ (v : SimView). length v.trail) back, h.within, some))

  pub redone_words : ((k : ℕ) → k ≤ length s.seen.trail → chain t k ≡ chain s k) → OnOk q (u.words ≡ chain t (t.seen.cursor + 1)) → u.words ≡ s.words
  redone_words kept words =
      let place : t.seen.cursor + 1 ≡ s.seen.cursor = omega (arith, back_cursor, some) in
      went_forth t.seen u.seen q (u.words ≡ chain t (t.seen.cursor + 1)) not_end redo words
      ∙ ap (λ k. chain t k) place ∙ kept s.seen.cursor h.within ∙ words_here s h

-- s with a step to make again, t behind its redo, and u behind the undo
module _ (s t u : Held) (h : IsChain s) (r : Result ℕ AtEnd) (q : Result ℕ AtStart) (some : s.seen.cursor ≢ length s.seen.trail)
    (redo : served s.seen call.Redo ≡ answered (redo_reply r) t.seen) (undo : served t.seen call.Undo ≡ answered (undo_reply q) u.seen) where
  forth : t.seen ≡ record s.seen { cursor = s.seen.cursor + 1 }
  forth = forth_to s.seen t.seen r some redo

  forth_cursor : t.seen.cursor ≡ s.seen.cursor + 1
  forth_cursor = ap (λ (v : SimView). v.cursor) forth

  not_start : t.seen.cursor ≢ 0
  not_start = λ e. absurd (omega (arith, e, forth_cursor))

  pub taken_words : ((k : ℕ) → k ≤ length s.seen.trail → chain t k ≡ chain s k) → OnOk q (u.words ≡ chain t (t.seen.cursor - 1)) → u.words ≡ s.words
  taken_words kept words =
      let place : t.seen.cursor - 1 ≡ s.seen.cursor = omega (arith, forth_cursor) in
      went_back t.seen u.seen q (u.words ≡ chain t (t.seen.cursor - 1)) not_start undo words
      ∙ ap (λ k. chain t k) place ∙ kept s.seen.cursor h.within ∙ words_here s h

-- s at its end, t behind all of its undos, and u behind all redos
pub all_redone : (s t u : Held) → IsChain s → ((k : ℕ) → k ≤ length s.seen.trail → chain t k ≡ chain s k) → t.seen ≡ record s.seen { cursor = 0 }
    → u.words ≡ chain t (length t.seen.trail) → s.seen.cursor ≡ length s.seen.trail → u.words ≡ s.words
all_redone s t u h kept back words end =
    words ∙ ap (λ (v : SimView). chain t (length v.trail)) back ∙ kept (length s.seen.trail) (omega arith) ∙ ap (λ k. chain s k) (sym end) ∙ words_here s h

-- the same place, over the same chain
pub same_place : (s u : Held) → IsChain s → IsChain u → chain u s.seen.cursor ≡ chain s s.seen.cursor → u.seen.cursor ≡ s.seen.cursor → u.words ≡ s.words
same_place s u h g kept at = sym (words_here u g) ∙ ap (λ k. chain u k) at ∙ kept ∙ words_here s h

-- one more call
pub after_more : (s : SimView) (calls : List Call) (x : Call) → sim_after s (calls ++ x ∷ []) ≡ next_sim (sim_after s calls) x
after_more s [] x = refl
after_more s (y ∷ ys) x = after_more (served s y).sim ys x

pub keeps_more : (s : SimView) (calls : List Call) (x : Call) (k : ℕ) → KeepsTo s (calls ++ x ∷ []) k → KeepsTo s calls k × (k ≤ kept_to (sim_after s calls) x)
keeps_more s [] x k h = (tt, h.0)
keeps_more s (y ∷ ys) x k h = let rest = keeps_more (served s y).sim ys x k h.1 in ((h.0, rest.0), rest.1)

-- the undo of a room behind such a step isn't refused
pub undo_told : (v : SimView) → v.cursor ≢ 0 → is_refusal (served v call.Undo).reply ≡ false
undo_told v some = ap (λ (a : Served). is_refusal a.reply) (undo_served v v.cluster some refl)

abbrev refused_as : SimView → Refusal → Served
refused_as s r = answered (reply.Refused r) s

-- a step that isn't refused is done
pub step_done : (s : SimView) (e : Event) → is_refusal (served s (call.Step e)).reply ≡ false → Accepts s e (next (state_of s) e s.pick).notices
step_done s e = by (refused (state_of s) e)
  where
    within : (b : Bool) → is_refusal (cond b (refused_as s TrailFull) (answered (reply.Done (next (state_of s) e s.pick).notices) (with_event s e))).reply ≡ false
        → (cond b (refused_as s TrailFull) (answered (reply.Done (next (state_of s) e s.pick).notices) (with_event s e))).reply
        ≡ reply.Done (next (state_of s) e s.pick).notices
    within true h = absurd (cc h)
    within false h = refl

    by : (o : Option Refusal) → is_refusal (stepped s e o).reply ≡ false → (stepped s e o).reply ≡ reply.Done (next (state_of s) e s.pick).notices
    by (Some r) h = absurd (cc h)
    by None h = within (s.cursor == trail_limit) h

-- and one that isn't done is refused
pub refused_unless_done : (s : SimView) (e : Event) (r : Reply) → r ≡ (served s (call.Step e)).reply → ((ns : List Notice) → r ≡ reply.Done ns → ⊥)
    → is_refusal r ≡ true
refused_unless_done s e r told not_done = by (is_refusal r) refl
  where
    by : (b : Bool) → is_refusal r ≡ b → is_refusal r ≡ true
    by true h = h
    by false h = absurd (not_done (next (state_of s) e s.pick).notices (told ∙ step_done s e (ap is_refusal (sym told) ∙ h)))

-- a room that served a step of s, which wasn't refused and behind which t stands, and then an undo, behind which u stands
pub served_back : (s t u : Held) → IsChain s → (e : Event) (r q : Reply) → r ≡ (served s.seen (call.Step e)).reply → is_refusal r ≡ false
    → t.seen ≡ next_sim s.seen (call.Step e) → ((k : ℕ) → k ≤ s.seen.cursor → chain t k ≡ chain s k)
    → q ≡ (served t.seen call.Undo).reply → (is_refusal q ≡ false → u.words ≡ chain t (t.seen.cursor - 1)) → u.words ≡ s.words
served_back s t u h e r q told fine at kept undone words =
    let ns : List Notice = (next (state_of s.seen) e s.seen.pick).notices in
    let is : Accepts s.seen e ns = step_done s.seen e (ap is_refusal (sym told) ∙ fine) in
    step_undone s t h e ns is at u kept (words (ap is_refusal undone ∙ undo_told t.seen (behind_start s t h e ns is at)))
