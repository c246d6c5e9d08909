-- Undo and redo are answered alike.
use Rattle.std.proofs.Common.{◌≡◌, ◌≤◌, ◌+◌, ◌-◌, ◌==◌, ℕ, Bool, true, false, cond, not, nat_lt, length, refl, sym, ap, subst, ◌∙◌, arith}
use Rattle.std.proofs.lemmas.Bool.Decides.{nat_tests}
use Rattle.std.proofs.lemmas.Bool.{true≢false}
use Rattle.rh_calls.specs.declared.call.Call.{Call}
use Rattle.rh_calls.specs.declared.call.Call.TheVariants as call
use Rattle.rh_calls.specs.declared.call.Reply.TheVariants as reply
use Rattle.rh_script.specs.Answers.{answer_text}
use Rattle.rh_trail.specs.Lone.{Served, served, answered}
use Rattle.rh_trail.specs.SimView.{SimView}
use Rattle.rh_otp_sim.specs.declared.calls.LiveReply.{LiveReply}
use Rattle.rh_otp_sim.specs.declared.calls.LiveReply.TheVariants as live_reply
use Rattle.rh_otp_sim.specs.Calls.{made_by, reply_to}
use Rattle.rh_otp_sim.specs.Sim.{LiveSimView, at_step_of}
use Rattle.rh_otp_text.specs.Replies.{reply_text}
use Rattle.rh_agreement.specs.Telling.{GoTogether, at_step}
use Rattle.rh_agreement.specs.Laws.{IsAnsweredAlike, ReversalsAreAnsweredAlike}

-- with another number of steps done they still go together
moved : (sim : SimView) (live : LiveSimView) (k : ℕ) → k ≤ length sim.trail → GoTogether sim live → GoTogether (at_step k sim) (at_step_of k live)
moved sim live k within together = record {
  cluster = together.cluster;
  now = together.always k within;
  always = together.always;
  done = refl;
  steps = together.steps;
  within = within;
}

-- where the live side counts its steps in other words
moved_so : (sim : SimView) (live : LiveSimView) (k j : ℕ) → j ≡ k → k ≤ length sim.trail → GoTogether sim live → GoTogether (at_step k sim) (at_step_of j live)
moved_so sim live k j same within together =
    subst (λ (i : ℕ). GoTogether (at_step k sim) (at_step_of i live)) (sym same) (moved sim live k within together)

-- two answers that are alike, and what they lead to
record AreAlike (s : Served) (live : LiveSimView) (r : LiveReply) (sim : SimView) : Type 0 where
  text : answer_text sim.cluster s.reply ≡ reply_text live r
  together : GoTogether s.sim live

module _ (sim : SimView) (live : LiveSimView) (together : GoTogether sim live) where
  -- an undo, where there is none to take back or there is one
  undo_by : (b c : Bool) → c ≡ not b
      → AreAlike (cond b (answered reply.AtStart sim) (answered reply.Undone (at_step (sim.cursor - 1) sim)))
      (cond c (at_step_of (live.history.cursor - 1) live) live) (cond c live_reply.Undone live_reply.AtStart) sim
  unfolding answer_text reply_text
  undo_by true true is = absurd (true≢false is)
  undo_by true false is = record { text = refl; together = together }
  undo_by false true is = record {
    text = refl;
    together =
        moved_so sim live (sim.cursor - 1) (live.history.cursor - 1) (ap (λ (k : ℕ). k - 1) together.done) (omega (arith, together.within)) together;
  }
  undo_by false false is = absurd (true≢false (sym is))

  -- a redo, where there is none to make again or there is one
  redo_by : (b c : Bool) → c ≡ not b → (b ≡ false → sim.cursor + 1 ≤ length sim.trail)
      → AreAlike (cond b (answered reply.AtEnd sim) (answered reply.Redone (at_step (sim.cursor + 1) sim)))
      (cond c (at_step_of (live.history.cursor + 1) live) live) (cond c live_reply.Redone live_reply.AtEnd) sim
  unfolding answer_text reply_text
  redo_by true true is more = absurd (true≢false is)
  redo_by true false is more = record { text = refl; together = together }
  redo_by false true is more = record {
    text = refl;
    together = moved_so sim live (sim.cursor + 1) (live.history.cursor + 1) (ap (λ (k : ℕ). k + 1) together.done) (more refl) together;
  }
  redo_by false false is more = absurd (true≢false (sym is))

pub some_or_none : (k : ℕ) → nat_lt 0 k ≡ not (k == 0)
some_or_none k = grind (arith, nat_tests)

pub more_or_none : (k n : ℕ) → k ≤ n → nat_lt (k + 1) (n + 1) ≡ not (k == n)
more_or_none k n within = grind (arith, nat_tests, within)

pub more_left : (k n : ℕ) → k ≤ n → (k == n) ≡ false → k + 1 ≤ n
more_left k n within is = grind (arith, nat_tests, within, is)

both : (sim : SimView) (live : LiveSimView) (c : Call) → AreAlike (served sim c) (made_by c live) (reply_to c live) sim
    → IsAnsweredAlike c sim live × GoTogether (served sim c).sim (made_by c live)
both sim live c alike = (alike.text, alike.together)

counted : (sim : SimView) (live : LiveSimView) (k j i : ℕ) → j ≡ k → answer_text sim.cluster (reply.Moved k) ≡ reply_text (at_step_of i live) (live_reply.Moved j)
unfolding answer_text reply_text
counted sim live k j i same = ap (λ (n : ℕ). reply_text (at_step_of i live) (live_reply.Moved n)) (sym same)

pub reversals_alike : ReversalsAreAnsweredAlike
reversals_alike sim live call.Undo together is =
    both sim live call.Undo
    (undo_by sim live together (sim.cursor == 0) (nat_lt 0 live.history.cursor)
    (ap (nat_lt 0) together.done ∙ some_or_none sim.cursor))
reversals_alike sim live call.Redo together is =
    both sim live call.Redo
    (redo_by sim live together (sim.cursor == length sim.trail) (nat_lt (live.history.cursor + 1) (length live.history.states))
    ((λ i. nat_lt (together.done i + 1) (together.steps i)) ∙ more_or_none sim.cursor (length sim.trail) together.within)
    (more_left sim.cursor (length sim.trail) together.within))
reversals_alike sim live call.UndoAll together is =
    (counted sim live sim.cursor live.history.cursor 0 together.done, moved sim live 0 (omega arith) together)
reversals_alike sim live call.RedoAll together is =
    let all : length live.history.states - 1 ≡ length sim.trail = omega (arith, together.steps) in
    let left : length live.history.states - 1 - live.history.cursor ≡ length sim.trail - sim.cursor =
    omega (arith, together.steps, together.done) in (
      counted sim live (length sim.trail - sim.cursor) (length live.history.states - 1 - live.history.cursor) (length live.history.states - 1) left,
      moved_so sim live (length sim.trail) (length live.history.states - 1) all (omega arith) together,
    )
reversals_alike sim live c together is = absurd (true≢false (sym is))
