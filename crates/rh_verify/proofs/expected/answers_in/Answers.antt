use Rattle.std.proofs.Common.{ℕ, List}
use Rattle.rh_script.specs.Notes.{note_of}
use Rattle.rh_verify.specs.Expected.{answer_in}
use Rattle.rh_verify.proofs.Texts.{given_next}
use Rattle.rh_verify.proofs.expected.answers_in.Goals as goal

pub loop-line-preserved : goal.loop-line-preserved
loop-line-preserved c =
    given_next (λ (line : List ℕ). answer_in (note_of line)) c.args.lines.now c.loop-line.line-index _ c.loop-line-test.true _ _ c.loop-line.invariant c.in_ok-push_answer.ensures
