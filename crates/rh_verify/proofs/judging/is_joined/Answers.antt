use Rattle.std.proofs.Common.{sym, ◌∙◌}
use Rattle.rh_verify.proofs.Joined.{line_agrees, line_differs}
use Rattle.rh_verify.proofs.judging.is_joined.Goals as goal

pub returns-in-None : goal.returns-in-None
returns-in-None c = sym (c.loop-line.invariant ∙ line_differs c.args.lines.now c.loop-line.line-index _ c.loop-line-test.true c.loop-line.rest.now c.in-None.ensures)

pub loop-line-preserved : goal.loop-line-preserved
loop-line-preserved c =
    c.loop-line.invariant ∙ line_agrees c.args.lines.now c.loop-line.line-index _ c.loop-line-test.true c.loop-line.rest.now c.in-Some.after.now c.in-Some.ensures
