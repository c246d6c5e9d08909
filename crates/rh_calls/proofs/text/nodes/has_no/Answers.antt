use Rattle.std.proofs.Common.{◌||◌, Bool, false, not, get_or, ap, sym, ◌∙◌}
use Rattle.std.specs.List.{list_any}
use Rattle.std.proofs.lemmas.List.{take_all}
use Rattle.rh_calls.proofs.Permissions.{found_more}
use Rattle.rh_calls.proofs.text.nodes.has_no.Goals as goal

pub loop-answer-preserved : goal.loop-answer-preserved
loop-answer-preserved c =
    let i = c.loop-answer.answer-index in
    ap (λ (b : Bool). b || not (get_or c.args.answers.now i false)) c.loop-answer.invariant
    ∙ sym (found_more c.args.answers.now i c.loop-answer-test.true)

pub returns : goal.returns
returns c = c.loop-answer.invariant ∙ ap (list_any not) (take_all c.loop-answer.answer-index c.args.answers.now c.loop-answer-test.false)
