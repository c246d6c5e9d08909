use Rattle.std.proofs.Common.{sym, ap, ◌∙◌}
use Rattle.std.proofs.lemmas.Result.{on_ok_weaker}
use Rattle.rh_state.specs.Stored.{read}
use Rattle.rh_rules.specs.declared.notice.Move.TheVariants.{Takeover}
use Rattle.rh_rules.specs.Course.{Course}
use Rattle.rh_trace.specs.Traces.{course}
use Rattle.rh_rules.specs.Moves.{moved}
use Rattle.rh_rules.specs.ByHand.{taken_over, taken_from}
use Rattle.rh_events.proofs.Moving.{same_course}
use Rattle.rh_events.proofs.by_hand.take_over.Goals as goal

pub returns-in_ok-set_restart-in-Running-clause-course : goal.returns-in_ok-set_restart-in-Running-clause-course
unfolding taken_over
returns-in_ok-set_restart-in-Running-clause-course c =
    let s = read c.args.state.now in
    on_ok_weaker c.move_by_hand.result
    (λ made. made
    ∙ ap (λ (o : Course). moved o (Takeover c.args.app c.in-Running.from c.args.node))
    (same_course _ _ _ _ c.in_ok-set_restart-in-Running.ensures.part c.in_ok-set_restart-in-Running.ensures.silent)
    ∙ ap (taken_from (course s c.args.trace.now) c.args.node c.args.app c.args.restart) (sym c.in-Running.is ∙ c.standing.ensures.standing))
    c.move_by_hand.ensures.course
