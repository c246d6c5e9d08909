use Rattle.std.proofs.Common.{sym, ap, ◌∙◌}
use Rattle.std.proofs.lemmas.Result.{on_ok_weaker}
use Rattle.rh_state.specs.Stored.{read}
use Rattle.rh_trace.specs.Traces.{course}
use Rattle.rh_rules.specs.Moves.{moved}
use Rattle.rh_trace.proofs.make.make_move.Goals as goal

pub returns-in-Local-clause-course : goal.returns-in-Local-clause-course
returns-in-Local-clause-course c =
    on_ok_weaker c.start_locally.result
    (λ made. made ∙ ap (moved (course (read c.args.state.now) c.args.trace.now)) (sym c.in-Local.is))
    c.start_locally.ensures.course

pub returns-in-Placement-clause-course : goal.returns-in-Placement-clause-course
returns-in-Placement-clause-course c =
    on_ok_weaker c.place.result
    (λ made. made ∙ ap (moved (course (read c.args.state.now) c.args.trace.now)) (sym c.in-Placement.is))
    c.place.ensures.course

pub returns-in-Takeover-clause-course : goal.returns-in-Takeover-clause-course
returns-in-Takeover-clause-course c =
    on_ok_weaker c.take_over.result
    (λ made. made ∙ ap (moved (course (read c.args.state.now) c.args.trace.now)) (sym c.in-Takeover.is))
    c.take_over.ensures.course
