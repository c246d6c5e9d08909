use Rattle.std.proofs.Common.{◌∙◌}
use Rattle.std.proofs.lemmas.Result.{on_ok_weaker}
use Rattle.rh_state.specs.Stored.{read}
use Rattle.rh_events.proofs.Moving.{same_takeover}
use Rattle.rh_events.proofs.by_hand.move_by_hand.Goals as goal

pub returns-clause-course : goal.returns-clause-course
returns-clause-course c =
    on_ok_weaker c.make_move.result
    (λ made. made
    ∙ same_takeover (read c.args.state.now) (read c.start_if_off.new.state) c.args.app c.args.from c.args.node _ _
    c.in_ok-start_if_off.ensures.silent c.in_ok-start_if_off.ensures.others)
    c.make_move.ensures.course
