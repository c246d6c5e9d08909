use Rattle.std.proofs.Common.{sym, ◌∙◌}
use Rattle.rh_state.specs.Stored.{read}
use Rattle.rh_trace.specs.Traces.{course}
use Rattle.rh_refusals.proofs.RefusedByHand.{off_unstarted}
use Rattle.rh_events.proofs.StoppingAll.{leave_off}
use Rattle.rh_events.proofs.everywhere.leave.Goals as goal

pub returns-in-Off-clause-course : goal.returns-in-Off-clause-course
returns-in-Off-clause-course c =
    leave_off (course (read c.args.state.now) c.args.trace.now) c.args.node c.args.app
    (off_unstarted (read c.args.state.now) c.args.node c.args.app (sym c.in-Off.is ∙ c.place_of.ensures))
