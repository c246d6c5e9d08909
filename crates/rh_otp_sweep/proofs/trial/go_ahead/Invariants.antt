use Rattle.std.proofs.Common.{◌≡◌, drop}
use Rattle.rh_otp_sweep.specs.Outcomes.{course_of}
use Rattle.rh_otp_sweep.proofs.Courses.{with_answers}
use Rattle.rh_otp_sweep.proofs.trial.go_ahead.Given as goal

abbrev pub invariant-loop-index : goal.invariant-loop-index
invariant-loop-index l =
    course_of 0 l.fn.sim l.events ≡ with_answers l.answers.items (course_of l.index l.sim (drop l.index l.events))
