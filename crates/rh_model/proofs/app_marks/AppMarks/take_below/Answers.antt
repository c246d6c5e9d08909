use Rattle.std.proofs.Common.{arith}
use Rattle.rh_model.proofs.TakenMarks.{low_marked, low_first, low_taken}
use Rattle.rh_model.proofs.Marks.{zero_marks}
use Rattle.rh_model.proofs.app_marks.AppMarks.take_below.Goals as goal

pub returns-then-marks-eq0-clause-none : goal.returns-then-marks-eq0-clause-none
returns-then-marks-eq0-clause-none c = rw (← c.self.view_is) (λ h b lt. zero_marks c.self.inside.marks c.if-marks-eq0.true b)

pub returns-then-app-count-clause-none : goal.returns-then-app-count-clause-none
returns-then-app-count-clause-none c = rw (← c.self.view_is) (λ h b lt.
    low_first c.self.inside.marks c.self.invariant c.if-marks-eq0.false b (omega (arith, lt, c.if-app-count.true)))

pub returns-clause-marked : goal.returns-clause-marked
returns-clause-marked c = rw (← c.self.view_is) (low_marked c.self.inside.marks c.self.invariant c.if-marks-eq0.false)

pub returns-clause-first : goal.returns-clause-first
returns-clause-first c = rw (← c.self.view_is) (λ b lt. low_first c.self.inside.marks c.self.invariant c.if-marks-eq0.false b lt)

pub returns-clause-taken : goal.returns-clause-taken
returns-clause-taken c = rw (← c.self.view_is) (λ b. low_taken c.self.inside.marks c.self.invariant c.if-marks-eq0.false b)
