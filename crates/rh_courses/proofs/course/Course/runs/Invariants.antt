use Rattle.std.proofs.Common.{◌≡◌, filter, take}
use Rattle.rh_courses.specs.Courses.{is_run, stays_of}
use Rattle.rh_courses.proofs.course.Course.runs.Given as goal

abbrev pub invariant-loop-index : goal.invariant-loop-index
invariant-loop-index l = l.found.items ≡ filter is_run (take l.index (stays_of l.fn.self.changes))
