use Rattle.std.proofs.Common.{◌≡◌, ◌≤◌, count_by, take}
use Rattle.rh_courses.specs.Courses.{is_gap, stays_of}
use Rattle.rh_courses.proofs.course.Course.pieces.Given as goal

abbrev pub invariant-loop-index : goal.invariant-loop-index
invariant-loop-index l = record {
  count : l.count ≡ count_by is_gap (take l.index (stays_of l.fn.self.changes));
  few : l.count ≤ l.index;
}
