use Rattle.std.proofs.Common.{◌≡◌, ◌≤◌, ◌*◌, take, if◌then◌else◌}
use Rattle.std.specs.List.{sum_by}
use Rattle.rh_courses.specs.Courses.{is_gap, length_by, stays_of}
use Rattle.rh_courses.proofs.course.Course.away.Given as goal

abbrev pub invariant-loop-index : goal.invariant-loop-index
invariant-loop-index l = record {
  total : l.total ≡ sum_by (λ st. if is_gap st then length_by l.fn.self.time st else 0) (take l.index (stays_of l.fn.self.changes));
  few : l.total ≤ l.index * 18446744073709551616;
}
