use Rattle.std.proofs.Common.{◌≡◌, ◌++◌, take}
use Rattle.std.specs.List.{flat_map}
use Rattle.rh_story.specs.TableText.{course_line}
use Rattle.rh_story.proofs.table.push_courses.Given as goal

abbrev pub invariant-loop-course : goal.invariant-loop-course
invariant-loop-course l = l.text.items ≡ l.fn.text.items ++ flat_map (course_line l.cluster) (take l.course-index l.courses)
