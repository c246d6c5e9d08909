use Rattle.std.proofs.Common.{◌≡◌, ◌++◌, map, take, drop}
use Rattle.rh_state.specs.Stored.{read}
use Rattle.rh_courses.specs.Working.{noted}
use Rattle.rh_courses.proofs.walk.note.Given as goal

abbrev pub invariant-courses : goal.invariant-courses
invariant-courses l = l.courses.items ≡ map (λ c. noted c (read l.fn.state)) (take l.index l.fn.courses.items) ++ drop l.index l.fn.courses.items
