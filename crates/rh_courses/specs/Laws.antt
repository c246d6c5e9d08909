-- Laws of courses (ours).
use Rattle.std.specs.Prelude.{◌≡◌, ◌≤◌, ◌+◌, ◌-◌, ℕ, List, [], ◌∷◌, slice_get, unwrap_or}
use Rattle.std.specs.Option.{option_map}
use Rattle.rh_courses.specs.declared.course.Change.{Change}
use Rattle.rh_courses.specs.Courses.{CourseView, ran, away}

-- the time of the first of some changes: now, if there is none
abbrev pub began_by : ℕ → List Change → ℕ
began_by now cs = unwrap_or (option_map (λ (d : Change). d.time) (slice_get cs 0)) now

-- the times of the changes don't fall, and none is behind now
abbrev pub DontFall : ℕ → List Change → Type 0
DontFall now [] = Unit {0}
DontFall now (c ∷ cs) = (c.time ≤ began_by now cs) × DontFall now cs

-- since it first ran an application ran somewhere or nowhere: both lengths together are the time since then
abbrev pub LengthsAddUp : Type 0
LengthsAddUp = (c : CourseView) → DontFall c.time c.changes → ran c + away c ≡ c.time - began_by c.time c.changes
