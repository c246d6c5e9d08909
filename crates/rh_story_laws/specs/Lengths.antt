-- The lengths of a course in a simulation (ours).
use Rattle.std.specs.Prelude.{◌≡◌, ◌+◌, ◌-◌, List}
use Rattle.rh_model.specs.ClusterView.{ClusterView, IsWithin}
use Rattle.rh_model.specs.declared.node.App.{App}
use Rattle.rh_rules.specs.declared.pick.Pick.{Pick}
use Rattle.rh_calls.specs.declared.call.Call.{Call}
use Rattle.rh_trail.specs.Lone.{opened, sim_after}
use Rattle.rh_courses.specs.Courses.{CourseView, course_in, ran, away}
use Rattle.rh_courses.specs.Laws.{began_by}

-- since an application first ran, how long it ran and how long it ran nowhere are together the time up to now
abbrev pub AddsUp : CourseView → Type 0
AddsUp course = ran course + away course ≡ course.time - began_by course.time course.changes

-- so it is with each application behind any list of calls, refused ones among them, to a simulation of a cluster that is read from a
-- file
abbrev pub LengthsAddUpInSimulations : Type 0
LengthsAddUpInSimulations =
    (c : ClusterView) (pick : Pick) (calls : List Call) (a : App) → IsWithin c → AddsUp (course_in (sim_after (opened c pick) calls) a)
