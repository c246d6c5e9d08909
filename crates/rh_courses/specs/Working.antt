-- What is noted of courses on the way along the trail (ours).
use Rattle.std.specs.Prelude.{◌<◌, ◌++◌, ◌∷◌, [], ℕ, List, length, map, fold, Option, Some, None, All}
use Rattle.rh_model.specs.ClusterView.{ClusterView, app_count}
use Rattle.rh_model.specs.declared.node.App.{App}
use Rattle.rh_state.specs.StateView.{StateView}
use Rattle.rh_state.specs.Stored.{Stored, read}
use Rattle.rh_rules.specs.declared.pick.Pick.{Pick}
use Rattle.rh_courses.specs.Moments.{behind_timers}
use Rattle.rh_courses.specs.Courses.{CourseView, changes_from, moment, place_in}

-- an application that hasn't run
abbrev pub not_run : App → CourseView
not_run a = record { app = a; changes = []; place = None; time = 0 }

-- a state is passed: a change more, if it runs elsewhere now
unfoldable pub noted : CourseView → StateView → CourseView
noted c s = record {
  app = c.app;
  changes = c.changes ++ changes_from c.place (moment c.app s ∷ []);
  place = place_in s c.app;
  time = s.time;
}

-- all courses note it
abbrev pub all_noted : List CourseView → StateView → List CourseView
all_noted cs s = map (λ c. noted c s) cs

-- states are passed, one after the other
abbrev pub noted_along : List CourseView → List StateView → List CourseView
noted_along cs states = fold all_noted cs states

-- the courses are of applications of the cluster
abbrev pub AreOf : ClusterView → List CourseView → Type 0
AreOf cluster cs = All (λ c. c.app.0 < app_count cluster) cs

-- the states behind the timers that are due in a copy of a state, if there is one
abbrev pub behind_in : Pick → ℕ → Option Stored → List StateView
behind_in pick limit None = []
behind_in pick limit (Some state) = behind_timers pick (length (read state).timers) limit (read state)
