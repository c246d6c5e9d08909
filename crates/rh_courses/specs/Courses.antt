-- Where a distributed application ran, from when to when (ours).
use Rattle.std.specs.Prelude.{ℕ, ◌-◌, Bool, true, false, List, [], ◌∷◌, map, filter, count_by, slice_get, unwrap_or, not, Option, Some, None, is_some, is_none, if◌then◌else◌}
use Rattle.std.specs.List.{sum_by}
use Rattle.std.specs.Option.{option_map}
use Rattle.rh_model.specs.ClusterView.{ClusterView}
use Rattle.rh_model.specs.declared.node.Node.{Node}
use Rattle.rh_model.specs.declared.node.App.{App}
use Rattle.rh_state.specs.declared.status.Standing.{Standing}
use Rattle.rh_state.specs.declared.status.Standing.TheVariants.{Running}
use Rattle.rh_state.specs.Numbers.{same_node, apps_of}
use Rattle.rh_state.specs.StateView.{StateView, standing_of}
use Rattle.rh_rules.specs.Course.{is_local}
use Rattle.rh_trail.specs.SimView.{SimView, state_of}
use Rattle.rh_courses.specs.declared.course.Change.{Change}
use Rattle.rh_courses.specs.declared.course.Stay.{Stay}
use Rattle.rh_courses.specs.Moments.{states_of}

-- ---- where it runs at a moment

-- the node at which an application runs that stands so, if it runs
abbrev pub place_of : Standing → Option Node
place_of (Running n) = Some n
place_of _ = None

abbrev pub place_in : StateView → App → Option Node
place_in s a = place_of (standing_of s a)

-- the time of a state, and where the application runs in it
abbrev pub moment : App → StateView → Change
moment a s = record { time = s.time; place = place_in s a }

-- its moments in a simulation, in order
abbrev pub moments : SimView → App → List Change
moments s a = map (moment a) (states_of s)

-- ---- its course

abbrev pub same_place : Option Node → Option Node → Bool
same_place None None = true
same_place (Some n) (Some m) = same_node n m
same_place _ _ = false

-- the moments at which it is elsewhere than just before, from a place on
unfoldable pub changes_from : Option Node → List Change → List Change
changes_from place [] = []
changes_from place (m ∷ ms) = if same_place place m.place then changes_from m.place ms else m ∷ changes_from m.place ms

-- when it came to run elsewhere or nowhere, where it runs now, and the time now
pub record CourseView : Type 0 where
  pub app : App
  pub changes : List Change
  pub place : Option Node
  pub time : ℕ

-- the course of an application in a simulation: before the first event it runs nowhere
abbrev pub course_in : SimView → App → CourseView
course_in s a = record {
  app = a;
  changes = changes_from None (moments s a);
  place = place_in (state_of s) a;
  time = (state_of s).time;
}

-- the distributed applications, in their order
abbrev pub distributed : ClusterView → List App
distributed c = filter (λ a. not (is_local c a)) (apps_of c)

-- their courses
abbrev pub courses_in : SimView → List CourseView
courses_in s = map (course_in s) (distributed s.cluster)

-- ---- its stays

-- from a change up to the next one, if there is one
abbrev pub stay : Change → Option Change → Stay
stay c next = record { place = c.place; start = c.time; end = option_map (λ (d : Change). d.time) next }

unfoldable pub stays_of : List Change → List Stay
stays_of [] = []
stays_of (c ∷ cs) = stay c (slice_get cs 0) ∷ stays_of cs

-- where it was since it first ran, one stay after the other: at a node, or nowhere; the last lasts
abbrev pub stays : CourseView → List Stay
stays c = stays_of c.changes

-- how long a stay is: one that lasts goes up to now
abbrev pub length_by : ℕ → Stay → ℕ
length_by now st = unwrap_or st.end now - st.start

-- it ran, or it ran nowhere
abbrev pub is_run : Stay → Bool
is_run st = is_some st.place

abbrev pub is_gap : Stay → Bool
is_gap st = is_none st.place

-- the stays in which it ran
abbrev pub runs : CourseView → List Stay
runs c = filter is_run (stays c)

-- how long it ran
unfoldable pub ran : CourseView → ℕ
ran c = sum_by (λ st. if is_run st then length_by c.time st else 0) (stays c)

-- how long it ran nowhere since it first ran, up to now
unfoldable pub away : CourseView → ℕ
away c = sum_by (λ st. if is_gap st then length_by c.time st else 0) (stays c)

-- in how many pieces
abbrev pub pieces : CourseView → ℕ
pieces c = count_by is_gap (stays c)
