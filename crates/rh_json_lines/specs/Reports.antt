-- The report of a state (ours). It tells what the report as text tells, in its order.
use Rattle.std.specs.Prelude.{ℕ, List, [], ◌++◌, codes, filter, not, Some, None}
use Rattle.std.specs.Fmt.{decimal}
use Rattle.rh_model.specs.ClusterView.{ClusterView}
use Rattle.rh_model.specs.declared.node.Node.{Node}
use Rattle.rh_model.specs.declared.node.App.{App}
use Rattle.rh_state.specs.declared.status.Standing.{Standing}
use Rattle.rh_state.specs.declared.status.Standing.TheVariants as standing
use Rattle.rh_state.specs.declared.status.Timer.{Timer}
use Rattle.rh_state.specs.declared.status.Timer.TheVariants as timer
use Rattle.rh_state.specs.Numbers.{nodes_of, apps_of}
use Rattle.rh_state.specs.StateView.{StateView, mode_of, incarnation_of, running_at, waiting_at, restart_of, kind_of, is_allowed, standing_of}
use Rattle.rh_rules.specs.Course.{is_local}
use Rattle.rh_calls.specs.Report.{mode_words, restart_words, standing_words, timer_words}
use Rattle.rh_json_text.specs.Json.{json_string, json_array}
use Rattle.rh_json_lines.specs.ClusterLines.{node_json, app_json}
use Rattle.rh_json_lines.specs.Starts.{first_word, start_json}

-- ---- a node

-- an application that is started at a node, with its restart type there
unfoldable pub started_json : StateView → Node → App → List ℕ
started_json s n a =
    codes "{\"application\":" ++ app_json s.cluster a ++ codes ",\"restart\":" ++ json_string (restart_words (restart_of s n a))

-- one that runs there
unfoldable pub running_json : StateView → Node → App → List ℕ
running_json s n a = started_json s n a ++ start_json s.cluster (kind_of s n a) ++ codes "}"

-- one that waits there
unfoldable pub waiting_json : StateView → Node → App → List ℕ
waiting_json s n a = started_json s n a ++ codes "}"

-- the applications that may not run there
abbrev pub forbidden_at : StateView → Node → List App
forbidden_at s n = filter (λ a. not (is_allowed s n a)) (apps_of s.cluster)

-- a node: its name, what it does, and how often it was booted
unfoldable pub mode_json : StateView → Node → List ℕ
mode_json s n =
    codes "{\"name\":" ++ node_json s.cluster n ++ codes ",\"mode\":" ++ json_string (mode_words (mode_of s n))
    ++ codes ",\"starts\":" ++ decimal (incarnation_of s n)

-- what runs there, what waits there, and what may not run there
unfoldable pub running_list : StateView → Node → List ℕ
running_list s n = codes ",\"running\":" ++ json_array (running_json s n) (running_at s n)

unfoldable pub waiting_list : StateView → Node → List ℕ
waiting_list s n = codes ",\"waiting\":" ++ json_array (waiting_json s n) (waiting_at s n)

unfoldable pub forbidden_list : StateView → Node → List ℕ
forbidden_list s n = codes ",\"forbidden\":" ++ json_array (app_json s.cluster) (forbidden_at s n)

unfoldable pub lists_json : StateView → Node → List ℕ
lists_json s n = running_list s n ++ waiting_list s n ++ forbidden_list s n

unfoldable pub state_json : StateView → Node → List ℕ
state_json s n = mode_json s n ++ lists_json s n ++ codes "}"

-- ---- an application, and a timer

-- the node where an application runs, or with which it was lost
abbrev pub at_json : ClusterView → Standing → List ℕ
at_json c standing.Quiet = []
at_json c (standing.Wanted None) = []
at_json c (standing.Wanted (Some m)) = codes ",\"node\":" ++ node_json c m
at_json c (standing.Running n) = codes ",\"node\":" ++ node_json c n
at_json c (standing.Lost n) = codes ",\"node\":" ++ node_json c n

-- a distributed application that stands so: the first of the words that a report has, and the node
unfoldable pub standing_json : ClusterView → App → Standing → List ℕ
standing_json c a at =
    codes "{\"name\":" ++ app_json c a ++ codes ",\"standing\":" ++ json_string (first_word (standing_words c at)) ++ at_json c at ++ codes "}"

-- the applications that are distributed
abbrev pub distributed_in : ClusterView → List App
distributed_in c = filter (λ a. not (is_local c a)) (apps_of c)

-- what a timer is for
abbrev pub timed_json : ClusterView → Timer → List ℕ
timed_json c (timer.Sync n) = codes ",\"node\":" ++ node_json c n
timed_json c (timer.Failover a) = codes ",\"application\":" ++ app_json c a

-- a timer, with when it is due
unfoldable pub timer_json : ClusterView → ℕ × Timer → List ℕ
timer_json c entry =
    codes "{\"timer\":" ++ json_string (first_word (timer_words c entry.1)) ++ timed_json c entry.1 ++ codes ",\"due\":" ++ decimal entry.0 ++ codes "}"

-- ---- the whole

-- the time, and how many steps stand, of how many
unfoldable pub place_json : ℕ → ℕ → ℕ → List ℕ
place_json time cursor trail =
    codes "{\"time\":" ++ decimal time ++ codes ",\"steps\":" ++ decimal cursor ++ codes ",\"trail\":" ++ decimal trail

-- the nodes in their order, the distributed applications in theirs, and the timers in firing order
unfoldable pub parts_json : StateView → List ℕ
parts_json s =
    codes ",\"nodes\":" ++ json_array (state_json s) (nodes_of s.cluster)
    ++ codes ",\"applications\":" ++ json_array (λ a. standing_json s.cluster a (standing_of s a)) (distributed_in s.cluster)
    ++ codes ",\"timers\":" ++ json_array (timer_json s.cluster) s.timers

unfoldable pub report_json : ℕ → ℕ → StateView → List ℕ
report_json cursor trail s = place_json s.time cursor trail ++ parts_json s ++ codes "}"

-- the report of a state that stands on no trail
unfoldable pub bare_report : StateView → List ℕ
bare_report s = codes "{\"time\":" ++ decimal s.time ++ parts_json s ++ codes "}"
