-- What followed from a step, with the time at which it was told (ours).
use Rattle.std.specs.Prelude.{ℕ, List, [], ◌++◌, ◌==◌, codes, map, is_none, Option, Some, None, if◌then◌else◌}
use Rattle.std.specs.List.{flat_map}
use Rattle.std.specs.Fmt.{decimal}
use Rattle.rh_model.specs.ClusterView.{ClusterView}
use Rattle.rh_model.specs.declared.node.Node.{Node}
use Rattle.rh_model.specs.declared.node.App.{App}
use Rattle.rh_rules.specs.declared.event.Event.TheVariants.{Tick}
use Rattle.rh_rules.specs.declared.notice.Notice.{Notice}
use Rattle.rh_rules.specs.declared.notice.Notice.TheVariants.{Up, Ended, Started, Stopped, Waits}
use Rattle.rh_rules.specs.Refusals.{refused}
use Rattle.rh_step.specs.Firings.{FiringView, firings}
use Rattle.rh_calls.specs.declared.call.Call.{Call}
use Rattle.rh_calls.specs.declared.call.Call.TheVariants as call
use Rattle.rh_trail.specs.SimView.{SimView, state_of}
use Rattle.rh_script.specs.Answers.{notice_line}
use Rattle.rh_json_text.specs.Json.{json_string}
use Rattle.rh_json_lines.specs.ClusterLines.{node_json, app_json}
use Rattle.rh_json_lines.specs.Starts.{first_word, start_json}

-- ---- a notice

-- an application, and a node
unfoldable pub pair_json : ClusterView → App → Node → List ℕ
pair_json c a n = codes ",\"application\":" ++ app_json c a ++ codes ",\"node\":" ++ node_json c n

-- what a notice names
abbrev pub named_json : ClusterView → Notice → List ℕ
named_json c (Up n) = codes ",\"node\":" ++ node_json c n
named_json c (Ended n) = codes ",\"node\":" ++ node_json c n
named_json c (Started a n kind lost) = pair_json c a n ++ start_json c kind
named_json c (Stopped a n) = pair_json c a n
named_json c (Waits a n) = pair_json c a n

-- the time at which it was told, where that is known
abbrev pub time_json : Option ℕ → List ℕ
time_json None = []
time_json (Some time) = codes "\"time\":" ++ decimal time ++ codes ","

-- a notice: its kind is the first word of its line
unfoldable pub notice_json : ClusterView → Option ℕ × Notice → List ℕ
notice_json c told =
    codes "{" ++ time_json told.0 ++ codes "\"kind\":" ++ json_string (first_word (notice_line c told.1)) ++ named_json c told.1 ++ codes "}"

-- ---- when it was told

-- the timers that fire in a tick that isn't refused; of another call nothing is told by a timer
abbrev pub fired_by : SimView → Call → Option (List FiringView)
fired_by sim (call.Step (Tick ms)) = if is_none (refused (state_of sim) (Tick ms)) then Some (firings (state_of sim) ms sim.pick) else None
fired_by sim call = None

-- what a timer told when it fired
abbrev pub timed : FiringView → List (Option ℕ × Notice)
timed fired = map (λ (n : Notice). (Some fired.due, n)) fired.told

-- a step's notices; those of a tick are what its timers told, each with the time at which its timer was due
abbrev pub timed_notices : List Notice → Option (List FiringView) → List (Option ℕ × Notice)
timed_notices notices None = map (λ (n : Notice). (None, n)) notices
timed_notices notices (Some fired) = flat_map timed fired
