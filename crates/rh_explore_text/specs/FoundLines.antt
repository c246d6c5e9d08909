-- What a search found, as lines of JSON (ours). They tell what the text tells (FoundText), and in its order.
use Rattle.std.specs.Prelude.{ℕ, ◌+◌, List, [], ◌∷◌, ◌++◌, fold, nat_lt, if◌then◌else◌, codes}
use Rattle.std.specs.Fmt.{decimal}
use Rattle.rh_model.specs.ClusterView.{ClusterView, node_count}
use Rattle.rh_state.specs.StateView.{StateView}
use Rattle.rh_rules.specs.declared.event.Event.{Event}
use Rattle.rh_rules.specs.declared.pick.Pick.{Pick}
use Rattle.rh_step.specs.Runs.{step}
use Rattle.rh_calls.specs.declared.call.Call.TheVariants as call
use Rattle.rh_script.specs.CommandWords.{command_words}
use Rattle.rh_explore.specs.declared.answers.Explored.{Explored}
use Rattle.rh_explore.specs.declared.answers.Verdict.{Verdict}
use Rattle.rh_explore.specs.declared.answers.Verdict.TheVariants.{Holds, Fails}
use Rattle.rh_explore.specs.declared.bounds.Covered.{Covered}
use Rattle.rh_explore.specs.declared.bounds.Covered.TheVariants as covered
use Rattle.rh_json_text.specs.Json.{json_string, json_array}
use Rattle.rh_json_lines.specs.Reports.{bare_report}
use Rattle.rh_explore_text.specs.FoundText.{is_unfinished}

-- ---- the line of the search

-- how many states were reached, and how many events lead to the last
unfoldable pub states_json : Explored → List ℕ
states_json x = codes "{\"states\":" ++ decimal x.states ++ codes ",\"deepest\":" ++ decimal x.deepest

-- of how many events the longest lists are of which all were looked at, unless they are all
abbrev pub steps_json : Covered → List ℕ
steps_json covered.All = []
steps_json (covered.UpTo n) = codes ",\"steps\":" ++ decimal n

-- how many nodes are not up at most, unless all may be
abbrev pub down_json : ClusterView → ℕ → List ℕ
down_json c down = if nat_lt down (node_count c) then codes ",\"down\":" ++ decimal down else []

-- whether all lists of at most so many events were looked at
abbrev pub finished_json : ℕ → Covered → List ℕ
finished_json steps covered =
    if is_unfinished steps covered then codes ",\"finished\":false}\n" else codes ",\"finished\":true}\n"

-- within these bounds
unfoldable pub search_line : ClusterView → ℕ → ℕ → Explored → List ℕ
search_line c down steps x = states_json x ++ steps_json x.covered ++ down_json c down ++ finished_json steps x.covered

-- ---- the line of an ask

-- the number of the ask
unfoldable pub asked_json : ℕ → List ℕ
asked_json number = codes "{\"ask\":" ++ decimal number

-- an event as the command that asks it
unfoldable pub event_json : ClusterView → Event → List ℕ
event_json c e = json_string (command_words c (call.Step e))

-- these events lead from the base to a state in which what is asked doesn't hold: each as a command, and the report of that state
unfoldable pub fails_json : ClusterView → Pick → StateView → List Event → List ℕ
fails_json c pick base es =
    codes ",\"holds\":false,\"events\":" ++ json_array (event_json c) es ++ codes ",\"report\":" ++ bare_report (fold (step pick) base es)
    ++ codes "}\n"

abbrev pub verdict_json : ClusterView → Pick → StateView → Verdict → List ℕ
verdict_json c pick base Holds = codes ",\"holds\":true}\n"
verdict_json c pick base (Fails es) = fails_json c pick base es.items

-- the verdict on the ask of this number
unfoldable pub verdict_line : ClusterView → Pick → StateView → ℕ → Verdict → List ℕ
verdict_line c pick base number v = asked_json number ++ verdict_json c pick base v

-- verdicts on asks, of which the first has this number
abbrev pub verdict_lines : ClusterView → Pick → StateView → ℕ → List Verdict → List ℕ
verdict_lines c pick base number [] = []
verdict_lines c pick base number (v ∷ verdicts) = verdict_line c pick base number v ++ verdict_lines c pick base (number + 1) verdicts

-- ---- the whole

-- within these bounds, with the asks numbered from 1
abbrev pub found_json : ClusterView → Pick → StateView → ℕ → ℕ → Explored → List ℕ
found_json c pick base down steps x = search_line c down steps x ++ verdict_lines c pick base 1 x.verdicts.items
