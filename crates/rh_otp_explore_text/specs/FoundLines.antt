-- What a search on live nodes found, as lines of JSON (ours). They tell what the text tells (FoundText), and in its order.
use Rattle.std.specs.Prelude.{ℕ, ◌+◌, List, [], ◌∷◌, ◌++◌, Bool, true, false, codes, Option, Some, None}
use Rattle.std.specs.Fmt.{decimal}
use Rattle.rh_model.specs.ClusterView.{ClusterView}
use Rattle.rh_rules.specs.declared.event.Event.{Event}
use Rattle.rh_explore_text.specs.FoundLines.{steps_json, down_json, asked_json, event_json}
use Rattle.rh_json_text.specs.Json.{json_array}
use Rattle.rh_otp_explore.specs.Searching.{LiveExploredView}
use Rattle.rh_otp_explore.specs.Tallying.{AskedView, FailureView}
use Rattle.rh_otp_json_lines.specs.Nodes.{node_report_json}
use Rattle.rh_otp_json_lines.specs.Reports.{apps_list, open_list}
use Rattle.rh_otp_report.specs.Views.{ReportView}
use Rattle.rh_otp_explore_text.specs.FoundText.{is_left}

-- ---- the line of the search

-- how many lists were tried
unfoldable pub lists_json : ℕ → List ℕ
lists_json lists = codes "{\"lists\":" ++ decimal lists

-- whether no ask is left of which it can't be said whether it holds
abbrev pub finished_json : Bool → List ℕ
finished_json true = codes ",\"finished\":false}\n"
finished_json false = codes ",\"finished\":true}\n"

-- within these bounds
unfoldable pub search_line : ClusterView → ℕ → ℕ → LiveExploredView → List ℕ
search_line c down steps x = lists_json x.lists ++ steps_json x.covered ++ down_json c down ++ finished_json (is_left steps x)

-- ---- a report, without the place in a rehearsal

unfoldable pub nodes_json : ClusterView → ReportView → List ℕ
nodes_json c r = codes "{\"time\":" ++ decimal r.time ++ codes ",\"nodes\":" ++ json_array (node_report_json c) r.nodes

unfoldable pub report_json : ClusterView → ReportView → List ℕ
report_json c r = nodes_json c r ++ apps_list c r.apps ++ open_list c r.calls ++ codes "}"

-- ---- the line of an ask

-- behind these events what is asked doesn't hold, each as a command
unfoldable pub events_field : ClusterView → List Event → List ℕ
events_field c events = codes ",\"holds\":false,\"events\":" ++ json_array (event_json c) events

-- the report of the live nodes behind them
unfoldable pub report_field : ClusterView → ReportView → List ℕ
report_field c r = codes ",\"report\":" ++ report_json c r ++ codes "}\n"

unfoldable pub fails_json : ClusterView → FailureView → List ℕ
fails_json c f = events_field c f.events ++ report_field c f.report

abbrev pub first_json : ClusterView → Option FailureView → List ℕ
first_json c None = codes ",\"holds\":true}\n"
first_json c (Some f) = fails_json c f

-- of this number
unfoldable pub asked_line : ClusterView → ℕ → AskedView → List ℕ
asked_line c number q = asked_json number ++ first_json c q.first

-- asks, of which the first has this number
abbrev pub asked_lines : ClusterView → ℕ → List AskedView → List ℕ
asked_lines c number [] = []
asked_lines c number (q ∷ asked) = asked_line c number q ++ asked_lines c (number + 1) asked

-- ---- the whole

-- within these bounds, with the asks numbered from 1
abbrev pub found_json : ClusterView → ℕ → ℕ → LiveExploredView → List ℕ
found_json c down steps x = search_line c down steps x ++ asked_lines c 1 x.asked
