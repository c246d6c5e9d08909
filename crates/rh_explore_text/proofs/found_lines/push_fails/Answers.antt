use Rattle.std.proofs.Common.{◌++◌, ◌∙◌, List, ℕ, fold, ap, codes, append_assoc}
use Rattle.rh_state.specs.StateView.{StateView}
use Rattle.rh_state.specs.Stored.{read}
use Rattle.rh_step.specs.Runs.{step}
use Rattle.rh_json_text.specs.Json.{json_array}
use Rattle.rh_json_text.proofs.Arrays.{rest_behind_front}
use Rattle.rh_json_lines.specs.Reports.{bare_report}
use Rattle.rh_explore_text.specs.FoundLines.{event_json, fails_json}
use Rattle.rh_explore_text.proofs.found_lines.push_fails.Goals as goal

pub returns : goal.returns
unfolding fails_json
returns c =
    let begun = c.args.out.now.items in
    let events = c.args.events.now in
    let key = codes ",\"holds\":false,\"events\":" in
    let array = json_array (event_json c.args.cluster.now) events in
    let label = codes ",\"report\":" in
    let report = bare_report (fold (step c.args.pick) (read c.args.base.now) events) in
    let with_events = c.in_ok-push_events_array.ensures ∙ ap (λ (t : List ℕ). t ++ array) c.in_ok-push_text.ensures ∙ append_assoc begun key array in
    let with_label = c.in_ok-push_text-2.ensures ∙ ap (λ (t : List ℕ). t ++ label) with_events ∙ append_assoc begun (key ++ array) label in
    let with_report = c.in_ok-push_bare_report.ensures ∙ ap (λ (s : StateView). c.push_text-2.new.out.items ++ bare_report s) c.in_ok-state.ensures
    ∙ ap (λ (t : List ℕ). t ++ report) with_label ∙ append_assoc begun ((key ++ array) ++ label) report in
    rest_behind_front c.push_text-3.result begun (((key ++ array) ++ label) ++ report) (codes "}\n") c.push_bare_report.new.out.items
    c.push_text-3.new.out.items with_report c.push_text-3.ensures
