use Rattle.std.proofs.Common.{◌≡◌, ◌++◌, ◌∙◌, List, ℕ, ap, codes, append_assoc, Result, Ok, Err, OnOk}
use Rattle.rh_model.specs.ClusterView.{ClusterView}
use Rattle.rh_model.specs.declared.settings.Restart.{Restart}
use Rattle.rh_state.specs.Stored.{read}
use Rattle.rh_state.specs.StateView.{restart_of}
use Rattle.rh_calls.specs.Report.{restart_words}
use Rattle.rh_json_text.specs.Json.{json_string}
use Rattle.rh_json_lines.specs.ClusterLines.{app_json}
use Rattle.rh_json_lines.specs.Reports.{started_json}
use Rattle.rh_json_lines.proofs.states.push_started.Goals as goal

-- a label and a word that were pushed as one, if there was memory
pushed_as_one : {A E : Type 0} (result : Result A E) (begun key name label word with_name whole : List ℕ)
    → with_name ≡ (begun ++ key) ++ name → OnOk result (whole ≡ with_name ++ (label ++ word))
    → OnOk result (whole ≡ begun ++ (key ++ name ++ label ++ word))
pushed_as_one (Ok value) begun key name label word with_name whole front behind =
    behind ∙ ap (λ (t : List ℕ). t ++ (label ++ word)) front ∙ simp append_assoc
pushed_as_one (Err fault) begun key name label word with_name whole front behind = tt

pub returns : goal.returns
unfolding started_json
returns c =
    let s = read c.args.state.now in
    let name = app_json s.cluster c.args.app in
    let with_name = c.in_ok-push_app.ensures ∙ ap (λ (cluster : ClusterView). c.push_text.new.out.items ++ app_json cluster c.args.app) c.cluster.ensures
    ∙ ap (λ (t : List ℕ). t ++ name) c.in_ok-push_text.ensures in
    let field = c.restart_field.ensures ∙ ap (λ (restart : Restart). codes ",\"restart\":" ++ json_string (restart_words restart)) c.restart_of.ensures in
    pushed_as_one c.push_text-2.result c.args.out.now.items (codes ",{\"application\":") name
    (codes ",\"restart\":") (json_string (restart_words (restart_of s c.args.node c.args.app)))
    c.push_app.new.out.items c.push_text-2.new.out.items with_name (rw field at c.push_text-2.ensures)
