use Rattle.std.proofs.Common.{◌≡◌, ◌++◌, ◌∙◌, List, ℕ, ap, codes, append_assoc, Result, Ok, Err, OnOk}
use Rattle.rh_calls.specs.Report.{standing_words}
use Rattle.rh_json_text.specs.Json.{json_string}
use Rattle.rh_json_lines.specs.ClusterLines.{app_json}
use Rattle.rh_json_lines.specs.Starts.{first_word}
use Rattle.rh_json_lines.specs.Reports.{at_json, standing_json}
use Rattle.rh_json_lines.proofs.reports.push_standing.Goals as goal

-- pieces that were pushed one behind the other
joined : (begun key name field place with_key with_name with_field with_place : List ℕ)
    → with_key ≡ begun ++ key → with_name ≡ with_key ++ name → with_field ≡ with_name ++ field → with_place ≡ with_field ++ place
    → with_place ≡ (((begun ++ key) ++ name) ++ field) ++ place
joined begun key name field place with_key with_name with_field with_place a b c d =
    d ∙ ap (λ (t : List ℕ). t ++ place) (c ∙ ap (λ (t : List ℕ). t ++ field) (b ∙ ap (λ (t : List ℕ). t ++ name) a))

-- and the end behind them, if there was memory; a label and a word were pushed as one
closed : {A E : Type 0} (result : Result A E) (begun key name label word place end with_place whole : List ℕ)
    → with_place ≡ (((begun ++ key) ++ name) ++ (label ++ word)) ++ place → OnOk result (whole ≡ with_place ++ end)
    → OnOk result (whole ≡ begun ++ (key ++ name ++ label ++ word ++ place ++ end))
closed (Ok value) begun key name label word place end with_place whole front behind =
    behind ∙ ap (λ (t : List ℕ). t ++ end) front ∙ simp append_assoc
closed (Err fault) begun key name label word place end with_place whole front behind = tt

pub returns : goal.returns
unfolding standing_json
returns c =
    let cluster = c.args.cluster.now in
    let begun = c.args.out.now.items in
    let key = codes "{\"name\":" in
    let name = app_json cluster c.args.app in
    let label = codes ",\"standing\":" in
    let word = json_string (first_word (standing_words cluster c.args.standing)) in
    let place = at_json cluster c.args.standing in
    let with_field = c.in_ok-push_text-2.ensures ∙ ap (λ (t : List ℕ). c.push_app.new.out.items ++ t) (c.standing_field.ensures cluster) in
    closed c.push_text-3.result begun key name label word place (codes "}") c.push_at.new.out.items c.push_text-3.new.out.items
    (joined begun key name (label ++ word) place _ _ _ _ c.in_ok-push_text.ensures c.in_ok-push_app.ensures with_field c.in_ok-push_at.ensures)
    c.push_text-3.ensures
