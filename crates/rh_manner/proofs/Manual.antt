-- What is said in a dialogue by the manual's rules is what a run writes.
use Rattle.std.proofs.Common.{◌≡◌, ◌∙◌, ◌+◌, ℕ, List, [], ◌∷◌, ◌++◌, cond, Result, Ok, Err, refl, sym, ap, append_assoc, append-nil}
use Rattle.std.specs.List.{flat_map}
use Rattle.rh_cluster.specs.ClusterOf.{cluster_of}
use Rattle.rh_cluster.specs.declared.fault.ClusterFault.{ClusterFault}
use Rattle.rh_model.specs.ClusterView.{ClusterView}
use Rattle.rh_rules.specs.declared.pick.Pick.{Pick}
use Rattle.rh_trail.specs.SimView.{SimView}
use Rattle.rh_trail.specs.Lone.{opened, served, replies}
use Rattle.rh_script.specs.Answers.{answer_text, bad_text}
use Rattle.rh_script.specs.Commands.{line_of, calls_of}
use Rattle.rh_script.specs.Lines.{cluster_text, script_lines}
use Rattle.rh_script.specs.declared.script.Line.{Line}
use Rattle.rh_script.specs.declared.script.Line.TheVariants.{Nothing, Asks, Bad}
use Rattle.rh_run.specs.RunText.{bad_line, end_text, lines_asked, run_text, script_text, text_over}
use Rattle.rh_run.proofs.Keeping.{served_keeps_cluster}
use Rattle.rh_json_lines.specs.AnswerLines.{answer_line, bad_json}
use Rattle.rh_json_lines.specs.ClusterLines.{cluster_line}
use Rattle.rh_json.specs.RunJson.{answer_lines, asked_in, before, end_json, json_over, run_json, script_json}
use Rattle.rh_manner.specs.declared.voice.Form.{Form}
use Rattle.rh_manner.specs.declared.voice.Form.TheVariants.{Plain, Json}
use Rattle.rh_manner.specs.declared.voice.Voice.{Voice}
use Rattle.rh_manner.specs.Manual.{manual}
use Rattle.rh_manner.specs.Speech.{is_bad, line_made, line_said, over_said, script_said, spoken}
use Rattle.rh_manner.specs.Voices.{voiced}

module _ (pick : Pick) (c : ClusterView) where
  abbrev in_form : Form → Voice
  in_form form = record { pick = pick; form = form }

  -- what is said from a line on that asks this
  abbrev said_from : Form → SimView → ℕ → List ℕ → List (List ℕ) → Line → List ℕ
  said_from form sim k text lines line =
      line_said (manual (in_form form)) sim k text line
      ++ cond (is_bad line) [] (script_said (manual (in_form form)) (line_made (manual (in_form form)) sim line) (k + 1) lines)

  -- ---- as lines

  abbrev PlainBehind : ℕ → List (List ℕ) → Type 0
  PlainBehind k lines =
      (sim : SimView) → sim.cluster ≡ c → script_said (manual (in_form Plain)) sim k lines ≡ script_text c sim k (lines_asked c lines)

  plain_line : (k : ℕ) (text : List ℕ) (lines : List (List ℕ)) → PlainBehind (k + 1) lines → (sim : SimView) → sim.cluster ≡ c → (line : Line)
      → said_from Plain sim k text lines line ≡ script_text c sim k (line ∷ lines_asked c lines)
  plain_line k text lines behind sim same Nothing = behind sim same
  plain_line k text lines behind sim same (Asks call) =
      let next = (served sim call).sim in
      let reply = (served sim call).reply in
      let others = lines_asked c lines in
      ap (λ (t : List ℕ). answer_text sim.cluster reply ++ t) (behind next (served_keeps_cluster sim call ∙ same))
      ∙ ap (λ (d : ClusterView). answer_text d reply ++ script_text c next (k + 1) others) same
      ∙ sym (append_assoc (answer_text c reply) (flat_map (answer_text c) (replies next (calls_of others))) (end_text (bad_line (k + 1) others)))
  plain_line k text lines behind sim same Bad = append-nil (bad_text k)

  plain_script : (lines : List (List ℕ)) (k : ℕ) → PlainBehind k lines
  plain_script [] k sim same = refl
  plain_script (text ∷ lines) k sim same =
      plain_line k text lines (λ next kept. plain_script lines (k + 1) next kept) sim same (line_of sim.cluster text)
      ∙ ap (λ (d : ClusterView). script_text c sim k (line_of d text ∷ lines_asked c lines)) same

  -- ---- as JSON

  abbrev JsonBehind : ℕ → List (List ℕ) → Type 0
  JsonBehind k lines = (sim : SimView) → sim.cluster ≡ c → script_said (manual (in_form Json)) sim k lines ≡ script_json c sim k lines

  -- the lines of the commands from a line on that asks this, and then the bad one
  abbrev json_from : SimView → ℕ → List ℕ → List (List ℕ) → Line → List ℕ
  json_from sim k text lines line =
      answer_lines c sim (before k text line (asked_in c (k + 1) lines)) ++ end_json (bad_line k (line ∷ lines_asked c lines))

  json_line : (k : ℕ) (text : List ℕ) (lines : List (List ℕ)) → JsonBehind (k + 1) lines → (sim : SimView) → sim.cluster ≡ c → (line : Line)
      → said_from Json sim k text lines line ≡ json_from sim k text lines line
  json_line k text lines behind sim same Nothing = behind sim same
  json_line k text lines behind sim same (Asks call) =
      let next = (served sim call).sim in
      ap (λ (t : List ℕ). answer_line sim.cluster sim k text call ++ t) (behind next (served_keeps_cluster sim call ∙ same))
      ∙ ap (λ (d : ClusterView). answer_line d sim k text call ++ script_json c next (k + 1) lines) same
      ∙ sym (append_assoc (answer_line c sim k text call) (answer_lines c next (asked_in c (k + 1) lines))
      (end_json (bad_line (k + 1) (lines_asked c lines))))
  json_line k text lines behind sim same Bad = append-nil (bad_json k)

  json_script : (lines : List (List ℕ)) (k : ℕ) → JsonBehind k lines
  json_script [] k sim same = refl
  json_script (text ∷ lines) k sim same =
      json_line k text lines (λ next kept. json_script lines (k + 1) next kept) sim same (line_of sim.cluster text)
      ∙ ap (λ (d : ClusterView). json_from sim k text lines (line_of d text)) same

-- ---- of a whole input

plain_over : (pick : Pick) (text : List ℕ) (lines : List (List ℕ)) (read : Result ClusterView ClusterFault)
    → over_said (manual (record { pick = pick; form = Plain })) text lines read ≡ text_over pick lines read
plain_over pick text lines (Ok c) = plain_script pick c lines 1 (opened c pick) refl
plain_over pick text lines (Err f) = refl

json_is_over : (pick : Pick) (text : List ℕ) (lines : List (List ℕ)) (read : Result ClusterView ClusterFault)
    → over_said (manual (record { pick = pick; form = Json })) text lines read ≡ json_over pick lines read
json_is_over pick text lines (Ok c) = ap (λ (t : List ℕ). cluster_line c ++ t) (json_script pick c lines 1 (opened c pick) refl)
json_is_over pick text lines (Err f) = refl

pub spoken_is_voiced : (voice : Voice) (bytes : List ℕ) → spoken (manual voice) bytes ≡ voiced voice bytes
unfolding run_text run_json
spoken_is_voiced voice bytes = by voice.form
  where
    by : (form : Form) → spoken (manual (record { pick = voice.pick; form = form })) bytes ≡ voiced (record { pick = voice.pick; form = form }) bytes
    by Plain = plain_over voice.pick (cluster_text bytes) (script_lines bytes) (cluster_of (cluster_text bytes))
    by Json = json_is_over voice.pick (cluster_text bytes) (script_lines bytes) (cluster_of (cluster_text bytes))
