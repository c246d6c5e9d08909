-- What is said in a dialogue with live nodes is what a run on them writes.
use Rattle.std.proofs.Common.{◌≡◌, ◌∙◌, ◌+◌, ℕ, List, [], ◌∷◌, ◌++◌, cond, Result, Ok, Err, refl, sym, ap, append_assoc, append-nil}
use Rattle.rh_cluster.specs.ClusterOf.{cluster_of}
use Rattle.rh_cluster.specs.declared.fault.ClusterFault.{ClusterFault}
use Rattle.rh_json.specs.RunJson.{asked_in, before, end_json}
use Rattle.rh_json_lines.specs.AnswerLines.{bad_json}
use Rattle.rh_json_lines.specs.ClusterLines.{cluster_line}
use Rattle.rh_manner.specs.declared.voice.Form.{Form}
use Rattle.rh_manner.specs.declared.voice.Form.TheVariants.{Plain, Json}
use Rattle.rh_manner.specs.Laws.{plain}
use Rattle.rh_manner.specs.MannerText.{said_by}
use Rattle.rh_manner.specs.Speech.{is_bad, line_made, line_said, over_said, script_said, spoken}
use Rattle.rh_model.specs.ClusterView.{ClusterView}
use Rattle.rh_otp_file.specs.Files.{own_files}
use Rattle.rh_otp_json.specs.LiveJson.{answer_line, answer_lines, json_over, live_json, script_json}
use Rattle.rh_otp_net.specs.declared.order.Order.{Order}
use Rattle.rh_otp_run.proofs.Keeping.{call_keeps_cluster}
use Rattle.rh_otp_run.specs.LiveText.{live_text, said_text, text_over}
use Rattle.rh_otp_sim.specs.Calls.{made_by, reply_to}
use Rattle.rh_otp_sim.specs.Sim.{LiveSimView, opened}
use Rattle.rh_otp_text.specs.Replies.{reply_text}
use Rattle.rh_run.specs.RunText.{bad_line, lines_asked}
use Rattle.rh_script.specs.Answers.{bad_text}
use Rattle.rh_script.specs.Commands.{line_of}
use Rattle.rh_script.specs.declared.script.Line.{Line}
use Rattle.rh_script.specs.declared.script.Line.TheVariants.{Nothing, Asks, Bad}
use Rattle.rh_script.specs.Lines.{cluster_text, script_lines}
use Rattle.rh_otp_dialogue.specs.declared.voice.LiveVoice.{LiveVoice}
use Rattle.rh_otp_dialogue.specs.LiveVoices.{live, live_voiced}

module _ (order : Order) (c : ClusterView) where
  abbrev in_form : Form → LiveVoice
  in_form form = record { order = order; form = form }

  -- what is said from a line on that asks this
  abbrev said_from : Form → LiveSimView → ℕ → List ℕ → List (List ℕ) → Line → List ℕ
  said_from form sim k text lines line =
      line_said (live (in_form form)) sim k text line
      ++ cond (is_bad line) [] (script_said (live (in_form form)) (line_made (live (in_form form)) sim line) (k + 1) lines)

  -- ---- as lines

  abbrev PlainBehind : ℕ → List (List ℕ) → Type 0
  PlainBehind k lines =
      (sim : LiveSimView) → sim.cluster ≡ c → script_said (live (in_form Plain)) sim k lines ≡ said_text plain sim k (said_by c lines)

  plain_line : (k : ℕ) (text : List ℕ) (lines : List (List ℕ)) → PlainBehind (k + 1) lines → (sim : LiveSimView) → sim.cluster ≡ c → (line : Line)
      → said_from Plain sim k text lines line ≡ said_text plain sim k ((text, line) ∷ said_by c lines)
  plain_line k text lines behind sim same Nothing = behind sim same
  plain_line k text lines behind sim same (Asks call) =
      ap (λ (t : List ℕ). reply_text (made_by call sim) (reply_to call sim) ++ t)
      (behind (made_by call sim) (call_keeps_cluster call sim ∙ same))
  plain_line k text lines behind sim same Bad = append-nil (bad_text k)

  plain_script : (lines : List (List ℕ)) (k : ℕ) → PlainBehind k lines
  plain_script [] k sim same = refl
  plain_script (text ∷ lines) k sim same =
      plain_line k text lines (λ next kept. plain_script lines (k + 1) next kept) sim same (line_of sim.cluster text)
      ∙ ap (λ (d : ClusterView). said_text plain sim k ((text, line_of d text) ∷ said_by c lines)) same

  -- ---- as JSON

  abbrev JsonBehind : ℕ → List (List ℕ) → Type 0
  JsonBehind k lines = (sim : LiveSimView) → sim.cluster ≡ c → script_said (live (in_form Json)) sim k lines ≡ script_json c sim k lines

  -- the lines of the commands from a line on that asks this, and then the bad one
  abbrev json_from : LiveSimView → ℕ → List ℕ → List (List ℕ) → Line → List ℕ
  json_from sim k text lines line =
      answer_lines sim (before k text line (asked_in c (k + 1) lines)) ++ end_json (bad_line k (line ∷ lines_asked c lines))

  json_line : (k : ℕ) (text : List ℕ) (lines : List (List ℕ)) → JsonBehind (k + 1) lines → (sim : LiveSimView) → sim.cluster ≡ c → (line : Line)
      → said_from Json sim k text lines line ≡ json_from sim k text lines line
  json_line k text lines behind sim same Nothing = behind sim same
  json_line k text lines behind sim same (Asks call) =
      let next : LiveSimView = made_by call sim in
      ap (λ (t : List ℕ). answer_line sim k text call ++ t) (behind next (call_keeps_cluster call sim ∙ same))
      ∙ sym (append_assoc (answer_line sim k text call) (answer_lines next (asked_in c (k + 1) lines))
      (end_json (bad_line (k + 1) (lines_asked c lines))))
  json_line k text lines behind sim same Bad = append-nil (bad_json k)

  json_script : (lines : List (List ℕ)) (k : ℕ) → JsonBehind k lines
  json_script [] k sim same = refl
  json_script (text ∷ lines) k sim same =
      json_line k text lines (λ next kept. json_script lines (k + 1) next kept) sim same (line_of sim.cluster text)
      ∙ ap (λ (d : ClusterView). json_from sim k text lines (line_of d text)) same

-- ---- of a whole input

plain_over : (order : Order) (text : List ℕ) (lines : List (List ℕ)) (read : Result ClusterView ClusterFault)
    → over_said (live (record { order = order; form = Plain })) text lines read ≡ text_over order plain text lines read
plain_over order text lines (Ok c) = plain_script order c lines 1 (opened c (own_files c text) order) refl
plain_over order text lines (Err f) = refl

json_is_over : (order : Order) (text : List ℕ) (lines : List (List ℕ)) (read : Result ClusterView ClusterFault)
    → over_said (live (record { order = order; form = Json })) text lines read ≡ json_over order text lines read
json_is_over order text lines (Ok c) =
    ap (λ (t : List ℕ). cluster_line c ++ t) (json_script order c lines 1 (opened c (own_files c text) order) refl)
json_is_over order text lines (Err f) = refl

pub spoken_is_voiced : (voice : LiveVoice) (bytes : List ℕ) → spoken (live voice) bytes ≡ live_voiced voice bytes
unfolding live_text live_json
spoken_is_voiced voice bytes = by voice.form
  where
    by : (form : Form) → spoken (live (record { order = voice.order; form = form })) bytes ≡ live_voiced (record { order = voice.order; form = form }) bytes
    by Plain = plain_over voice.order (cluster_text bytes) (script_lines bytes) (cluster_of (cluster_text bytes))
    by Json = json_is_over voice.order (cluster_text bytes) (script_lines bytes) (cluster_of (cluster_text bytes))
