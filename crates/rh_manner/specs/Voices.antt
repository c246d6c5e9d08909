-- What a dialogue writes in each form, piece by piece and as a whole (ours).
use Rattle.std.specs.Prelude.{ℕ, List, []}
use Rattle.rh_cluster.specs.declared.fault.ClusterFault.{ClusterFault}
use Rattle.rh_model.specs.ClusterView.{ClusterView}
use Rattle.rh_rules.specs.declared.pick.Pick.{Pick}
use Rattle.rh_calls.specs.declared.call.Call.{Call}
use Rattle.rh_trail.specs.SimView.{SimView}
use Rattle.rh_trail.specs.Lone.{served}
use Rattle.rh_script.specs.Answers.{answer_text, bad_text, fault_text}
use Rattle.rh_run.specs.RunText.{run_text}
use Rattle.rh_json_lines.specs.AnswerLines.{answer_line, bad_json}
use Rattle.rh_json_lines.specs.ClusterLines.{cluster_line, fault_line}
use Rattle.rh_json.specs.RunJson.{run_json}
use Rattle.rh_manner.specs.declared.voice.Form.{Form}
use Rattle.rh_manner.specs.declared.voice.Form.TheVariants.{Plain, Json}
use Rattle.rh_manner.specs.declared.voice.Voice.{Voice}

-- ---- the whole text

-- what is written for an input in a form: what `run` writes for it, or what `run --json` does
abbrev pub text_in : Form → List ℕ → Pick → List ℕ
text_in Plain bytes pick = run_text bytes pick
text_in Json bytes pick = run_json bytes pick

-- what a voice says of an input
abbrev pub voiced : Voice → List ℕ → List ℕ
voiced v bytes = text_in v.form bytes v.pick

-- ---- its pieces

-- what stands before all answers
abbrev pub opening_in : Form → ClusterView → List ℕ
opening_in Plain c = []
opening_in Json c = cluster_line c

-- why a text is no cluster
abbrev pub fault_in : Form → ClusterFault → List ℕ
fault_in Plain f = fault_text f
fault_in Json f = fault_line f

-- the answer to the line of this number, which asks this
abbrev pub answer_in : Form → ClusterView → SimView → ℕ → List ℕ → Call → List ℕ
answer_in Plain c sim k line call = answer_text c (served sim call).reply
answer_in Json c sim k line call = answer_line c sim k line call

-- that it is no command
abbrev pub bad_in : Form → ℕ → List ℕ
bad_in Plain k = bad_text k
bad_in Json k = bad_json k
