-- What has happened at a command (ours): the fields of `run --json` where the same is meant.
use Rattle.std.specs.Prelude.{ℕ, List, ◌++◌, codes}
use Rattle.rh_json_lines.specs.ClusterLines.{node_json}
use Rattle.rh_json_lines.specs.Notices.{pair_json}
use Rattle.rh_json_lines.specs.Starts.{first_word, start_json}
use Rattle.rh_json_text.specs.Json.{json_string}
use Rattle.rh_model.specs.ClusterView.{ClusterView}
use Rattle.rh_otp_sim.specs.declared.lines.Line.{Line}
use Rattle.rh_otp_sim.specs.declared.lines.Line.TheVariants as line
use Rattle.rh_otp_text.specs.Lines.{kind_of, line_words}
use Rattle.rh_otp_json_lines.specs.Calls.{call_json, error_json, verdict_json}

-- what a notice names, and what it says of that
abbrev pub named_json : ClusterView → Line → List ℕ
named_json c (line.Up n) = codes ",\"node\":" ++ node_json c n
named_json c (line.Ended n) = codes ",\"node\":" ++ node_json c n
named_json c (line.Started a n kind) = pair_json c a n ++ start_json c (kind_of kind)
named_json c (line.Stopped a n) = pair_json c a n
named_json c (line.Failed a n fault) = pair_json c a n ++ error_json c fault
named_json c (line.Answered ask n a verdict) = codes "," ++ call_json c ask n a ++ verdict_json c verdict
named_json c (line.Waits a n) = pair_json c a n
named_json c (line.Pending a n) = pair_json c a n

-- a notice: its kind is the first word of its line
unfoldable pub notice_json : ClusterView → Line → List ℕ
notice_json c told = codes "{\"kind\":" ++ json_string (first_word (line_words c told)) ++ named_json c told ++ codes "}"
