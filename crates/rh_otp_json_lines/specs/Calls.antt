-- Calls of an operator, and what they are answered (ours).
use Rattle.std.specs.Prelude.{ℕ, List, [], ◌++◌, codes}
use Rattle.rh_calls.specs.Report.{restart_words}
use Rattle.rh_json_lines.specs.Notices.{pair_json}
use Rattle.rh_json_text.specs.Json.{json_string}
use Rattle.rh_model.specs.ClusterView.{ClusterView}
use Rattle.rh_model.specs.declared.node.App.{App}
use Rattle.rh_model.specs.declared.node.Node.{Node}
use Rattle.rh_model.specs.declared.settings.Restart.{Restart}
use Rattle.rh_otp_model.specs.declared.fault.Fault.{Fault}
use Rattle.rh_otp_sim.specs.declared.verdict.Verdict.{Verdict}
use Rattle.rh_otp_sim.specs.declared.verdict.Verdict.TheVariants as verdict
use Rattle.rh_otp_system.specs.declared.calls.Ask.{Ask}
use Rattle.rh_otp_system.specs.declared.calls.Ask.TheVariants as ask
use Rattle.rh_otp_text.specs.Asks.{verb_words, flag_words, end_words}
use Rattle.rh_otp_text.specs.Faults.{fault_words}
use Rattle.rh_otp_text.specs.Lines.{verdict_words}

-- ---- a call

-- the restart type of a start or a takeover
abbrev pub restart_json : Restart → List ℕ
restart_json restart = codes ",\"restart\":" ++ json_string (restart_words restart)

-- what the command of a call says behind its names
abbrev pub last_json : Ask → List ℕ
last_json (ask.Start restart) = restart_json restart
last_json ask.Stop = []
last_json (ask.Permit allow) = codes ",\"permission\":" ++ flag_words allow
last_json (ask.Takeover restart) = restart_json restart
last_json (ask.Exit is_normal) = codes ",\"reason\":" ++ json_string (end_words is_normal)

-- a call: the first word of its command, the application, the node, and what the command says behind them
unfoldable pub call_json : ClusterView → Ask → Node → App → List ℕ
call_json c asked n a = codes "\"call\":" ++ json_string (verb_words asked) ++ pair_json c a n ++ last_json asked

-- ---- its answer

-- an error, as Erlang writes it
unfoldable pub error_json : ClusterView → Fault → List ℕ
error_json c fault = codes ",\"error\":" ++ json_string (fault_words c fault)

-- the error, where the answer is one
abbrev pub error_in : ClusterView → Verdict → List ℕ
error_in c verdict.Done = []
error_in c (verdict.Refused refusal) = []
error_in c (verdict.Failed fault) = error_json c fault

-- an answer: its words, and the error
unfoldable pub verdict_json : ClusterView → Verdict → List ℕ
verdict_json c verdict = codes ",\"answer\":" ++ json_string (verdict_words c verdict) ++ error_in c verdict
