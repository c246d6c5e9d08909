-- The lines of what has happened (ours: `run`'s where the same is meant, else those of a rehearsal on real nodes).
use Rattle.std.specs.Prelude.{ℕ, List, ◌++◌, codes}
use Rattle.rh_calls.specs.Report.{node_word, app_word, kind_words}
use Rattle.rh_model.specs.ClusterView.{ClusterView}
use Rattle.rh_model.specs.declared.node.App.{App}
use Rattle.rh_model.specs.declared.node.Node.{Node}
use Rattle.rh_otp_model.specs.declared.process.StartType.{StartType}
use Rattle.rh_otp_model.specs.declared.process.StartType.TheVariants as start
use Rattle.rh_otp_sim.specs.declared.lines.Line.{Line}
use Rattle.rh_otp_sim.specs.declared.lines.Line.TheVariants as line
use Rattle.rh_otp_sim.specs.declared.verdict.Verdict.{Verdict}
use Rattle.rh_otp_sim.specs.declared.verdict.Verdict.TheVariants as verdict
use Rattle.rh_otp_system.specs.declared.calls.Ask.{Ask}
use Rattle.rh_rules.specs.Refusals.{refusal_words}
use Rattle.rh_rules.specs.declared.refusal.Refusal.{Refusal}
use Rattle.rh_script.specs.Answers.{reason_words}
use Rattle.rh_state.specs.declared.status.Kind.{Kind}
use Rattle.rh_state.specs.declared.status.Kind.TheVariants as kind
use Rattle.rh_otp_text.specs.Asks.{ask_words}
use Rattle.rh_otp_text.specs.Faults.{fault_words}

-- how an application was started, in the manual's words
abbrev pub kind_of : StartType → Kind
kind_of start.Normal = kind.Normal
kind_of (start.Failover n) = kind.Failover n
kind_of (start.Takeover n) = kind.Takeover n

-- why a step, or a call, was refused
abbrev pub refusal_words_with : ClusterView → Refusal → List ℕ
refusal_words_with c refusal = codes "refused " ++ refusal_words refusal ++ reason_words c refusal

-- what the answer to a call says
unfoldable pub verdict_words : ClusterView → Verdict → List ℕ
verdict_words c verdict.Done = codes "ok"
verdict_words c (verdict.Refused refusal) = refusal_words_with c refusal
verdict_words c (verdict.Failed fault) = codes "error " ++ fault_words c fault

-- a word, an application and a node
abbrev pub of_pair : ClusterView → List ℕ → App → Node → List ℕ
of_pair c word a n = word ++ app_word c a ++ codes " " ++ node_word c n

-- the call of an earlier command, which was answered
abbrev pub answered_words : ClusterView → Ask → Node → App → List ℕ
answered_words c ask n a = codes "answered " ++ ask_words c ask n a ++ codes ": "

-- what has happened
abbrev pub line_words : ClusterView → Line → List ℕ
line_words c (line.Up n) = codes "up " ++ node_word c n
line_words c (line.Ended n) = codes "ended " ++ node_word c n
line_words c (line.Started a n kind) = of_pair c (codes "started ") a n ++ codes " " ++ kind_words c (kind_of kind)
line_words c (line.Stopped a n) = of_pair c (codes "stopped ") a n
line_words c (line.Failed a n fault) = of_pair c (codes "failed ") a n ++ codes " " ++ fault_words c fault
line_words c (line.Answered ask n a verdict) = answered_words c ask n a ++ verdict_words c verdict
line_words c (line.Waits a n) = of_pair c (codes "waits ") a n
line_words c (line.Pending a n) = of_pair c (codes "pending ") a n

-- with the line's end
unfoldable pub line_text : ClusterView → Line → List ℕ
line_text c l = line_words c l ++ codes "\n"
