-- What is found of the answer of live nodes to a command (ours). The words of an answer are those of `run --rules otp25`.
use Rattle.std.specs.Prelude.{ℕ, List, [], ◌∷◌, ◌++◌, codes, Some, None, if◌then◌else◌}
use Rattle.std.specs.List.{flat_map}
use Rattle.rh_model.specs.ClusterView.{ClusterView}
use Rattle.rh_calls.specs.Report.{node_word, app_word}
use Rattle.rh_calls.specs.declared.call.Call.{Call}
use Rattle.rh_findings.specs.declared.finding.Finding.{Finding}
use Rattle.rh_findings.specs.declared.finding.Kind.TheVariants.{Warning, Hint}
use Rattle.rh_script.specs.CommandWords.{command_words}
use Rattle.rh_script_lint.specs.Refused.{is_of_a_name}
use Rattle.rh_otp_sim.specs.declared.calls.LiveReply.{LiveReply}
use Rattle.rh_otp_sim.specs.declared.calls.LiveReply.TheVariants as reply
use Rattle.rh_otp_sim.specs.declared.lines.Answer.{Answer}
use Rattle.rh_otp_sim.specs.declared.lines.Answer.TheVariants.{Told, NoAnswer}
use Rattle.rh_otp_sim.specs.declared.lines.Line.{Line}
use Rattle.rh_otp_sim.specs.declared.lines.Line.TheVariants.{Failed}
use Rattle.rh_otp_sim.specs.declared.stepping.Outcome.{Outcome}
use Rattle.rh_otp_sim.specs.declared.stepping.Outcome.TheVariants as outcome
use Rattle.rh_otp_sim.specs.declared.verdict.Verdict.{Verdict}
use Rattle.rh_otp_sim.specs.declared.verdict.Verdict.TheVariants as verdict
use Rattle.rh_otp_sim.specs.Verdicts.{is_done}
use Rattle.rh_otp_text.specs.Faults.{fault_words}
use Rattle.rh_otp_text.specs.Lines.{verdict_words}

-- ---- the findings, of a command on line k

-- a call of it hasn't returned
unfoldable pub no_answer : ℕ → List ℕ → Finding
no_answer k command = record {
  line = Some k;
  kind = Warning;
  text = codes "no_answer: " ++ (command ++ codes " isn't answered: a call of it is still open");
  path = None;
}

-- it has no end that is in sight
unfoldable pub endless : ℕ → List ℕ → Finding
endless k command = record {
  line = Some k;
  kind = Warning;
  text = codes "endless: " ++ (command ++ codes " has no end: all isn't quiet after a million moves; nothing has changed");
  path = None;
}

-- it is answered so, which isn't `ok`
unfoldable pub refused_step : ℕ → List ℕ → List ℕ → Finding
refused_step k command answer = record {
  line = Some k;
  kind = Hint;
  text = codes "refused_step: run --rules otp25 answers " ++ (command ++ (codes ": " ++ answer));
  path = None;
}

-- behind it the boot script of a node has started an application, which failed with this error
unfoldable pub start_fails : ℕ → List ℕ → List ℕ → List ℕ → Finding
start_fails k app node why = record {
  line = Some k;
  kind = Hint;
  text = codes "start_fails: " ++ (app ++ (codes " fails to start at " ++ (node ++ (codes ": " ++ why))));
  path = None;
}

-- ---- where they are found

-- an answer other than `ok`
abbrev pub of_verdict : ClusterView → ℕ → Call → Verdict → List Finding
of_verdict c k x v = if is_done v then [] else refused_step k (command_words c x) (verdict_words c v) ∷ []

abbrev pub of_answer : ClusterView → ℕ → Call → Answer → List Finding
of_answer c k x (Told v) = of_verdict c k x v
of_answer c k x NoAnswer = no_answer k (command_words c x) ∷ []

-- what has happened: a start of a boot script has failed
abbrev pub of_line : ClusterView → ℕ → Line → List Finding
of_line c k (Failed a n why) = start_fails k (app_word c a) (node_word c n) (fault_words c why) ∷ []
of_line c k other = []

-- what a step comes to; of a name that the cluster hasn't the line itself tells
abbrev pub of_outcome : ClusterView → ℕ → Call → Outcome → List Finding
of_outcome c k x (outcome.Refused why) = if is_of_a_name why then [] else of_verdict c k x (verdict.Refused why)
of_outcome c k x outcome.Endless = endless k (command_words c x) ∷ []
of_outcome c k x (outcome.Done h) = of_answer c k x h.answer ++ flat_map (of_line c k) h.lines

-- the answer to a command, in a cluster
abbrev pub of_reply : ClusterView → ℕ → Call → LiveReply → List Finding
of_reply c k x (reply.Step o) = of_outcome c k x o
of_reply c k x reply.AtStart = refused_step k (command_words c x) (codes "refused at_start") ∷ []
of_reply c k x reply.AtEnd = refused_step k (command_words c x) (codes "refused at_end") ∷ []
of_reply c k x other = []
