-- A command that `run` refuses, where nothing else that is found tells it (ours; RULES, "Refusals").
use Rattle.std.specs.Prelude.{ℕ, List, [], ◌++◌, codes, Bool, true, false, ◌||◌, map, Option, Some, None, if◌then◌else◌}
use Rattle.std.specs.List.{list_any}
use Rattle.std.specs.Option.{option_to_list}
use Rattle.rh_model.specs.ClusterView.{ClusterView}
use Rattle.rh_rules.specs.declared.refusal.Refusal.{Refusal}
use Rattle.rh_rules.specs.declared.refusal.Refusal.TheVariants.{UnknownNode, UnknownApp}
use Rattle.rh_rules.specs.Refusals.{refusal_words}
use Rattle.rh_calls.specs.declared.call.Call.{Call}
use Rattle.rh_calls.specs.declared.call.Reply.{Reply}
use Rattle.rh_calls.specs.declared.call.Reply.TheVariants as reply
use Rattle.rh_script.specs.Answers.{reason_words}
use Rattle.rh_script.specs.CommandWords.{command_words}
use Rattle.rh_step_findings.specs.declared.finding.StepFinding.{StepFinding}
use Rattle.rh_step_findings.specs.declared.finding.StepFinding.TheVariants.{StartWhereNotListed, TakeoverWhereForbidden, StartOfAWaitingLocal}
use Rattle.rh_findings.specs.declared.finding.Kind.TheVariants.{Hint}
use Rattle.rh_findings.specs.declared.finding.Finding.{Finding}

-- why a reply refuses its command, as `run` answers it behind "refused"; none where it doesn't
abbrev pub why_refused : ClusterView → Reply → Option (List ℕ)
why_refused c (reply.Refused refusal) = Some (refusal_words refusal ++ reason_words c refusal)
why_refused c reply.AtStart = Some (codes "at_start")
why_refused c reply.AtEnd = Some (codes "at_end")
why_refused c _ = None

-- a name that the cluster hasn't: that is told of the line (S1, S2)
abbrev pub is_of_a_name : Refusal → Bool
is_of_a_name UnknownNode = true
is_of_a_name UnknownApp = true
is_of_a_name _ = false

abbrev pub is_told_of_line : Reply → Bool
is_told_of_line (reply.Refused refusal) = is_of_a_name refusal
is_told_of_line _ = false

-- these findings are of steps that are refused, and say what a live OTP does at them all the same (S10, S16, S11)
abbrev pub says_refused : StepFinding → Bool
says_refused (StartWhereNotListed n a) = true
says_refused (TakeoverWhereForbidden n a) = true
says_refused (StartOfAWaitingLocal n a) = true
says_refused _ = false

-- the hint on line k: the command, and why it is refused
unfoldable pub refused_step : ℕ → List ℕ → List ℕ → Finding
refused_step k command why = record {
  line = Some k;
  kind = Hint;
  text = codes "refused_step: run refuses " ++ (command ++ (codes ": " ++ why));
  path = None;
}

-- what is told of the reply to a command with these findings
unfoldable pub of_reply : ClusterView → ℕ → Call → List StepFinding → Reply → List Finding
of_reply c k asked fs r =
    if is_told_of_line r || list_any says_refused fs then []
    else map (refused_step k (command_words c asked)) (option_to_list (why_refused c r))
