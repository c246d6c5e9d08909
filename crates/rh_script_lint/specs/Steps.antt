-- What a live OTP does otherwise at the steps of a script, and which of them `run` refuses (ours).
use Rattle.std.specs.Prelude.{ℕ, ◌+◌, List, [], ◌∷◌, ◌++◌, codes, Bool, true, false, not, ◌&&◌, Some, None, if◌then◌else◌}
use Rattle.std.specs.List.{flat_map, list_any}
use Rattle.rh_model.specs.ClusterView.{ClusterView}
use Rattle.rh_calls.specs.declared.call.Call.{Call}
use Rattle.rh_calls.specs.declared.call.Call.TheVariants as call
use Rattle.rh_trail.specs.SimView.{SimView, state_of}
use Rattle.rh_trail.specs.Lone.{served}
use Rattle.rh_script.specs.declared.script.Line.{Line}
use Rattle.rh_script.specs.declared.script.Line.TheVariants as line
use Rattle.rh_script.specs.Commands.{line_of}
use Rattle.rh_step_findings.specs.declared.finding.StepFinding.{StepFinding}
use Rattle.rh_step_findings.specs.Findings.{step_findings_of}
use Rattle.rh_step_findings.specs.Levels.{is_warning, hangs}
use Rattle.rh_findings.specs.declared.finding.Kind.TheVariants.{Warning, Hint}
use Rattle.rh_findings.specs.declared.finding.Finding.{Finding}
use Rattle.rh_findings.specs.Sentences.{sentence}
use Rattle.rh_line_lint.specs.StepWords.{words_of, names_of}
use Rattle.rh_script_lint.specs.Refused.{of_reply}

-- a finding of a step on line k
unfoldable pub step_found : ClusterView → ℕ → StepFinding → Finding
step_found c k f = record {
  line = Some k;
  kind = if is_warning f then Warning else Hint;
  text = sentence (words_of f) (names_of c f);
  path = None;
}

-- a warning behind which a live call or boot script doesn't return: from there on a live cluster has another past
abbrev pub is_another_past : StepFinding → Bool
is_another_past f = is_warning f && hangs f

unfoldable pub another_past : ℕ → Finding
another_past k = record { line = Some k; kind = Hint; text = codes "another_past: from here on a live cluster has another past"; path = None }

-- the findings of a step on line k
unfoldable pub of_steps : ClusterView → ℕ → List StepFinding → List Finding
of_steps c k fs = flat_map (λ f. step_found c k f ∷ []) fs ++ (if list_any is_another_past fs then another_past k ∷ [] else [])

-- those of a call: of a step those from the state before it and its event
abbrev pub findings_of : SimView → Call → List StepFinding
findings_of sim (call.Step e) = step_findings_of (state_of sim) e
findings_of sim _ = []

-- what is found of a call, and of the reply to it
abbrev pub of_call : SimView → ℕ → Call → List Finding
of_call sim k x = of_steps sim.cluster k (findings_of sim x) ++ of_reply sim.cluster k x (findings_of sim x) (served sim x).reply

-- has a live cluster another past behind a call?
abbrev pub ends_at : SimView → Call → Bool
ends_at sim x = list_any is_another_past (findings_of sim x)

-- ---- line by line

-- what is found on a line
abbrev pub of_line : SimView → ℕ → Line → List Finding
of_line sim k (line.Asks x) = of_call sim k x
of_line sim k _ = []

-- nothing is told behind a line that is no command, nor where a live cluster has another past, unless all is asked for
abbrev pub ends_behind : Bool → SimView → Line → Bool
ends_behind all sim line.Nothing = false
ends_behind all sim line.Bad = true
ends_behind all sim (line.Asks x) = not all && ends_at sim x

-- the simulation behind a line
abbrev pub sim_behind : SimView → Line → SimView
sim_behind sim (line.Asks x) = (served sim x).sim
sim_behind sim _ = sim

-- the lines of a script, of which the first has number k
abbrev pub of_script_steps : Bool → SimView → ℕ → List (List ℕ) → List Finding
of_script_steps all sim k [] = []
of_script_steps all sim k (l ∷ lines) =
    of_line sim k (line_of sim.cluster l)
    ++ (if ends_behind all sim (line_of sim.cluster l) then [] else of_script_steps all (sim_behind sim (line_of sim.cluster l)) (k + 1) lines)

-- what is left of them, if it is told
abbrev pub of_rest : Bool → Bool → SimView → ℕ → List (List ℕ) → List Finding
of_rest ends all sim k lines = if ends then [] else of_script_steps all sim k lines
