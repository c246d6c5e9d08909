-- What a run writes as JSON for the bytes that it reads, and how it ends (ours).
use Rattle.std.specs.Prelude.{◌≡◌, ℕ, ◌+◌, List, [], ◌∷◌, ◌++◌, Bool, false, Option, Some, None, Result, Ok, Err}
use Rattle.rh_model.specs.ClusterView.{ClusterView}
use Rattle.rh_cluster.specs.ClusterOf.{cluster_of}
use Rattle.rh_cluster.specs.declared.fault.ClusterFault.{ClusterFault}
use Rattle.rh_rules.specs.declared.pick.Pick.{Pick}
use Rattle.rh_calls.specs.declared.call.Call.{Call}
use Rattle.rh_trail.specs.SimView.{SimView}
use Rattle.rh_trail.specs.Lone.{opened, served}
use Rattle.rh_script.specs.declared.script.Line.{Line}
use Rattle.rh_script.specs.declared.script.Line.TheVariants.{Nothing, Asks, Bad}
use Rattle.rh_script.specs.Lines.{cluster_text, script_lines}
use Rattle.rh_script.specs.Commands.{line_of}
use Rattle.rh_devices.specs.declared.fault.WriteFault.{WriteFault}
use Rattle.rh_devices.specs.declared.watched.Watched.{Watched}
use Rattle.rh_devices.specs.Devices.{Passed}
use Rattle.rh_run.specs.declared.fault.Told.{Told}
use Rattle.rh_run.specs.RunText.{bad_line, lines_asked, run_end, Wrote}
use Rattle.rh_json_lines.specs.ClusterLines.{cluster_line, fault_line}
use Rattle.rh_json_lines.specs.AnswerLines.{answer_line, bad_json}

-- ---- the commands of a script

-- a command: the number of its line, the line, and what it asks
pub record Asked : Type 0 where
  pub number : ℕ
  pub line : List ℕ
  pub call : Call

-- a line that asks this, before the commands of the lines behind it; there are none from a bad line on
abbrev pub before : ℕ → List ℕ → Line → List Asked → List Asked
before number line Nothing others = others
before number line (Asks call) others = record { number = number; line = line; call = call } ∷ others
before number line Bad others = []

-- the commands of lines, of which the first has this number
abbrev pub asked_in : ClusterView → ℕ → List (List ℕ) → List Asked
asked_in c number [] = []
asked_in c number (line ∷ lines) = before number line (line_of c line) (asked_in c (number + 1) lines)

-- ---- the text

-- the lines of commands that are made one after the other
abbrev pub answer_lines : ClusterView → SimView → List Asked → List ℕ
answer_lines c sim [] = []
answer_lines c sim (a ∷ others) = answer_line c sim a.number a.line a.call ++ answer_lines c (served sim a.call).sim others

-- what a script that ends at such a line is told
abbrev pub end_json : Option ℕ → List ℕ
end_json None = []
end_json (Some number) = bad_json number

-- the lines of the commands, and then the bad line
abbrev pub script_json : ClusterView → SimView → ℕ → List (List ℕ) → List ℕ
script_json c sim number lines = answer_lines c sim (asked_in c number lines) ++ end_json (bad_line number (lines_asked c lines))

-- the text for a cluster and a script, or for the fault of a text that is no cluster
abbrev pub json_over : Pick → List (List ℕ) → Result ClusterView ClusterFault → List ℕ
json_over pick lines (Ok c) = cluster_line c ++ script_json c (opened c pick) 1 lines
json_over pick lines (Err f) = fault_line f

-- what is written
unfoldable pub run_json : List ℕ → Pick → List ℕ
run_json bytes pick = json_over pick (script_lines bytes) (cluster_of (cluster_text bytes))

-- what a run owes: how it ends is how one ends that writes lines
abbrev pub OwesRunJson : Pick → List ℕ → List ℕ → Option Told → Type 0
OwesRunJson pick bytes text owed = (text ≡ run_json bytes pick) × (owed ≡ run_end bytes)

-- ---- how it is written

-- one line was answered, and the other lines are left; or the run ends there
abbrev pub Turns : {K : Type 0} → (K → K → List ℕ → Type 0) → (K → K → Type 0) → Result (Option ℕ) WriteFault
    → ClusterView → SimView → SimView → ℕ → List ℕ → List (List ℕ) → Watched K → Watched K → Type 0
Turns takes fails (Ok None) c sim later k line lines old new =
    (piece : List ℕ) × Passed takes old.inner new.inner piece × (script_json c sim k (line ∷ lines) ≡ piece ++ script_json c later (k + 1) lines)
    × (bad_line k (lines_asked c (line ∷ lines)) ≡ bad_line (k + 1) (lines_asked c lines)) × (new.failed ≡ false)
Turns takes fails result c sim later k line lines old new =
    Wrote takes fails result (script_json c sim k (line ∷ lines)) (bad_line k (lines_asked c (line ∷ lines))) old new
