-- What is said in a dialogue, by whatever rules its commands are answered (ours).
use Rattle.std.specs.Prelude.{◌+◌, ℕ, List, [], ◌∷◌, ◌++◌, Bool, true, false, if◌then◌else◌, Result, Ok, Err}
use Rattle.rh_calls.specs.declared.call.Call.{Call}
use Rattle.rh_cluster.specs.ClusterOf.{cluster_of}
use Rattle.rh_cluster.specs.declared.fault.ClusterFault.{ClusterFault}
use Rattle.rh_model.specs.ClusterView.{ClusterView}
use Rattle.rh_script.specs.Commands.{line_of}
use Rattle.rh_script.specs.Lines.{cluster_text, script_lines}
use Rattle.rh_script.specs.declared.script.Line.{Line}
use Rattle.rh_script.specs.declared.script.Line.TheVariants.{Nothing, Asks, Bad}
use Rattle.rh_manner.specs.declared.voice.Form.{Form}
use Rattle.rh_manner.specs.Voices.{bad_in, fault_in, opening_in}

-- how it is spoken, where V is all that is known of a rehearsal
pub record Speech (V : Type 0) : Type 0 where
  -- in which form
  pub form : Form
  -- the rehearsal of a cluster that a file of this text describes
  pub begun : ClusterView → List ℕ → V
  -- its cluster
  pub cluster : V → ClusterView
  -- the answer to the line of this number, which asks this
  pub answer : V → ℕ → List ℕ → Call → List ℕ
  -- and the rehearsal behind it
  pub behind : V → Call → V

-- ---- one line of a script

-- what it is answered
abbrev pub line_said : {V : Type 0} → Speech V → V → ℕ → List ℕ → Line → List ℕ
line_said sp v k text Nothing = []
line_said sp v k text (Asks call) = sp.answer v k text call
line_said sp v k text Bad = bad_in sp.form k

-- the rehearsal behind it
abbrev pub line_made : {V : Type 0} → Speech V → V → Line → V
line_made sp v Nothing = v
line_made sp v (Asks call) = sp.behind v call
line_made sp v Bad = v

abbrev pub is_bad : Line → Bool
is_bad Nothing = false
is_bad (Asks call) = false
is_bad Bad = true

-- ---- the whole text

-- the answers to lines of which the first has this number, up to the first bad one
abbrev pub script_said : {V : Type 0} → Speech V → V → ℕ → List (List ℕ) → List ℕ
script_said sp v k [] = []
script_said sp v k (text ∷ lines) =
    let line : Line = line_of (sp.cluster v) text in
    line_said sp v k text line ++ (if is_bad line then [] else script_said sp (line_made sp v line) (k + 1) lines)

-- the text for a cluster of this text and a script, or for the fault of a text that is no cluster
abbrev pub over_said : {V : Type 0} → Speech V → List ℕ → List (List ℕ) → Result ClusterView ClusterFault → List ℕ
over_said sp text lines (Ok c) = opening_in sp.form c ++ script_said sp (sp.begun c text) 1 lines
over_said sp text lines (Err f) = fault_in sp.form f

-- what is said of an input
abbrev pub spoken : {V : Type 0} → Speech V → List ℕ → List ℕ
spoken sp bytes = over_said sp (cluster_text bytes) (script_lines bytes) (cluster_of (cluster_text bytes))
