-- What a run writes for the bytes that it reads, and how it ends (ours).
use Rattle.std.specs.Prelude.{◌≡◌, ℕ, ◌+◌, List, [], ◌∷◌, ◌++◌, map, Bool, false, Option, Some, None, Result, Ok, Err}
use Rattle.std.specs.List.{flat_map}
use Rattle.std.specs.Option.{option_map}
use Rattle.rh_model.specs.ClusterView.{ClusterView}
use Rattle.rh_cluster.specs.ClusterOf.{cluster_of}
use Rattle.rh_cluster.specs.declared.fault.ClusterFault.{ClusterFault}
use Rattle.rh_rules.specs.declared.pick.Pick.{Pick}
use Rattle.rh_calls.specs.declared.call.Call.{Call}
use Rattle.rh_trail.specs.SimView.{SimView}
use Rattle.rh_trail.specs.Lone.{opened, replies}
use Rattle.rh_script.specs.declared.script.Line.{Line}
use Rattle.rh_script.specs.declared.script.Line.TheVariants.{Nothing, Asks, Bad}
use Rattle.rh_run.specs.declared.fault.Told.{Told}
use Rattle.rh_run.specs.declared.fault.Told.TheVariants as told
use Rattle.rh_devices.specs.declared.fault.WriteFault.{WriteFault}
use Rattle.rh_script.specs.Lines.{cluster_text, script_lines}
use Rattle.rh_script.specs.Commands.{line_of, calls_of}
use Rattle.rh_script.specs.Answers.{answer_text, fault_text, bad_text}
use Rattle.rh_devices.specs.declared.watched.Watched.{Watched}
use Rattle.rh_devices.specs.Devices.{Passed, WroteFront}

-- the number of the first bad line, where the first line has number k
abbrev pub bad_line : ℕ → List Line → Option ℕ
bad_line k [] = None
bad_line k (Nothing ∷ lines) = bad_line (k + 1) lines
bad_line k (Asks call ∷ lines) = bad_line (k + 1) lines
bad_line k (Bad ∷ lines) = Some k

-- what a script that ends at such a line is told
abbrev pub end_text : Option ℕ → List ℕ
end_text None = []
end_text (Some k) = bad_text k

-- and the fault that it tells
abbrev pub script_end : Option ℕ → Option Told
script_end bad = option_map (λ k. told.BadLine k) bad

-- the answers to commands that are made one after the other
abbrev pub answers_text : ClusterView → SimView → List Call → List ℕ
answers_text c sim calls = flat_map (answer_text c) (replies sim calls)

-- the answers to the commands, and then the bad line
abbrev pub script_text : ClusterView → SimView → ℕ → List Line → List ℕ
script_text c sim k lines = answers_text c sim (calls_of lines) ++ end_text (bad_line k lines)

-- what the lines ask
abbrev pub lines_asked : ClusterView → List (List ℕ) → List Line
lines_asked c lines = map (line_of c) lines

-- the text for a cluster and a script, or for the fault of a text that is no cluster
abbrev pub text_over : Pick → List (List ℕ) → Result ClusterView ClusterFault → List ℕ
text_over pick lines (Ok c) = script_text c (opened c pick) 1 (lines_asked c lines)
text_over pick lines (Err f) = fault_text f

-- and the fault that it tells
abbrev pub end_over : List (List ℕ) → Result ClusterView ClusterFault → Option Told
end_over lines (Ok c) = script_end (bad_line 1 (lines_asked c lines))
end_over lines (Err f) = Some (told.Cluster f)

-- what is written
unfoldable pub run_text : List ℕ → Pick → List ℕ
run_text bytes pick = text_over pick (script_lines bytes) (cluster_of (cluster_text bytes))

-- and the fault at the end, if there is one
unfoldable pub run_end : List ℕ → Option Told
run_end bytes = end_over (script_lines bytes) (cluster_of (cluster_text bytes))

-- what a run owes
abbrev pub OwesRun : Pick → List ℕ → List ℕ → Option Told → Type 0
OwesRun pick bytes text owed = (text ≡ run_text bytes pick) × (owed ≡ run_end bytes)

-- ---- how it is written

-- a piece was written whole, or a front of it
abbrev pub Broke : {K : Type 0} → (K → K → List ℕ → Type 0) → (K → K → Type 0) → Result (Unit {0}) WriteFault → List ℕ → Watched K → Watched K → Type 0
Broke takes fails (Ok x) text old new = Passed takes old.inner new.inner text × (new.failed ≡ false)
Broke takes fails (Err f) text old new = WroteFront takes fails f text old new

-- a text was written whole that tells what it owes at its end, or a front of it
abbrev pub Wrote : {K T : Type 0} → (K → K → List ℕ → Type 0) → (K → K → Type 0) → Result (Option T) WriteFault → List ℕ → Option T → Watched K → Watched K → Type 0
Wrote takes fails (Ok said) text owed old new = (owed ≡ said) × Passed takes old.inner new.inner text × (new.failed ≡ false)
Wrote takes fails (Err f) text owed old new = WroteFront takes fails f text old new

-- one line was answered, and the other lines are left; or the run ends there
abbrev pub Turns : {K : Type 0} → (K → K → List ℕ → Type 0) → (K → K → Type 0) → Result (Option ℕ) WriteFault
    → ClusterView → SimView → SimView → ℕ → Line → List Line → Watched K → Watched K → Type 0
Turns takes fails (Ok None) c before after k line lines old new =
    (piece : List ℕ) × Passed takes old.inner new.inner piece × (script_text c before k (line ∷ lines) ≡ piece ++ script_text c after (k + 1) lines)
    × (bad_line k (line ∷ lines) ≡ bad_line (k + 1) lines) × (new.failed ≡ false)
Turns takes fails result c before after k line lines old new = Wrote takes fails result (script_text c before k (line ∷ lines)) (bad_line k (line ∷ lines)) old new
