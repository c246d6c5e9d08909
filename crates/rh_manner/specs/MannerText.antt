-- What a run writes that prints its commands, and how a strict one ends (ours).
use Rattle.std.specs.Prelude.{◌≡◌, ℕ, ◌+◌, List, [], ◌∷◌, ◌++◌, map, zip, codes, Bool, true, false, ◌&&◌, if◌then◌else◌}
use Rattle.std.specs.Prelude.{Option, Some, None, Result, Ok, Err}
use Rattle.std.specs.List.{flat_map, list_any}
use Rattle.rh_model.specs.ClusterView.{ClusterView}
use Rattle.rh_cluster.specs.ClusterOf.{cluster_of}
use Rattle.rh_cluster.specs.declared.fault.ClusterFault.{ClusterFault}
use Rattle.rh_rules.specs.declared.pick.Pick.{Pick}
use Rattle.rh_calls.specs.declared.call.Reply.{Reply}
use Rattle.rh_calls.specs.declared.call.Reply.TheVariants as reply
use Rattle.rh_trail.specs.SimView.{SimView}
use Rattle.rh_trail.specs.Lone.{opened, replies}
use Rattle.rh_script.specs.declared.script.Line.{Line}
use Rattle.rh_script.specs.declared.script.Line.TheVariants.{Nothing, Asks, Bad}
use Rattle.rh_script.specs.Lines.{cluster_text, script_lines}
use Rattle.rh_script.specs.Commands.{line_of, calls_of}
use Rattle.rh_script.specs.Answers.{answer_text, fault_text, bad_text}
use Rattle.rh_run.specs.declared.fault.Told.{Told}
use Rattle.rh_run.specs.declared.fault.Told.TheVariants as told
use Rattle.rh_run.specs.RunText.{bad_line}
use Rattle.rh_asked.specs.declared.manner.Manner.{Manner}

-- ---- what is printed

-- a line as it stands, where commands are printed: behind `> `
abbrev pub echo_of : Manner → List ℕ → List ℕ
echo_of m line = if m.echo then codes "> " ++ line ++ codes "\n" else []

-- a line, and what it asks
abbrev pub Said : Type 0
Said = List ℕ × Line

abbrev pub said_by : ClusterView → List (List ℕ) → List Said
said_by c lines = map (λ line. (line, line_of c line)) lines

abbrev pub asked : List Said → List Line
asked lines = map (λ (s : Said). s.1) lines

-- the lines that are commands, up to the first bad one
abbrev pub command_lines : List Said → List (List ℕ)
command_lines [] = []
command_lines ((line, Nothing) ∷ lines) = command_lines lines
command_lines ((line, Asks call) ∷ lines) = line ∷ command_lines lines
command_lines ((line, Bad) ∷ lines) = []

-- what the first bad line is told, where the first line has number k
abbrev pub bad_end : Manner → ℕ → List Said → List ℕ
bad_end m k [] = []
bad_end m k ((line, Nothing) ∷ lines) = bad_end m (k + 1) lines
bad_end m k ((line, Asks call) ∷ lines) = bad_end m (k + 1) lines
bad_end m k ((line, Bad) ∷ lines) = echo_of m line ++ bad_text k

-- each command and its answer
abbrev pub commands_text : Manner → ClusterView → List (List ℕ) → List Reply → List ℕ
commands_text m c lines given = flat_map (λ (p : List ℕ × Reply). echo_of m p.0 ++ answer_text c p.1) (zip lines given)

-- the replies to the commands of a script, up to the first bad line
abbrev pub script_replies : SimView → List Said → List Reply
script_replies sim lines = replies sim (calls_of (asked lines))

-- the commands with their answers, and then the bad line
abbrev pub said_text : Manner → ClusterView → SimView → ℕ → List Said → List ℕ
said_text m c sim k lines = commands_text m c (command_lines lines) (script_replies sim lines) ++ bad_end m k lines

-- ---- how it ends

-- a step was refused, also one that names what the cluster hasn't; an undo at the start or a redo at the end refuses no step
abbrev pub is_refused_step : Reply → Bool
is_refused_step (reply.Refused refusal) = true
is_refused_step other = false

-- the end, by whether a step was refused and by the number of the first bad line, which counts before that
abbrev pub end_of : Manner → Bool → Option ℕ → Option Told
end_of m refused (Some k) = Some (told.BadLine k)
end_of m refused None = if m.strict && refused then Some told.Refused else None

abbrev pub said_end : Manner → SimView → List Said → Option Told
said_end m sim lines = end_of m (list_any is_refused_step (script_replies sim lines)) (bad_line 1 (asked lines))

-- ---- of a whole input

-- the text for a cluster and a script, or for the fault of a text that is no cluster
abbrev pub text_over : Manner → Pick → List (List ℕ) → Result ClusterView ClusterFault → List ℕ
text_over m pick lines (Ok c) = said_text m c (opened c pick) 1 (said_by c lines)
text_over m pick lines (Err f) = fault_text f

-- and the fault that it tells
abbrev pub end_over : Manner → Pick → List (List ℕ) → Result ClusterView ClusterFault → Option Told
end_over m pick lines (Ok c) = said_end m (opened c pick) (said_by c lines)
end_over m pick lines (Err f) = Some (told.Cluster f)

-- what is written
unfoldable pub manner_text : Manner → List ℕ → Pick → List ℕ
manner_text m bytes pick = text_over m pick (script_lines bytes) (cluster_of (cluster_text bytes))

-- and the fault at the end, if there is one
unfoldable pub manner_end : Manner → List ℕ → Pick → Option Told
manner_end m bytes pick = end_over m pick (script_lines bytes) (cluster_of (cluster_text bytes))

-- what such a run owes
abbrev pub OwesRunIn : Manner → Pick → List ℕ → List ℕ → Option Told → Type 0
OwesRunIn m pick bytes text owed = (text ≡ manner_text m bytes pick) × (owed ≡ manner_end m bytes pick)
