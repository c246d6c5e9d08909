-- The base of a sweep or a search: the input without its plans, or without what is searched, which is an input of a run (ours).
use Rattle.std.specs.Prelude.{ℕ, List, [], ◌∷◌, Bool, true, false, if◌then◌else◌}
use Rattle.std.specs.List.{concat}
use Rattle.rh_model.specs.ClusterView.{ClusterView}
use Rattle.rh_script.specs.declared.script.Line.{Line}
use Rattle.rh_script.specs.declared.script.Line.TheVariants.{Nothing, Asks, Bad}
use Rattle.rh_script.specs.Lines.{raw_lines, content, is_separator}
use Rattle.rh_script.specs.Commands.{line_of}

-- a run takes the line for no command
abbrev pub is_bad : Line → Bool
is_bad Nothing = false
is_bad (Asks call) = false
is_bad Bad = true

-- the lines of a script before the first that is no command
abbrev pub commands_front : ClusterView → List (List ℕ) → List (List ℕ)
commands_front c [] = []
commands_front c (line ∷ lines) = if is_bad (line_of c (content line)) then [] else line ∷ commands_front c lines

-- the lines of an input before the first of its script that is no command
abbrev pub input_front : ClusterView → List (List ℕ) → List (List ℕ)
input_front c [] = []
input_front c (line ∷ lines) = line ∷ (if is_separator line then commands_front c lines else input_front c lines)

-- and these as a text
abbrev pub base_text : ClusterView → List ℕ → List ℕ
base_text c bytes = concat (input_front c (raw_lines bytes))

-- the front of the lines that are left, where the script has begun, or hasn't
abbrev pub front_left : ClusterView → Bool → List (List ℕ) → List (List ℕ)
front_left c true lines = commands_front c lines
front_left c false lines = input_front c lines
