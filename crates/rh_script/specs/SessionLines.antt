-- What a line asks that names its session (ours).
use Rattle.std.specs.Prelude.{ℕ, ◌+◌, ◌-◌, ◌&&◌, List, [], ◌∷◌, nat_le, if◌then◌else◌, Option, Some, None}
use Rattle.std.specs.Str.{is_utf8}
use Rattle.rh_model.specs.ClusterView.{ClusterView}
use Rattle.rh_calls.specs.declared.call.Call.{Call}
use Rattle.rh_script.specs.declared.script.Line.{Line}
use Rattle.rh_script.specs.declared.script.Line.TheVariants as line
use Rattle.rh_script.specs.declared.session_lines.Command.{Command}
use Rattle.rh_script.specs.declared.session_lines.SessionLine.{SessionLine}
use Rattle.rh_script.specs.declared.session_lines.SessionLine.TheVariants.{Nothing, Asks, Bad}
use Rattle.rh_calls.specs.declared.call.TheConstants.{LAST_SESSION}
use Rattle.rh_script.specs.Commands.{words_of, begins_with, command_of}

-- a call, and the session that makes it
abbrev pub command : ℕ → Call → Command
command session call = record { session = session; call = call }

-- one digit, from 1 to the last session
abbrev pub session_named : List ℕ → Option ℕ
session_named [] = None
session_named (digit ∷ []) = if nat_le 49 digit && nat_le digit (48 + LAST_SESSION) then Some (digit - 48) else None
session_named (digit ∷ other ∷ more) = None

-- behind the session there is a command
abbrev pub asked_by : Option ℕ → Line → SessionLine
asked_by None asked = Bad
asked_by (Some session) line.Nothing = Bad
asked_by (Some session) (line.Asks call) = Asks (command session call)
asked_by (Some session) line.Bad = Bad

-- the first word is the session
abbrev pub session_command : ClusterView → List (List ℕ) → SessionLine
session_command c [] = Nothing
session_command c (word ∷ words) = asked_by (session_named word) (command_of c words)

-- what a line asks; one that begins with `#` is a comment
unfoldable pub session_line_of : ClusterView → List ℕ → SessionLine
session_line_of c line =
    if begins_with 35 line then Nothing
    else if is_utf8 line then session_command c (words_of line)
    else Bad
