-- The commands of a script, each with what is expected of it (ours).
use Rattle.std.specs.Prelude.{◌≡◌, ℕ, ◌+◌, List, [], ◌∷◌, ◌++◌, map, Bool, not, ◌||◌, ◌==◌, length, Option, Some, None, is_some}
use Rattle.std.specs.List.{filter, filter_map}
use Rattle.rh_model.specs.ClusterView.{ClusterView}
use Rattle.rh_calls.specs.declared.call.Call.{Call}
use Rattle.rh_script.specs.declared.notes.Kind.{Kind}
use Rattle.rh_script.specs.declared.notes.Kind.TheVariants as kind
use Rattle.rh_script.specs.Notes.{note_of}
use Rattle.rh_script.specs.declared.script.Line.{Line}
use Rattle.rh_script.specs.declared.script.Line.TheVariants.{Nothing, Asks, Bad}
use Rattle.rh_script.specs.Commands.{line_of}
use Rattle.rh_verify.specs.Rules.{Rules}

-- ---- what stands where

-- the lines of a script, each with what it asks
abbrev pub asked_by : ClusterView → List (List ℕ) → List (List ℕ × Line)
asked_by c lines = map (λ line. (line, line_of c line)) lines

-- the comments and blank lines that stand before the first command
abbrev pub ahead : List (List ℕ × Line) → List (List ℕ)
ahead [] = []
ahead ((line, Nothing) ∷ lines) = line ∷ ahead lines
ahead ((line, Asks call) ∷ lines) = []
ahead ((line, Bad) ∷ lines) = []

-- comments and blank lines, each with what it asks
abbrev pub passed_by : List (List ℕ) → List (List ℕ × Line)
passed_by lines = map (λ line. (line, Nothing)) lines

-- of these lines the comments and blank lines at the front were passed, and then so many with the line before them; those are left
abbrev pub Passes : List (List ℕ × Line) → List (List ℕ × Line) → ℕ → Type 0
Passes lines left count = (passed : List (List ℕ)) × (lines ≡ passed_by passed ++ left) × (count ≡ length passed + 1)

-- a command of a script
pub record Check : Type 0 where
  -- the number of its line, and what stands there
  pub number : ℕ
  pub line : List ℕ
  -- what it is answered, and the report behind it
  pub came : List ℕ
  pub report : List ℕ
  -- the comments and blank lines behind it, up to the next command
  pub behind : List (List ℕ)

-- the command that asks this of a rehearsal by such rules
abbrev pub check_of : {V : Type 0} → Rules V → ℕ → List ℕ → V → Call → List (List ℕ) → Check
check_of r k line sim call behind =
    record { number = k; line = line; came = r.answer sim call; report = r.report (r.behind sim call); behind = behind }

-- the commands up to the first line that is none; the first line has number k
abbrev pub checks : {V : Type 0} → Rules V → V → ℕ → List (List ℕ × Line) → List Check
checks r sim k [] = []
checks r sim k ((line, Nothing) ∷ lines) = checks r sim (k + 1) lines
checks r sim k ((line, Asks call) ∷ lines) =
    check_of r k line sim call (ahead lines) ∷ checks r (r.behind sim call) (k + 1) lines
checks r sim k ((line, Bad) ∷ lines) = []

-- ---- what is expected

abbrev pub answer_in : Option (Kind × List ℕ) → Option (List ℕ)
answer_in (Some (kind.Answer, text)) = Some text
answer_in other = None

abbrev pub wanted_in : Option (Kind × List ℕ) → Option (List ℕ)
wanted_in (Some (kind.Wanted, text)) = Some text
wanted_in other = None

-- the lines `#= TEXT`: what the command is to be answered
abbrev pub answers_in : List (List ℕ) → List (List ℕ)
answers_in lines = filter_map (λ line. answer_in (note_of line)) lines

-- the lines `#? TEXT`: what the report behind it is to have
abbrev pub wanted_among : List (List ℕ) → List (List ℕ)
wanted_among lines = filter_map (λ line. wanted_in (note_of line)) lines

-- is something expected by this line?
abbrev pub is_expectation : List ℕ → Bool
is_expectation line = is_some (answer_in (note_of line)) || is_some (wanted_in (note_of line))

-- is something expected of this command?
abbrev pub is_checked : Check → Bool
is_checked x = not (length (answers_in x.behind) == 0) || not (length (wanted_among x.behind) == 0)

-- lines with their numbers, of which the first is k
abbrev pub numbered : ℕ → List (List ℕ) → List (ℕ × List ℕ)
numbered k [] = []
numbered k (line ∷ lines) = (k, line) ∷ numbered (k + 1) lines

-- the expectations before the first command, which belong to none
abbrev pub stray : ℕ → List (List ℕ × Line) → List (ℕ × List ℕ)
stray k lines = filter (λ at. is_expectation at.1) (numbered k (ahead lines))
