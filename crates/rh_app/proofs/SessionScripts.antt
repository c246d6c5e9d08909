-- The sessions that a script names are sessions that a room can have.
use Rattle.std.proofs.Common.{◌≡◌, ◌≤◌, ◌+◌, ◌-◌, ◌&&◌, ℕ, List, [], ◌∷◌, ◌++◌, All, Bool, true, false, cond, nat_le, Option, Some, None, IfSome, refl, subst}
use Rattle.std.proofs.Common.{arith}
use Rattle.std.proofs.lemmas.Bool.Decides.{nat_tests}
use Rattle.std.proofs.lemmas.List.Elements.{All-nil, All-cons, All-append, All-head, All-tail}
use Rattle.std.specs.Str.{is_utf8}
use Rattle.rh_model.specs.ClusterView.{ClusterView}
use Rattle.rh_room.specs.Legal.{IsSession, session_limit}
use Rattle.rh_script.specs.Commands.{words_of, begins_with, command_of}
use Rattle.rh_script.specs.SessionLines.{command, session_named, asked_by, session_command, session_line_of}
use Rattle.rh_script.specs.declared.script.Line.{Line}
use Rattle.rh_script.specs.declared.script.Line.TheVariants as line
use Rattle.rh_script.specs.declared.session_lines.Command.{Command}
use Rattle.rh_calls.specs.declared.call.TheConstants.{LAST_SESSION}
use Rattle.rh_script.specs.declared.session_lines.SessionLine.TheVariants.{Nothing, Bad}
use Rattle.rh_app.specs.Histories.{session_lines_asked, command_in, commands_of}

abbrev IsNumbered : Command → Type 0
IsNumbered asked = IsSession session_limit asked.session

digit_numbered : (word : List ℕ) → IfSome (session_named word) (IsSession session_limit)
digit_numbered [] = tt
digit_numbered (digit ∷ []) = by (nat_le 49 digit && nat_le digit (48 + LAST_SESSION)) refl where
  by : (b : Bool) → (nat_le 49 digit && nat_le digit (48 + LAST_SESSION)) ≡ b → IfSome (cond b (Some (digit - 48)) None) (IsSession session_limit)
  by true h =
      let low : 49 ≤ digit = grind (arith, nat_tests, h) in
      let high : digit ≤ 48 + LAST_SESSION = grind (arith, nat_tests, h) in
      (omega (arith, low), omega (arith, high))
  by false h = tt
digit_numbered (digit ∷ other ∷ more) = tt

asked_numbered : (o : Option ℕ) (l : Line) → IfSome o (IsSession session_limit) → All IsNumbered (command_in (asked_by o l))
asked_numbered None l h = All-nil IsNumbered
asked_numbered (Some session) line.Nothing h = All-nil IsNumbered
asked_numbered (Some session) (line.Asks call) h = All-cons IsNumbered (command session call) [] h (All-nil IsNumbered)
asked_numbered (Some session) line.Bad h = All-nil IsNumbered

words_numbered : (c : ClusterView) (words : List (List ℕ)) → All IsNumbered (command_in (session_command c words))
words_numbered c [] = All-nil IsNumbered
words_numbered c (word ∷ words) = asked_numbered (session_named word) (command_of c words) (digit_numbered word)

line_numbered : (c : ClusterView) (line : List ℕ) → All IsNumbered (command_in (session_line_of c line))
unfolding session_line_of
line_numbered c line = by (begins_with 35 line) (is_utf8 line) where
  by : (a b : Bool) → All IsNumbered (command_in (cond a Nothing (cond b (session_command c (words_of line)) Bad)))
  by true b = All-nil IsNumbered
  by false true = words_numbered c (words_of line)
  by false false = All-nil IsNumbered

pub sessions_numbered : (c : ClusterView) (lines : List (List ℕ)) → All (λ x. IsSession session_limit x.session) (commands_of (session_lines_asked c lines))
sessions_numbered c [] = All-nil IsNumbered
sessions_numbered c (line ∷ lines) =
    All-append IsNumbered (command_in (session_line_of c line)) (commands_of (session_lines_asked c lines)) (line_numbered c line) (sessions_numbered c lines)

-- and so in a front of them
all_in_front : (done more : List Command) → All IsNumbered (done ++ more) → All IsNumbered done
all_in_front [] more h = All-nil IsNumbered
all_in_front (x ∷ done) more h =
    All-cons IsNumbered x done (All-head IsNumbered x (done ++ more) h) (all_in_front done more (All-tail IsNumbered x (done ++ more) h))

pub all_numbered : (c : ClusterView) (lines rest : List (List ℕ)) (done : List Command)
    → commands_of (session_lines_asked c lines) ≡ done ++ commands_of (session_lines_asked c rest)
    → All (λ x. IsSession session_limit x.session) done
all_numbered c lines rest done is =
    all_in_front done (commands_of (session_lines_asked c rest)) (subst (All IsNumbered) is (sessions_numbered c lines))
