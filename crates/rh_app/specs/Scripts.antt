-- The commands of a script of sessions (ours).
use Rattle.std.specs.Prelude.{◌≡◌, List, All, None, Some}
use Rattle.rh_room.specs.Legal.{IsSession, session_limit}
use Rattle.rh_script.specs.declared.session_lines.SessionLine.{SessionLine}
use Rattle.rh_app.specs.declared.sessions.commands.Script.{Script}
use Rattle.rh_app.specs.declared.sessions.commands.Script.TheVariants.{Commands, BadLine}
use Rattle.rh_app.specs.Histories.{commands_of, bad_session_line}

-- all lines fit, and these are their commands; or this is the number of the first line that doesn't
abbrev pub IsScriptOf : List SessionLine → Script → Type 0
IsScriptOf lines (Commands commands) = (bad_session_line 1 0 lines ≡ None) × (commands.items ≡ commands_of lines)
IsScriptOf lines (BadLine k) = bad_session_line 1 0 lines ≡ Some k

-- the sessions are numbered 1 to 8
abbrev pub AreNumbered : Script → Type 0
AreNumbered (Commands commands) = All (λ c. IsSession session_limit c.session) commands.items
AreNumbered (BadLine k) = Unit {0}
