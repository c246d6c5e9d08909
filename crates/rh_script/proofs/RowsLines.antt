-- Worked rows: each command, the lines that are none, and what a script of sessions or of a sweep asks.
use Rattle.std.proofs.Common.{◌≡◌, ℕ, List, [], ◌∷◌, true, false, Option, Some, None, codes, map, replicate, refl}
use Rattle.std.specs.Str.{is_utf8, chars}
use lib.Utf8.{encode}
use Rattle.rh_model.specs.ClusterView.{ClusterView, numbered, app_numbered}
use Rattle.rh_model.specs.declared.settings.Restart.TheVariants.{Permanent, Transient, Temporary}
use Rattle.rh_rules.specs.declared.event.Event.TheVariants.{Boot, Crash, Tick, Start, Stop, Permit, Takeover, Exit, StartAll, StopAll}
use Rattle.rh_calls.specs.declared.call.Call.TheVariants.{Step, Undo, Redo, UndoAll, RedoAll, Look}
use Rattle.rh_script.specs.declared.script.TheConstants.{NO_NODE, NO_APP}
use Rattle.rh_script.specs.declared.script.Line.TheVariants.{Nothing, Asks, Bad}
use Rattle.rh_script.specs.declared.session_lines.SessionLine.TheVariants as session
use Rattle.rh_script.specs.declared.sweep_lines.SweepLine.TheVariants as asks
use Rattle.rh_script.specs.Lines.{content, cluster_text, script_lines}
use Rattle.rh_script.specs.Forms.{verb_named}
use Rattle.rh_script.specs.Commands.{milliseconds, line_of}
use Rattle.rh_script.specs.SessionLines.{command, session_line_of}
use Rattle.rh_script.specs.declared.script.Line.{Line}
use Rattle.rh_script.specs.declared.sweep_lines.SweepLine.{SweepLine}
use Rattle.rh_script.specs.SweepLines.{PlanText, sweep_line_of, bad_sweep_line, base_lines, plans_of, sweep_lines_asked}

-- nodes a and b, and an application w
abbrev c : ClusterView
c = record { profile = 1; node_names = codes "a" ∷ codes "b" ∷ []; app_names = codes "w" ∷ []; platform_names = []; nodes = []; apps = [] }

plain_commands_row : map (line_of c) (codes "undo" ∷ codes "redo" ∷ codes "undo_all" ∷ codes "redo_all" ∷ codes "show" ∷ [])
    ≡ Asks Undo ∷ Asks Redo ∷ Asks UndoAll ∷ Asks RedoAll ∷ Asks Look ∷ []
unfolding line_of verb_named is_utf8 chars encode
plain_commands_row = refl

events_row : map (line_of c) (codes "boot b" ∷ codes "crash b" ∷ codes "tick 5" ∷ codes "start b w permanent" ∷ codes "stop b w" ∷ codes "permit b w true"
    ∷ codes "takeover b w transient" ∷ codes "exit b w normal" ∷ codes "exit b w abnormal" ∷ codes "start_all w temporary" ∷ codes "stop_all w" ∷ [])
    ≡ map (λ event. Asks (Step event)) (Boot (numbered 1) ∷ Crash (numbered 1) ∷ Tick 5 ∷ Start (numbered 1) (app_numbered 0) Permanent
    ∷ Stop (numbered 1) (app_numbered 0) ∷ Permit (numbered 1) (app_numbered 0) true ∷ Takeover (numbered 1) (app_numbered 0) Transient
    ∷ Exit (numbered 1) (app_numbered 0) true ∷ Exit (numbered 1) (app_numbered 0) false ∷ StartAll (app_numbered 0) Temporary ∷ StopAll (app_numbered 0) ∷ [])
unfolding line_of verb_named milliseconds is_utf8 chars encode
events_row = refl

-- a name that nothing has stands for number 255; a node's isn't an application's
no_names_row : (NO_NODE ≡ numbered 255) × (NO_APP ≡ app_numbered 255)
    × (map (line_of c) (codes "crash c" ∷ codes "stop w a" ∷ codes "stop b ?" ∷ codes "start_all a permanent" ∷ codes "stop_all b" ∷ [])
    ≡ Asks (Step (Crash (numbered 255))) ∷ Asks (Step (Stop (numbered 255) (app_numbered 255))) ∷ Asks (Step (Stop (numbered 1) (app_numbered 255)))
    ∷ Asks (Step (StartAll (app_numbered 255) Permanent)) ∷ Asks (Step (StopAll (app_numbered 255))) ∷ [])
unfolding line_of verb_named is_utf8 chars encode
no_names_row = (refl, refl, refl)

numbers_row : map milliseconds (codes "0" ∷ codes "007" ∷ codes "18446744073709551615" ∷ codes "18446744073709551616" ∷ [] ∷ codes "+5" ∷ codes "-1" ∷ codes "5ms"
    ∷ codes "1e3" ∷ codes "0x5" ∷ codes "a" ∷ [])
    ≡ Some 0 ∷ Some 7 ∷ Some 18446744073709551615 ∷ replicate 8 None
unfolding milliseconds
numbers_row = refl

-- another word, a word too few or too many, another last word, a tab in place of a space, a byte that is no text
bad_lines_row : map (line_of c) (codes "flip a" ∷ codes "Undo" ∷ codes "undo a" ∷ codes "boot" ∷ codes "boot a b" ∷ codes "boot\ta" ∷ codes "tick" ∷ codes "tick 5 5"
    ∷ codes "stop a" ∷ codes "start a w" ∷ codes "start a w always" ∷ codes "start a w permanent x" ∷ codes "permit a w yes" ∷ codes "exit a w" ∷ codes "exit a w why"
    ∷ codes "takeover a w normal" ∷ codes "start_all w" ∷ codes "start_all w always" ∷ codes "start_all a w permanent" ∷ codes "start_all" ∷ codes "stop_all"
    ∷ codes "stop_all a w" ∷ codes "stop_all w permanent" ∷ codes "undo\r" ∷ codes " # x" ∷ codes "plan p" ∷ codes "1 undo" ∷ (255 ∷ []) ∷ [])
    ≡ replicate 28 Bad
unfolding line_of verb_named milliseconds is_utf8 chars encode
bad_lines_row = refl

-- spaces alone, and a line that begins with `#`, whatever stands behind it
nothing_row : map (line_of c) ([] ∷ codes "  " ∷ codes "#" ∷ codes "#undo" ∷ (35 ∷ 255 ∷ []) ∷ []) ≡ replicate 5 Nothing
unfolding line_of verb_named is_utf8 chars encode
nothing_row = refl

-- ---- lines

-- the first line that is the separator counts, with a CR or without; a line that only begins with it doesn't
separator_row : (map cluster_text (codes "a\n===\nb\n===\nc" ∷ codes "a\r\n===\r\nb" ∷ codes "a\n=== \n====\nb" ∷ codes "a\n===" ∷ codes "===" ∷ [])
    ≡ codes "a\n" ∷ codes "a\r\n" ∷ codes "a\n=== \n====\nb" ∷ codes "a\n" ∷ [] ∷ [])
    × (map script_lines (codes "a\n===\nb\n===\nc" ∷ codes "a\n" ∷ codes "===\n" ∷ codes "===\n\nb\n" ∷ [])
    ≡ (codes "b" ∷ codes "===" ∷ codes "c" ∷ []) ∷ [] ∷ [] ∷ ([] ∷ codes "b" ∷ []) ∷ [])
unfolding content
separator_row = (refl, refl)

-- the LF and one CR before it are no part of a line; a CR without an LF is
ends_row : map content (codes "a\r\n" ∷ codes "a\r\r\n" ∷ codes "a\n" ∷ codes "a\r" ∷ codes "\r\n" ∷ []) ≡ codes "a" ∷ codes "a\r" ∷ codes "a" ∷ codes "a\r" ∷ [] ∷ []
unfolding content
ends_row = refl

-- ---- sessions

-- a digit 1 to 8, and then a command
session_lines_row : map (session_line_of c) (codes "1 undo" ∷ codes " 8  boot b" ∷ codes "2 start_all w transient" ∷ codes "3 stop_all w" ∷ codes "  " ∷ codes "# x" ∷ (35 ∷ 255 ∷ []) ∷ [])
    ≡ session.Asks (command 1 Undo) ∷ session.Asks (command 8 (Step (Boot (numbered 1))))
    ∷ session.Asks (command 2 (Step (StartAll (app_numbered 0) Transient))) ∷ session.Asks (command 3 (Step (StopAll (app_numbered 0)))) ∷ replicate 3 session.Nothing
unfolding session_line_of verb_named is_utf8 chars encode
session_lines_row = refl

bad_session_lines_row : map (session_line_of c) (codes "0 undo" ∷ codes "9 undo" ∷ codes "11 undo" ∷ codes "1" ∷ codes "undo" ∷ codes "1 # x" ∷ codes "1 flip" ∷ codes "1 1 undo"
    ∷ codes "a undo" ∷ codes "/ undo" ∷ codes ": undo" ∷ (49 ∷ 32 ∷ 255 ∷ []) ∷ [])
    ≡ replicate 12 session.Bad
unfolding session_line_of verb_named is_utf8 chars encode
bad_session_lines_row = refl

-- ---- sweeps

plan_lines_row : map (sweep_line_of c) (codes "plan p" ∷ codes " plan  plan " ∷ codes "plan" ∷ codes "plan p q" ∷ codes "undo" ∷ codes "#plan p" ∷ (255 ∷ []) ∷ [])
    ≡ asks.Begins (codes "p") ∷ asks.Begins (codes "plan") ∷ asks.Plain Bad ∷ asks.Plain Bad ∷ asks.Plain (Asks Undo) ∷ asks.Plain Nothing ∷ asks.Plain Bad ∷ []
unfolding sweep_line_of verb_named is_utf8 chars encode
plan_lines_row = refl

-- what stands before the first plan is the base; names may be the same, and a plan may be empty
abbrev parts : List SweepLine → List Line × List PlanText × Option ℕ
parts lines = (base_lines lines, plans_of lines, bad_sweep_line lines)

plans_row : parts (sweep_lines_asked c (
    codes "undo" ∷ [] ∷ codes "plan p" ∷ codes "boot a" ∷ codes "#" ∷ codes "crash a" ∷ codes "plan p" ∷ codes "plan q" ∷ codes "tick 1" ∷ codes "stop_all w"
    ∷ codes "start_all w permanent" ∷ []))
    ≡ (
      Asks Undo ∷ Nothing ∷ [],
      record { name = codes "p"; events = Boot (numbered 0) ∷ Crash (numbered 0) ∷ [] } ∷ record { name = codes "p"; events = [] }
          ∷ record { name = codes "q"; events = Tick 1 ∷ StopAll (app_numbered 0) ∷ StartAll (app_numbered 0) Permanent ∷ [] } ∷ [],
      None,
    )
unfolding sweep_line_of verb_named milliseconds is_utf8 chars encode
plans_row = refl

-- behind a plan's line only events fit
unfit_row : map (λ last. bad_sweep_line (sweep_lines_asked c (codes "show" ∷ codes "plan p" ∷ last ∷ [])))
    (codes "boot a" ∷ codes "start_all w transient" ∷ codes "stop_all w" ∷ codes "undo" ∷ codes "redo" ∷ codes "undo_all" ∷ codes "redo_all" ∷ codes "show"
    ∷ codes "flip" ∷ [])
    ≡ None ∷ None ∷ None ∷ replicate 6 (Some 3)
unfolding sweep_line_of verb_named is_utf8 chars encode
unfit_row = refl
