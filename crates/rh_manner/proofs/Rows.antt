-- Worked rows: what is printed before an answer, which replies are refused steps, and how a strict run ends.
use Rattle.std.proofs.Common.{◌≡◌, ◌++◌, List, [], ◌∷◌, codes, true, false, Some, None, refl}
use Rattle.rh_rules.specs.declared.refusal.Refusal.TheVariants.{UnknownNode, AlreadyAlive}
use Rattle.rh_calls.specs.declared.call.Call.TheVariants as call
use Rattle.rh_calls.specs.declared.call.Reply.TheVariants as reply
use Rattle.rh_script.specs.declared.script.Line.TheVariants.{Nothing, Asks, Bad}
use Rattle.rh_script.specs.Answers.{bad_text}
use Rattle.rh_run.specs.declared.fault.Told.TheVariants as told
use Rattle.rh_asked.specs.declared.manner.Manner.{Manner}
use Rattle.rh_manner.specs.MannerText.{Said, echo_of, command_lines, bad_end, end_of, is_refused_step}

abbrev loud : Manner
loud = record { echo = true; strict = false }

abbrev strict : Manner
strict = record { echo = false; strict = true }

-- a line as it stands, with its blanks
echo_row : (echo_of loud (codes " undo") ≡ codes ">  undo\n") × (echo_of strict (codes "undo") ≡ [])
echo_row = (refl, refl)

abbrev lines : List Said
lines = (codes "# first", Nothing) ∷ (codes "undo", Asks call.Undo) ∷ (codes "reboot a@x", Bad) ∷ (codes "show", Asks call.Look) ∷ []

-- of a comment, a command, a line that is none and a command behind it: the first command, and then the bad line with its number
lines_row : (command_lines lines ≡ codes "undo" ∷ []) × (bad_end loud 1 lines ≡ codes "> reboot a@x\n" ++ bad_text 3) × (bad_end strict 1 lines ≡ bad_text 3)
lines_row = (refl, refl, refl)

-- a refused step is one whatever the reason; an undo at the start, a redo at the end and a step that follows are none
refused_step_row : (is_refused_step (reply.Refused UnknownNode) ≡ true) × (is_refused_step (reply.Refused AlreadyAlive) ≡ true)
    × (is_refused_step reply.AtStart ≡ false) × (is_refused_step reply.AtEnd ≡ false) × (is_refused_step (reply.Done []) ≡ false)
    × (is_refused_step reply.Undone ≡ false)
refused_step_row = (refl, refl, refl, refl, refl, refl)

-- a bad line counts before a refused step, and a refused step only in a strict run
end_row : (end_of strict true None ≡ Some told.Refused) × (end_of strict false None ≡ None) × (end_of loud true None ≡ None)
    × (end_of strict true (Some 7) ≡ Some (told.BadLine 7))
end_row = (refl, refl, refl, refl)
