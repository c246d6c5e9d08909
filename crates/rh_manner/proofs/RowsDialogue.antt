-- Worked rows: what is due of bytes that have come, and what a log says.
use Rattle.std.proofs.Common.{◌≡◌, true, false, [], ◌∷◌, codes, refl}
use Rattle.std.specs.List.{list_any}
use Rattle.rh_script.specs.Lines.{content, is_separator}
use Rattle.rh_rules.specs.declared.pick.Pick.TheVariants.{First}
use Rattle.rh_manner.specs.declared.voice.Form.TheVariants.{Plain, Json}
use Rattle.rh_manner.specs.declared.voice.Voice.{Voice}
use Rattle.rh_manner.specs.Deeds.{Gave, Took, Flushed, given, taken, is_flushed, is_ended}
use Rattle.rh_manner.specs.DialogueText.{IsPrompt, due_text, whole_lines}
use Rattle.rh_manner.specs.Voices.{voiced}

-- a voice for people, and one for programs
plain : Voice
plain = record { pick = First; form = Plain }

json : Voice
json = record { pick = First; form = Json }

-- what came last stands first in a log
order_row : (given (Gave (codes "b") ∷ Took (codes "x") ∷ Gave (codes "a") ∷ []) ≡ codes "ab")
    × (taken (Took (codes "y") ∷ Gave (codes "b") ∷ Took (codes "x") ∷ []) ≡ codes "xy")
order_row = (refl, refl)

-- what is flushed behind the last bytes that were taken; and at the end nothing is given
ends_row : (is_flushed (Gave (codes "b") ∷ Flushed ∷ Took (codes "x") ∷ []) ≡ true) × (is_flushed (Took (codes "x") ∷ Flushed ∷ []) ≡ false)
    × (is_ended (Took (codes "x") ∷ Gave [] ∷ []) ≡ true) × (is_ended (Gave (codes "a") ∷ []) ≡ false)
ends_row = (refl, refl, refl, refl)

-- lines that have come whole; the line `===` among them, and half of it
whole_row : whole_lines (codes "a\nb\nc") ≡ codes "a\n" ∷ codes "b\n" ∷ []
whole_row = refl

half_row : (list_any is_separator (whole_lines (codes "a\n===\nb")) ≡ true) × (list_any is_separator (whole_lines (codes "a\n===")) ≡ false)
    × (due_text (voiced plain) (codes "a\n===") ≡ []) × (due_text (voiced json) (codes "a\n===") ≡ [])
unfolding content
half_row = (refl, refl, refl, refl)

-- who asks for more before what was written is flushed isn't in time
unflushed_row : IsPrompt (voiced plain) (Gave [] ∷ Took (codes "x") ∷ []) → ⊥
unflushed_row prompt = cc prompt.0.1

-- nor is who has written before the line `===` came
early_row : IsPrompt (voiced json) (Gave (codes "\n") ∷ Flushed ∷ Took (codes "x") ∷ []) → ⊥
early_row prompt = cc prompt.0.0
