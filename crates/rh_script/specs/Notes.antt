-- The comment lines that a rehearsal writes into scripts and reads there (ours).
use Rattle.std.specs.Prelude.{◌≡◌, ◌↔◌, ◌==◌, ◌&&◌, ℕ, List, ◌∷◌, ◌++◌, codes, Bool, true, false, if◌then◌else◌, Option, Some, None}
use Rattle.std.specs.Option.{option_map}
use Rattle.rh_script.specs.declared.notes.Kind.{Kind}
use Rattle.rh_script.specs.declared.notes.Kind.TheVariants.{Answer, Time, Reason, Table, Wanted}

-- what a line of this kind begins with
abbrev pub mark : Kind → List ℕ
mark Answer = codes "#= "
mark Time = codes "#@ "
mark Reason = codes "#- "
mark Table = codes "#| "
mark Wanted = codes "#? "

-- the kind of a line whose second byte is this one: `=`, `@`, `-`, `|` or `?`
abbrev pub kind_of : ℕ → Option Kind
kind_of b =
    if b == 61 then Some Answer
    else if b == 64 then Some Time
    else if b == 45 then Some Reason
    else if b == 124 then Some Table
    else if b == 63 then Some Wanted
    else None

-- the kind of a line without its end, which begins with `#`, a sign and a blank, and the text behind them; nothing for all other lines
abbrev pub note_of : List ℕ → Option (Kind × List ℕ)
note_of (hash ∷ sign ∷ blank ∷ text) = if (hash == 35) && (blank == 32) then option_map (λ kind. (kind, text)) (kind_of sign) else None
note_of line = None

-- a story writes lines of this kind
abbrev pub is_told_kind : Kind → Bool
is_told_kind Answer = true
is_told_kind Time = true
is_told_kind Reason = true
is_told_kind Table = true
is_told_kind Wanted = false

abbrev pub is_told_note : Option (Kind × List ℕ) → Bool
is_told_note None = false
is_told_note (Some note) = is_told_kind note.0

-- a story writes this line anew
abbrev pub is_told : List ℕ → Bool
is_told line = is_told_note (note_of line)

-- a line is of a kind, with this text behind its mark, exactly if it is the mark and then the text
abbrev pub NotesAreMarked : Type 0
NotesAreMarked = (line text : List ℕ) (kind : Kind) → (note_of line ≡ Some (kind, text)) ↔ (line ≡ mark kind ++ text)
