-- The first line on which a word stands (ours).
use Rattle.std.specs.Prelude.{ℕ, List, [], ◌∷◌, length, drop, nat_eq, Bool, false, not, ◌&&◌, Option, Some, None, if◌then◌else◌}
use Rattle.std.specs.List.{starts_with}
use Rattle.rh_findings.specs.Scan.{is_atom_byte, line_behind}

abbrev pub begins_atom_byte : List ℕ → Bool
begins_atom_byte [] = false
begins_atom_byte (b ∷ bytes) = is_atom_byte b

-- the word stands here, and doesn't go on behind
abbrev pub stands_here : List ℕ → List ℕ → Bool
stands_here word bytes = starts_with nat_eq bytes word && not (begins_atom_byte (drop (length word) bytes))

-- behind a byte that an atom has, or behind another one
abbrev pub line_from : Bool → ℕ → List ℕ → List ℕ → Option ℕ
line_from goes_on line word [] = None
line_from goes_on line word (b ∷ bytes) =
    if not goes_on && stands_here word (b ∷ bytes) then Some line
    else line_from (is_atom_byte b) (line_behind line b) word bytes

-- in a text that begins on this line
abbrev pub line_of_word : ℕ → List ℕ → List ℕ → Option ℕ
line_of_word first word bytes = line_from false first word bytes
