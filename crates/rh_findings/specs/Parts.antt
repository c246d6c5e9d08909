-- Where the parts of a depth stand (ours; Erlang Reference Manual, Data Types, Tuple and List).
-- Bytes are written as numbers: 44 is a comma, 46 a dot, 91 `[`, 93 `]`, 123 `{`, 125 `}`.
use Rattle.std.specs.Prelude.{ℕ, ◌+◌, ◌-◌, List, [], ◌∷◌, ◌++◌, Bool, not, ◌&&◌, ◌||◌, ◌==◌, nat_le, Option, Some, None, if◌then◌else◌}
use Rattle.std.specs.Option.{option_to_list}
use Rattle.rh_findings.specs.declared.scan.Standing.{Standing}
use Rattle.rh_findings.specs.declared.scan.Standing.TheVariants.{Between}
use Rattle.rh_findings.specs.declared.parts.Part.{Part}
use Rattle.rh_findings.specs.Scan.{behind, is_bare, is_solid, line_behind}

abbrev pub opens : ℕ → Bool
opens b = (b == 91) || (b == 123)

abbrev pub closes : ℕ → Bool
closes b = (b == 93) || (b == 125)

-- how many lists and tuples are open behind a byte
abbrev pub depth_behind : Standing → ℕ → ℕ → ℕ
depth_behind standing depth b =
    if not (is_bare standing) then depth
    else if opens b then depth + 1
    else if closes b then depth - 1
    else depth

-- a part ends before a comma, before the bracket that ends its list or tuple, and a term before its dot
abbrev pub separates : ℕ → Bool
separates b = (b == 44) || closes b || (b == 46)

abbrev pub ends_here : ℕ → Standing → ℕ → ℕ → Bool
ends_here wanted standing depth b = is_bare standing && (depth == wanted) && separates b

-- the part with this byte too, which may be its first
abbrev pub grown : ℕ → Option Part → ℕ → ℕ → Part
grown wanted None line at = record { line = line; from = at; to = at + 1; depth = wanted }
grown wanted (Some p) line at = record { line = p.line; from = p.from; to = at + 1; depth = p.depth }

-- the part that is begun behind a byte: blanks and comments are no bytes of it, but between two others
unfoldable pub open_behind : ℕ → Standing → ℕ → Option Part → ℕ → ℕ → ℕ → Option Part
open_behind wanted standing depth part line at b =
    if ends_here wanted standing depth b then None
    else if nat_le wanted depth && is_solid standing b then Some (grown wanted part line at)
    else part

-- the one that ends before a byte
unfoldable pub ended_here : ℕ → Standing → ℕ → Option Part → ℕ → List Part
ended_here wanted standing depth part b = if ends_here wanted standing depth b then option_to_list part else []

-- those of a text that is left
abbrev pub parts_from : ℕ → Standing → ℕ → ℕ → ℕ → Option Part → List ℕ → List Part
parts_from wanted standing line at depth part [] = []
parts_from wanted standing line at depth part (b ∷ bytes) =
    ended_here wanted standing depth part b
    ++ parts_from wanted (behind standing b) (line_behind line b) (at + 1) (depth_behind standing depth b)
    (open_behind wanted standing depth part line at b) bytes

-- all that stand in so many lists and tuples
abbrev pub parts_at : ℕ → List ℕ → List Part
parts_at wanted bytes = parts_from wanted Between 1 0 0 None bytes
