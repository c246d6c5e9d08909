-- A scan of a text of terms, byte by byte (ours; Erlang Reference Manual, Character Set, Comments, and Data Types for quotes).
-- Bytes are written as numbers: 10 is LF, 34 `"`, 37 `%`, 39 `'`, 46 `.`, 92 `\`.
use Rattle.std.specs.Prelude.{ℕ, ◌+◌, Bool, true, false, not, ◌&&◌, ◌||◌, ◌==◌, nat_le, if◌then◌else◌}
use Rattle.rh_findings.specs.declared.scan.Standing.{Standing}
use Rattle.rh_findings.specs.declared.scan.Standing.TheVariants.{Between, Remark, Inside, InsideRemark, Quoted, Escaped}

-- space, tab, LF, vertical tab, form feed, CR
abbrev pub is_white : ℕ → Bool
is_white b = (b == 32) || (nat_le 9 b && nat_le b 13)

-- a letter, a digit, `_` or `@`: what an atom without quotes has
abbrev pub is_atom_byte : ℕ → Bool
is_atom_byte b = (nat_le 97 b && nat_le b 122) || (nat_le 64 b && nat_le b 90) || (nat_le 48 b && nat_le b 57) || (b == 95)

-- what stands behind a byte of a term: a dot ends it
abbrev pub behind_inside : ℕ → Standing
behind_inside b =
    if b == 46 then Between
    else if b == 37 then InsideRemark
    else if (b == 34) || (b == 39) then Quoted b
    else Inside

-- what stands behind a byte
abbrev pub behind : Standing → ℕ → Standing
behind Between b = if is_white b then Between else if b == 37 then Remark else behind_inside b
behind Remark b = if b == 10 then Between else Remark
behind Inside b = behind_inside b
behind InsideRemark b = if b == 10 then Inside else InsideRemark
behind (Quoted quote) b = if b == 92 then Escaped quote else if b == quote then Inside else Quoted quote
behind (Escaped quote) b = Quoted quote

-- outside comments and quotes
abbrev pub is_bare : Standing → Bool
is_bare Between = true
is_bare Inside = true
is_bare _ = false

-- a byte of a term, and no blank and none of a comment
abbrev pub is_solid : Standing → ℕ → Bool
is_solid Between b = not (is_white b) && not (b == 37)
is_solid Inside b = not (is_white b) && not (b == 37)
is_solid Remark b = false
is_solid InsideRemark b = false
is_solid (Quoted quote) b = true
is_solid (Escaped quote) b = true

-- is the byte the first of a term?
abbrev pub begins_term : Standing → ℕ → Bool
begins_term Between b = not (is_white b) && not (b == 37)
begins_term _ b = false

-- the line on which the byte behind this one stands
abbrev pub line_behind : ℕ → ℕ → ℕ
line_behind line b = if b == 10 then line + 1 else line

-- a byte of a term behind which something else stands than a byte of the term, or another line: all others change nothing
abbrev pub is_marked : ℕ → Bool
is_marked b = (b == 46) || (b == 37) || (b == 34) || (b == 39) || (b == 10)
