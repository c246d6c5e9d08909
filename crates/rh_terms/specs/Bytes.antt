-- Kinds of bytes, and what stands between tokens.
-- Bytes are written as numbers: 10 is LF, 34 `"`, 37 `%`, 39 `'`, 44 `,`, 45 `-`, 46 `.`, 91 `[`, 92 `\`, 93 `]`,
-- 123 `{`, 124 `|`, 125 `}`.
use Rattle.std.specs.Prelude.{ℕ, List, [], ◌∷◌, Bool, true, false, ◌&&◌, ◌||◌, ◌==◌, nat_le, if◌then◌else◌}

-- Space, tab, LF, vertical tab, form feed, CR (Erlang Reference Manual, Character Set).
abbrev pub is_white : ℕ → Bool
is_white b = (b == 32) || (nat_le 9 b && nat_le b 13)

-- `0` to `9`
abbrev pub is_digit : ℕ → Bool
is_digit b = nat_le 48 b && nat_le b 57

-- `a` to `z`: what an atom without quotes begins with, of ASCII alone (Reference Manual, Data Types, Atom; ASCII alone
-- is ours)
abbrev pub is_lower : ℕ → Bool
is_lower b = nat_le 97 b && nat_le b 122

-- A letter, a digit, `_` or `@`: what an atom without quotes goes on with (Data Types, Atom).
abbrev pub is_atom_byte : ℕ → Bool
is_atom_byte b = is_lower b || (nat_le 64 b && nat_le b 90) || is_digit b || (b == 95)

-- `$`, `#`, `<`, `~`, `+`, or a byte of a character past ASCII: what begins a term of Erlang that this project leaves
-- out (ours).
abbrev pub is_unsupported : ℕ → Bool
is_unsupported b = (b == 36) || (b == 35) || (b == 60) || (b == 126) || (b == 43) || nat_le 128 b

-- what ends the dot behind a term: white space, or the `%` of a comment (kernel, file, consult/1)
abbrev pub is_end : ℕ → Bool
is_end b = is_white b || (b == 37)

-- the bytes begin with one for which p holds
abbrev pub begins : (ℕ → Bool) → List ℕ → Bool
begins p [] = false
begins p (b ∷ bs) = p b

-- What stands behind white space and comments, of which each goes from `%` to the end of its line (Reference Manual,
-- Modules, Comments); inside of a comment, behind its rest too.
unfoldable pub past : Bool → List ℕ → List ℕ
past inside [] = []
past true (b ∷ bs) = if b == 10 then past false bs else past true bs
past false (b ∷ bs) = if b == 37 then past true bs else if is_white b then past false bs else b ∷ bs

-- the same, outside of a comment
abbrev pub past_blank : List ℕ → List ℕ
past_blank bs = past false bs
