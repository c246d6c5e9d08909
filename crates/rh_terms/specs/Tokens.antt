-- The words of the grammar: atoms, texts, integers.
-- Bytes are written as numbers: 10 is LF, 34 `"`, 37 `%`, 39 `'`, 44 `,`, 45 `-`, 46 `.`, 91 `[`, 92 `\`, 93 `]`,
-- 123 `{`, 124 `|`, 125 `}`.
use Rattle.std.specs.Prelude.{◌≡◌, ◌≤◌, ◌<◌, ℕ, ℤ, pos, ◌+◌, ◌-◌, ◌*◌, ◌^◌, List, [], ◌∷◌, length, take, drop, fold}
use Rattle.std.specs.Prelude.{Bool, true, false, not, ◌&&◌, ◌||◌, ◌==◌, nat_le, nat_lt, if◌then◌else◌}
use Rattle.std.specs.Prelude.{Option, Some, None, Ok, Err}
use Rattle.std.specs.List.{prefix_len}
use lib.IntN.{neg_ℤ}
use Rattle.rh_terms.specs.declared.fault.Fault.TheVariants.{Syntax, Unsupported, IntRange}
use Rattle.rh_terms.specs.Bytes.{is_atom_byte, is_digit, begins, past_blank}
use Rattle.rh_terms.specs.Faults.{◌>>=◌, Read, stuck}
use Rattle.rh_base.specs.Tree.{Tree, atom, int, text}

-- What a `\` and the byte behind it stand for (Reference Manual, Data Types, Escape Sequences; the others are left out,
-- which is ours).
abbrev pub escape : ℕ → Option ℕ
escape b =
    if (b == 92) || (b == 39) || (b == 34) then Some b
    else if b == 110 then Some 10
    else if b == 116 then Some 9
    else if b == 114 then Some 13
    else if b == 115 then Some 32
    else None

-- what was read, behind this byte
abbrev pub with_byte : ℕ → Read (List ℕ) → Read (List ℕ)
with_byte b read = read >>= λ x. Ok (b ∷ x.0, x.1)

-- a byte between quotes that stands for itself
abbrev pub is_plain : ℕ → ℕ → Bool
is_plain quote b = not (b == quote) && not (b == 92)

-- What the bytes up to the closing quote stand for, and what is behind the quote (Data Types, Atom and String); or the
-- same directly behind a `\`.
unfoldable pub quoted : Bool → ℕ → List ℕ → Read (List ℕ)
quoted escaped quote [] = Err (Syntax 0)
quoted false quote (b ∷ bs) =
    if b == quote then Ok ([], bs)
    else if b == 92 then quoted true quote bs
    else with_byte b (quoted false quote bs)
quoted true quote (b ∷ bs) = elim (escape b) [
  | Some x ↦ with_byte x (quoted false quote bs)
  | None ↦ Err (Unsupported (1 + length (b ∷ bs)))
]

-- The number that decimal digits spell (Data Types, Number).
abbrev pub number : List ℕ → ℕ
number digits = fold (λ n d. n * 10 + (d - 48)) 0 digits

-- n, where it is at most 2 ^ 63
abbrev pub IsAtMost : Option ℕ → ℕ → Type 0
IsAtMost (Some value) n = (value ≡ n) × (n ≤ 2 ^ 63)
IsAtMost None n = 2 ^ 63 < n

-- n, with a minus or without one, is within 64 bits (ours)
abbrev pub fits : Bool → ℕ → Bool
fits true n = nat_le n (2 ^ 63)
fits false n = nat_lt n (2 ^ 63)

-- n, with a minus or without one
abbrev pub signed : Bool → ℕ → ℤ
signed true n = neg_ℤ (pos n)
signed false n = pos n

-- Behind digits: the `#` of a base, or `_` or `.` and a digit (Data Types, Number; left out, which is ours).
abbrev pub is_other_number : List ℕ → Bool
is_other_number bs =
    begins (λ b. b == 35) bs || (begins (λ b. (b == 95) || (b == 46)) bs && begins is_digit (drop 1 bs))

-- An integer whose sign was read. One that doesn't fit is a fault before the byte behind it is looked at (ours).
unfoldable pub digits_at : Bool → List ℕ → Read Tree
digits_at minus bs =
    let n = prefix_len is_digit bs in
    let rest = drop n bs in
    if n == 0 then Err (stuck bs)
    else if not (fits minus (number (take n bs))) then Err IntRange
    else if is_other_number rest then Err (Unsupported (length rest))
    else Ok (int (signed minus (number (take n bs))), rest)

-- an integer (Data Types, Number)
unfoldable pub integer_at : List ℕ → Read Tree
integer_at bs = if begins (λ b. b == 45) bs then digits_at true (drop 1 bs) else digits_at false bs

-- an atom without quotes; reserved words are atoms too, which is ours (Data Types, Atom)
unfoldable pub name_at : List ℕ → Read Tree
name_at bs = let n = prefix_len is_atom_byte bs in Ok (atom (take n bs), drop n bs)

-- an atom in quotes, the opening one read (Data Types, Atom)
unfoldable pub quoted_atom_at : List ℕ → Read Tree
quoted_atom_at bs = quoted false 39 bs >>= λ x. Ok (atom x.0, x.1)

-- A text, its opening quote read (Data Types, String). No other stands behind it with only white space and comments
-- between: Erlang would join the two, which is left out (ours).
unfoldable pub text_at : List ℕ → Read Tree
text_at bs = do
  x ← quoted false 34 bs
  if begins (λ b. b == 34) (past_blank x.1) then Err (Unsupported (length (past_blank x.1))) else Ok (text x.0, x.1)
