-- The pieces of a JSON text (RFC 8259). Ours is that no blank stands between them.
use Rattle.std.specs.Prelude.{ℕ, Bool, ◌+◌, ◌/◌, ◌%◌, ◌||◌, ◌==◌, List, [], ◌∷◌, ◌++◌, drop, nat_lt, if◌then◌else◌, codes}
use Rattle.std.specs.List.{flat_map, join_by}

-- the digit of a number below 16
abbrev pub hex_digit : ℕ → ℕ
hex_digit d = if nat_lt d 10 then 48 + d else 87 + d

-- a byte of a string: a control byte is written by its number, a quote and a backslash stand behind a backslash, and any other byte
-- stands as it is (RFC 8259, 7)
unfoldable pub escaped : ℕ → List ℕ
escaped b =
    if nat_lt b 32 then codes "\\u00" ++ hex_digit (b / 16) ∷ hex_digit (b % 16) ∷ []
    else if b == 34 || b == 92 then 92 ∷ b ∷ []
    else b ∷ []

-- whether a byte of a string can't stand there as it is
unfoldable pub is_escaped : ℕ → Bool
is_escaped b = nat_lt b 32 || (b == 34 || b == 92)

-- a string
unfoldable pub json_string : List ℕ → List ℕ
json_string text = codes "\"" ++ flat_map escaped text ++ codes "\""

-- an array: for each element its value, with a comma between each two
unfoldable pub json_array : {X : Type 0} → (X → List ℕ) → List X → List ℕ
json_array value xs = codes "[" ++ join_by value (codes ",") xs ++ codes "]"

-- ---- how an array is written

-- a value behind a comma
abbrev pub behind_comma : {X : Type 0} → (X → List ℕ) → X → List ℕ
behind_comma value x = codes "," ++ value x

-- the array of values that stand each behind a comma
abbrev pub bracketed : List ℕ → List ℕ
bracketed values = codes "[" ++ drop 1 values ++ codes "]"
