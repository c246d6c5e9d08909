-- Worked rows: the pieces of JSON, computed from the definitions.
use Rattle.std.proofs.Common.{◌≡◌, ◌++◌, [], ◌∷◌, codes, refl}
use Rattle.std.specs.Fmt.{digits, decimal}
use Rattle.rh_json_text.specs.Json.{escaped, json_string, json_array}

-- a quote and a backslash stand behind a backslash, bytes below 32 are numbers of four digits, and all others stand as they are
string_row : (json_string (codes "a b") ≡ codes "\"a b\"") × (json_string [] ≡ codes "\"\"") × (json_string (34 ∷ 92 ∷ 47 ∷ []) ≡ 34 ∷ 92 ∷ 34 ∷ 92 ∷ 92 ∷ 47 ∷ 34 ∷ [])
    × (json_string (0 ∷ 10 ∷ 31 ∷ 32 ∷ 127 ∷ 255 ∷ []) ≡ codes "\"\\u0000\\u000a\\u001f " ++ 127 ∷ 255 ∷ 34 ∷ [])
unfolding json_string escaped
string_row = (refl, refl, refl, refl)

-- a comma stands between each two values
array_row : (json_array decimal [] ≡ codes "[]") × (json_array decimal (7 ∷ []) ≡ codes "[7]") × (json_array decimal (7 ∷ 10 ∷ 0 ∷ []) ≡ codes "[7,10,0]")
unfolding json_array digits
array_row = (refl, refl, refl)
