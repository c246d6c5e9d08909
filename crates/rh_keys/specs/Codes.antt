-- A key as it is kept: its numbers in bytes (ours).
use Rattle.std.specs.Prelude.{ℕ, ◌+◌, ◌*◌, ◌^◌, List, [], ◌∷◌, nat_lt, if◌then◌else◌}
use Rattle.std.specs.List.{flat_map}
use Rattle.std.specs.Int.{w64, to_le_bytes}
use Rattle.rh_model.specs.ClusterView.{ClusterView, app_count}

-- a number below 255 is one byte; any other is 255, and its eight bytes behind it. One of more than 64 bits, which no key has, stands
-- behind 256, which is no byte: so all numbers are told apart.
unfoldable pub number_code : ℕ → List ℕ
number_code n = if nat_lt n 255 then n ∷ [] else (if nat_lt n (2 ^ 64) then 255 ∷ to_le_bytes w64 n else 256 ∷ n ∷ [])

-- one number behind the other
abbrev pub code : List ℕ → List ℕ
code ns = flat_map number_code ns

-- how many bytes say what is said of a node, at most: its mode, each application in a list, the ends of two lists, and one of each pair
abbrev pub node_room : ClusterView → ℕ
node_room c = 2 * app_count c + 3
