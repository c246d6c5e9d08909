-- A text as lines, each with its end, and its parts before and behind the line `===` (ours).
use Rattle.std.specs.Prelude.{ℕ, List, [], ◌∷◌, ◌-◌, length, take, map, slice_index, nat_lt, Bool, ◌&&◌, ◌==◌, if◌then◌else◌, codes}
use Rattle.std.specs.List.{concat, onto_first}
use Rattle.std.specs.Str.{bytes_eq}

-- each line keeps its LF
abbrev pub raw_lines : List ℕ → List (List ℕ)
raw_lines [] = []
raw_lines (b ∷ bytes) = if b == 10 then (b ∷ []) ∷ raw_lines bytes else onto_first b (raw_lines bytes)

-- is the last byte this one?
abbrev pub ends_with : ℕ → List ℕ → Bool
ends_with b bytes = nat_lt 0 (length bytes) && (slice_index bytes (length bytes - 1) == b)

-- the bytes without this byte at their end
abbrev pub without_last : ℕ → List ℕ → List ℕ
without_last b bytes = if ends_with b bytes then take (length bytes - 1) bytes else bytes

-- a line without its LF, and without one CR before that
unfoldable pub content : List ℕ → List ℕ
content line = if ends_with 10 line then without_last 13 (without_last 10 line) else line

-- is the line the one that ends the cluster file?
abbrev pub is_separator : List ℕ → Bool
is_separator line = bytes_eq (content line) (codes "===")

-- the lines before the separator, and those behind it
abbrev pub lines_before : List (List ℕ) → List (List ℕ)
lines_before [] = []
lines_before (line ∷ lines) = if is_separator line then [] else line ∷ lines_before lines

abbrev pub lines_behind : List (List ℕ) → List (List ℕ)
lines_behind [] = []
lines_behind (line ∷ lines) = if is_separator line then lines else lines_behind lines

-- the text before the separator, and all of it where there is none
abbrev pub cluster_text : List ℕ → List ℕ
cluster_text bytes = concat (lines_before (raw_lines bytes))

-- the contents of the lines behind it
abbrev pub script_lines : List ℕ → List (List ℕ)
script_lines bytes = map content (lines_behind (raw_lines bytes))
