-- Words of a line (ours).
use Rattle.std.specs.Prelude.{ℕ, List, ◌++◌, Bool, false, codes, Option, Some, None, slice_get}
use Rattle.std.specs.List.{flat_map}
use Rattle.std.specs.Str.{bytes_eq}

-- the word that stands for each name
abbrev pub is_star : List ℕ → Bool
is_star word = bytes_eq word (codes "*")

abbrev pub is_star_word : Option (List ℕ) → Bool
is_star_word None = false
is_star_word (Some word) = is_star word

-- is it the word at this place?
abbrev pub is_star_at : List (List ℕ) → ℕ → Bool
is_star_at words place = is_star_word (slice_get words place)

-- words as a line again, with a space behind each
abbrev pub spaced_word : List ℕ → List ℕ
spaced_word word = word ++ codes " "

abbrev pub line_of_words : List (List ℕ) → List ℕ
line_of_words words = flat_map spaced_word words
