-- How near a word is to a name (ours).
use Rattle.std.specs.Prelude.{ℕ, List, length, ◌-◌, ◌/◌, ◌&&◌, Bool, nat_le, nat_eq, Option}
use Rattle.std.specs.List.{filter}
use Rattle.std.specs.Str.{chars}
use Rattle.strsim.specs.Edits.{levenshtein_row}
use Rattle.rh_base.specs.Lists.{lightest, head}

-- how many characters are inserted, deleted or replaced at least on the way from a word to a name (Levenshtein's distance)
unfoldable pub edits : List ℕ → List ℕ → ℕ
edits word name = levenshtein_row nat_eq (chars word) (chars name) (length (chars name))

-- Two edits at most lead there, and at most half as many as the name has bytes. Words whose lengths in bytes differ by more than
-- two aren't near.
unfoldable pub is_near : List ℕ → List ℕ → Bool
is_near word name =
    nat_le (length word - length name) 2 && nat_le (length name - length word) 2
    && nat_le (edits word name) 2 && nat_le (edits word name) (length name / 2)

-- the first of those with the fewest edits among the names that the word is near
unfoldable pub nearest : List ℕ → List (List ℕ) → Option (List ℕ)
nearest word names = head (lightest (edits word) (filter (is_near word) names))
