-- Words of a text of terms (ours). 44 is a comma, 123 `{`, 125 `}`.
use Rattle.std.specs.Prelude.{ℕ, List, [], Bool, ◌==◌, drop, if◌then◌else◌}
use Rattle.std.specs.List.{before_first, after_first}
use Rattle.std.specs.Str.{bytes_eq, is_utf8, trim}
use Rattle.rh_cluster_lint.specs.Constructs.{byte_at}

-- these bytes as words; none where they are no text
abbrev pub words_of : List ℕ → List ℕ
words_of bytes = if is_utf8 bytes then bytes else []

-- what stands before a comma and before a brace, without the blanks round it
abbrev pub word : List ℕ → List ℕ
word bytes = trim (words_of (before_first (λ b. b == 125) (before_first (λ b. b == 44) bytes)))

-- the first word of a tuple, behind its brace, and the second, behind a comma
abbrev pub first_word : List ℕ → List ℕ
first_word tuple = word (drop 1 tuple)

abbrev pub second_word : List ℕ → List ℕ
second_word tuple = word (after_first (λ b. b == 44) (drop 1 tuple))

-- a tuple begins here
abbrev pub is_tuple : List ℕ → Bool
is_tuple bytes = byte_at bytes 0 == 123

-- its first word is this
abbrev pub is_headed : List ℕ → List ℕ → Bool
is_headed name tuple = bytes_eq (first_word tuple) name
