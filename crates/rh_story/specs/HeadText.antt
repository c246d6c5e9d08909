-- The end of a line, and the text in front of the script (ours).
use Rattle.std.specs.Prelude.{ℕ, List, [], ◌∷◌, ◌++◌, codes, if◌then◌else◌}
use Rattle.rh_script.specs.Lines.{ends_with, is_separator}

-- what a line lacks of its end. Where it ends in CR that is CR LF, so that the line asks what it asked before
abbrev pub missing_end : List ℕ → List ℕ
missing_end line = if ends_with 10 line then [] else if ends_with 13 line then codes "\r\n" else codes "\n"

-- a line with its end: only the last of a text may lack it
abbrev pub closed : List ℕ → List ℕ
closed line = line ++ missing_end line

-- the cluster's text up to and with the line `===`, which is put behind it where there is none
abbrev pub head_text : List (List ℕ) → List ℕ
head_text [] = codes "===\n"
head_text (line ∷ lines) = if is_separator line then line else closed line ++ head_text lines
