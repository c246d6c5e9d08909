-- Lines of a text, and the spaces round them (ours).
use Rattle.std.specs.Prelude.{ℕ, List, [], ◌∷◌, ◌++◌, map, length, ◌&&◌, ◌==◌, if◌then◌else◌, codes}
use Rattle.rh_script.specs.Lines.{raw_lines, content}

-- the lines of a text, without their ends
abbrev pub lines_of : List ℕ → List (List ℕ)
lines_of text = map content (raw_lines text)

-- a line without the spaces at its front
abbrev pub without_front : List ℕ → List ℕ
without_front [] = []
without_front (b ∷ bytes) = if b == 32 then without_front bytes else b ∷ bytes

-- a line without the spaces at its end
abbrev pub without_back : List ℕ → List ℕ
without_back [] = []
without_back (b ∷ bytes) = if (b == 32) && (length (without_back bytes) == 0) then [] else b ∷ without_back bytes

-- without both
abbrev pub without_spaces : List ℕ → List ℕ
without_spaces line = without_back (without_front line)

-- a line below the first one of a block: these words, and this text
abbrev pub below : List ℕ → List ℕ → List ℕ
below words text = codes "  " ++ words ++ text ++ codes "\n"
