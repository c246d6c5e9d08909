-- The first line of a script that doesn't fit behind those before it (ours).
use Rattle.std.specs.Prelude.{ℕ, ◌+◌, List, [], ◌∷◌, Bool, if◌then◌else◌, Option, Some, None}

-- fits says whether a line fits behind what came before it, and behind what has then come; the first line has number k
abbrev pub first_unfit : {S L : Type 0} → (S → L → Bool) → (S → L → S) → ℕ → S → List L → Option ℕ
first_unfit fits behind k s [] = None
first_unfit fits behind k s (line ∷ lines) = if fits s line then first_unfit fits behind (k + 1) (behind s line) lines else Some k
