-- The lists that words give (ours).
use Rattle.std.specs.Prelude.{ℕ, zero, suc, ◌==◌, not, List, [], ◌∷◌, Option, Some, None, filter, slice_get, if◌then◌else◌}
use Rattle.rh_arena.specs.Words.{Words, next_of, head_of, count_of}

-- the entries from a start on, by the words next: at most so many
abbrev pub walk : Words → Option ℕ → ℕ → List ℕ
walk w start zero = []
walk w None (suc k) = []
walk w (Some i) (suc k) = i ∷ walk w (next_of w i) k

-- the entries of a list, in its order
unfoldable pub listed : Words → ℕ → List ℕ
listed w l = walk w (head_of w l) (count_of w l)

-- the entries without one of them
abbrev pub without : ℕ → List ℕ → List ℕ
without i xs = filter (λ x. not (x == i)) xs

-- the entry behind another one
abbrev pub after : ℕ → List ℕ → Option ℕ
after i [] = None
after i (x ∷ xs) = if x == i then slice_get xs 0 else after i xs

-- the entry before another one, where the first one has p before it
abbrev pub before_from : Option ℕ → ℕ → List ℕ → Option ℕ
before_from p i [] = None
before_from p i (x ∷ xs) = if x == i then p else before_from (Some x) i xs

abbrev pub before : ℕ → List ℕ → Option ℕ
before i xs = before_from None i xs
