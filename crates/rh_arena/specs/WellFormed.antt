-- When words are those of lists (ours).
use Rattle.std.specs.Prelude.{◌≡◌, ◌≢◌, ◌<◌, ◌↔◌, ℕ, List, [], ◌∷◌, Option, Some, None, length, AllPairs, Contains}
use Rattle.rh_arena.specs.Words.{Words, entry_count, list_count, prev_of, next_of, owner_of, head_of, tail_of, count_of}
use Rattle.rh_arena.specs.Lists.{listed}

-- from a start on, these entries stand one behind the other: prev of each is the one before it, which for the first is p;
-- the last of them is given too, and its next is empty
abbrev pub IsRun : Words → Option ℕ → Option ℕ → List ℕ → Option ℕ → Type 0
IsRun w p start [] last = (start ≡ None) × (last ≡ p)
IsRun w p start (x ∷ xs) last = (start ≡ Some x) × (prev_of w x ≡ p) × IsRun w (Some x) (next_of w x) xs last

-- a list has these entries, in this order
pub record IsList (w : Words) (l : ℕ) (xs : List ℕ) : Type 0 where
  pub linked : IsRun w None (head_of w l) xs (tail_of w l)
  pub counted : count_of w l ≡ length xs
  pub different : AllPairs (λ i j. i ≢ j) xs

pub record IsWellFormed (w : Words) : Type 0 where
  -- there is a word of each kind for each entry and each list
  pub next : length w.next ≡ entry_count w
  pub owner : length w.owner ≡ entry_count w
  pub tail : length w.tail ≡ list_count w
  pub count : length w.count ≡ list_count w
  pub lists : (l : ℕ) → l < list_count w → IsList w l (listed w l)
  -- an entry has a list for its owner exactly if it is in that list
  pub owners : (i l : ℕ) → (owner_of w i ≡ Some l) ↔ Contains (listed w l) i
