-- The words after an entry was put at the end of a list, and after it was taken out of its list (ours).
use Rattle.std.specs.Prelude.{ℕ, ◌+◌, ◌-◌, List, Option, Some, None, slice_set}
use Rattle.rh_arena.specs.declared.change.Change.{Change}
use Rattle.rh_arena.specs.declared.change.Change.TheVariants.{Prev, Next, Head, Tail}
use Rattle.rh_arena.specs.Words.{Words, prev_of, next_of, tail_of, count_of}

-- a word of an entry, where there is one, with a value
abbrev pub set_at : {A : Type 0} → List A → Option ℕ → A → List A
set_at xs None v = xs
set_at xs (Some i) v = slice_set xs i v

-- a word of a list with a value, where an entry has none on that side
abbrev pub set_unless : {A : Type 0} → List A → Option ℕ → ℕ → A → List A
set_unless xs None l v = slice_set xs l v
set_unless xs (Some i) l v = xs

-- the entry stands behind the last one, and is the first one where there was none; its own links are overwritten
abbrev pub pushed : Words → ℕ → ℕ → Words
pushed w l i = record {
  prev = slice_set w.prev i (tail_of w l);
  next = set_at (slice_set w.next i None) (tail_of w l) (Some i);
  owner = slice_set w.owner i (Some l);
  head = set_unless w.head (tail_of w l) l (Some i);
  tail = slice_set w.tail l (Some i);
  count = slice_set w.count l (count_of w l + 1);
}

-- its neighbours are linked to one another; its own links stay
abbrev pub removed : Words → ℕ → ℕ → Words
removed w l i = record {
  prev = set_at w.prev (next_of w i) (prev_of w i);
  next = set_at w.next (prev_of w i) (next_of w i);
  owner = slice_set w.owner i None;
  head = set_unless w.head (prev_of w i) l (next_of w i);
  tail = set_unless w.tail (next_of w i) l (prev_of w i);
  count = slice_set w.count l (count_of w l - 1);
}

-- the word that says what stands behind an entry, or first in a list, with a value
abbrev pub link_behind : ℕ → Option ℕ → Option ℕ → Change
link_behind l None v = Head l v
link_behind l (Some i) v = Next i v

-- the word that says what stands before an entry, or last in a list, with a value
abbrev pub link_before : ℕ → Option ℕ → Option ℕ → Change
link_before l None v = Tail l v
link_before l (Some i) v = Prev i v
