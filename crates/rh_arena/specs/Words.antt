-- The words of an arena, and those that a change of one names (ours).
use Rattle.std.specs.Prelude.{ℕ, List, Option, None, length, replicate, slice_index, slice_index_or}

-- three words for each entry, three for each list
pub record Words : Type 0 where
  -- the entry before an entry in its list, the one behind it, and the list that it is in
  pub prev : List (Option ℕ)
  pub next : List (Option ℕ)
  pub owner : List (Option ℕ)
  -- the first entry of a list, its last one, and how many it has
  pub head : List (Option ℕ)
  pub tail : List (Option ℕ)
  pub count : List ℕ

abbrev pub entry_count : Words → ℕ
entry_count w = length w.prev

abbrev pub list_count : Words → ℕ
list_count w = length w.head

abbrev pub prev_of : Words → ℕ → Option ℕ
prev_of w i = slice_index_or w.prev i None

abbrev pub next_of : Words → ℕ → Option ℕ
next_of w i = slice_index_or w.next i None

abbrev pub owner_of : Words → ℕ → Option ℕ
owner_of w i = slice_index_or w.owner i None

abbrev pub head_of : Words → ℕ → Option ℕ
head_of w l = slice_index_or w.head l None

abbrev pub tail_of : Words → ℕ → Option ℕ
tail_of w l = slice_index_or w.tail l None

abbrev pub count_of : Words → ℕ → ℕ
count_of w l = slice_index w.count l

-- so many entries, each in no list, and so many lists, each empty
abbrev pub unlinked : ℕ → ℕ → Words
unlinked entries lists = record {
  prev = replicate entries None;
  next = replicate entries None;
  owner = replicate entries None;
  head = replicate lists None;
  tail = replicate lists None;
  count = replicate lists 0;
}
