-- Edits: some words with a value each, which are exchanged for the values that the words have (ours).
use Rattle.std.specs.Prelude.{ℕ, Bool, not, List, [], ◌∷◌, map, slice_index_or, slice_set}
use Rattle.rh_arena.specs.declared.change.Change.{Change}
use Rattle.rh_arena.specs.declared.change.Change.TheVariants.{Prev, Next, Owner, Head, Tail, Count}
use Rattle.rh_arena.specs.Words.{Words}

-- the words, one of which has the value of a change
abbrev pub put : Words → Change → Words
put w (Prev i v) = record w { prev = slice_set w.prev i v }
put w (Next i v) = record w { next = slice_set w.next i v }
put w (Owner i v) = record w { owner = slice_set w.owner i v }
put w (Head l v) = record w { head = slice_set w.head l v }
put w (Tail l v) = record w { tail = slice_set w.tail l v }
put w (Count l v) = record w { count = slice_set w.count l v }

-- the change of the same word to the value that it has (a word that isn't there has any)
abbrev pub had : Words → Change → Change
had w (Prev i v) = Prev i (slice_index_or w.prev i v)
had w (Next i v) = Next i (slice_index_or w.next i v)
had w (Owner i v) = Owner i (slice_index_or w.owner i v)
had w (Head l v) = Head l (slice_index_or w.head l v)
had w (Tail l v) = Tail l (slice_index_or w.tail l v)
had w (Count l v) = Count l (slice_index_or w.count l v)

-- which word a change is of: its kind, and its entry or list
abbrev pub word_of : Change → ℕ × ℕ
word_of (Prev i v) = (0, i)
word_of (Next i v) = (1, i)
word_of (Owner i v) = (2, i)
word_of (Head l v) = (3, l)
word_of (Tail l v) = (4, l)
word_of (Count l v) = (5, l)

-- an edit: its side, and changes of different words
pub record EditView : Type 0 where
  pub is_done : Bool
  pub changes : List Change

abbrev pub puts : Words → List Change → Words
puts w [] = w
puts w (c ∷ cs) = puts (put w c) cs

-- the words with the values of an edit
unfoldable pub exchange : Words → EditView → Words
exchange w e = puts w e.changes

-- the edit on its other side, with the values that the words had
unfoldable pub turned : Words → EditView → EditView
turned w e = record { is_done = not e.is_done; changes = map (had w) e.changes }
