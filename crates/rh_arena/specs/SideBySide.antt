-- The words of an arena as they are kept: those of an entry side by side, and those of a list (ours).
use Rattle.std.specs.Prelude.{List, map}
use Rattle.rh_arena.specs.declared.words.EntryWords.{EntryWords}
use Rattle.rh_arena.specs.declared.words.ListWords.{ListWords}
use Rattle.rh_arena.specs.Words.{Words}

-- the words of such entries and such lists
abbrev pub words_of : List EntryWords → List ListWords → Words
words_of entries lists = record {
  prev = map (λ e. e.prev) entries;
  next = map (λ e. e.next) entries;
  owner = map (λ e. e.owner) entries;
  head = map (λ l. l.head) lists;
  tail = map (λ l. l.tail) lists;
  count = map (λ l. l.count) lists;
}
