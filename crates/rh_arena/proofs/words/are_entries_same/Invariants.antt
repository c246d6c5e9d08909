-- the words so far are the same
use Rattle.std.proofs.Common.{◌≡◌, take, length}
use Rattle.rh_arena.proofs.words.are_entries_same.Given as goal

abbrev pub invariant-entries : goal.invariant-entries
invariant-entries l = (length l.some ≡ length l.others) × (take l.place l.some ≡ take l.place l.others)
