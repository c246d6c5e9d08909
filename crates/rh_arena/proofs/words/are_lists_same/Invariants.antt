-- the words so far are the same
use Rattle.std.proofs.Common.{◌≡◌, take, length}
use Rattle.rh_arena.proofs.words.are_lists_same.Given as goal

abbrev pub invariant-lists : goal.invariant-lists
invariant-lists l = (length l.some ≡ length l.others) × (take l.place l.some ≡ take l.place l.others)
