-- Worked rows of the linked lists of rh_arena: what an entry keeps that was taken out of its list, on both sides. They stand here
-- since nothing stands on this crate, so that a row more has no other crate proved again.
use Rattle.std.proofs.Common.{◌≡◌, None, Some, refl}
use Rattle.rh_arena.specs.Words.{Words, unlinked, prev_of, next_of, owner_of}
use Rattle.rh_arena.specs.Linking.{pushed, removed}

-- list 0 has the entries 2, 0 and 1, in this order
abbrev three : Words
three = pushed (pushed (pushed (unlinked 3 1) 0 2) 0 0) 0 1

-- the one in the middle is taken out: it is in no list, and its own links stay as they were
unowned_row : owner_of (removed three 0 0) 0 ≡ None
unowned_row = refl

prev_kept_row : prev_of (removed three 0 0) 0 ≡ Some 2
prev_kept_row = refl

next_kept_row : next_of (removed three 0 0) 0 ≡ Some 1
next_kept_row = refl

-- and so where the last one is taken out, which has a link to one side alone
prev_of_last_kept_row : prev_of (removed three 0 1) 1 ≡ Some 0
prev_of_last_kept_row = refl
