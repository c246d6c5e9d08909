-- the copies so far are those of the items so far
use Rattle.std.proofs.Common.{◌≡◌, take}
use Rattle.rh_base.proofs.alike.copies_of.Given as goal

abbrev pub invariant-items : goal.invariant-items
invariant-items g l = l.copies.items ≡ take l.item-index l.items
