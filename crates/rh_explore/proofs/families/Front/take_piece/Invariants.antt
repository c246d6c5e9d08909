use Rattle.std.proofs.Common.{◌≡◌, ◌<◌, ◌≤◌, ◌++◌, length, All}
use Rattle.rh_rules.specs.declared.pick.Pick.{Pick}
use Rattle.rh_explore.specs.Families.{waiting_in, IsFamily}
use Rattle.rh_explore.proofs.families.Front.take_piece.Given as goal

abbrev pub invariant-families : goal.invariant-families
invariant-families l = record {
  piece : All IsFamily l.piece.items;
  families : All IsFamily l.self.families.items;
  next : l.self.next ≡ l.fn.self.next;
  waiting : (pick : Pick) → waiting_in pick l.fn.self.families.items ≡ waiting_in pick l.piece.items ++ waiting_in pick l.self.families.items;
  room : l.room ≤ l.most;
  begun : l.room ≡ l.most → l.self.families.items ≡ l.fn.self.families.items;
  some : l.room < l.most → 0 < length l.piece.items;
}

abbrev pub decreases-families : goal.decreases-families
decreases-families l = l.room
