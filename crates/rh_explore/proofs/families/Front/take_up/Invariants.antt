use Rattle.std.proofs.Common.{◌≡◌, ◌<◌, ◌++◌, length, All}
use Rattle.std.specs.List.{flat_map}
use Rattle.rh_rules.specs.declared.pick.Pick.{Pick}
use Rattle.rh_explore.specs.Families.{waiting_in, piece_waiting, IsFamily, ArePieces}
use Rattle.rh_explore.proofs.families.Front.take_up.Given as goal

abbrev pub invariant-pieces : goal.invariant-pieces
invariant-pieces l = record {
  pieces : ArePieces l.pieces.items;
  families : All IsFamily l.self.families.items;
  next : l.self.next ≡ l.fn.self.next;
  waiting : (pick : Pick) → waiting_in pick l.fn.self.families.items ≡ flat_map (piece_waiting pick) l.pieces.items ++ waiting_in pick l.self.families.items;
  begun : l._number ≡ 0 → l.self.families.items ≡ l.fn.self.families.items;
  some : 0 < l._number → (pick : Pick) → 0 < length (flat_map (piece_waiting pick) l.pieces.items);
}
