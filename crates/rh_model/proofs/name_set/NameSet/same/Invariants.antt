use Rattle.std.proofs.Common.{◌≡◌, take, length}
use Rattle.rh_model.proofs.name_set.NameSet.same.Given as goal

abbrev pub invariant-loop-index : goal.invariant-loop-index
invariant-loop-index l = record {
  same : take l.index l.self ≡ take l.index l.other;
  lengths : length l.self ≡ length l.other;
}
