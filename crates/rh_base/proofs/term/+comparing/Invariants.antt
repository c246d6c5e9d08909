use Rattle.std.proofs.Common.{◌≡◌, take, map, length}
use Rattle.rh_base.specs.Tree.{tree_of}
use Rattle.rh_base.proofs.term.+comparing.Given as goal

abbrev pub invariant-Terms::same-terms : goal.invariant-Terms::same-terms
invariant-Terms::same-terms l = record {
  same : map tree_of (take l.index l.these) ≡ map tree_of (take l.index l.those);
  lengths : length l.these ≡ length l.those;
}
