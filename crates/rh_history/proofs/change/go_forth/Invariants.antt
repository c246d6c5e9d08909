use Rattle.std.proofs.Common.{◌≡◌, ◌++◌, take, drop}
use Rattle.rh_base.specs.Exchanges.{forth, forthed}
use Rattle.rh_history.specs.Change.{put, had}
use Rattle.rh_history.proofs.change.go_forth.Given as goal

abbrev pub invariant-forth : goal.invariant-forth
invariant-forth g l = record {
  cells : l.cells ≡ forth put l.fn.cells (take l.change-index l.fn.changes);
  changes : l.changes ≡ forthed put had l.fn.cells (take l.change-index l.fn.changes) ++ drop l.change-index l.fn.changes;
}
