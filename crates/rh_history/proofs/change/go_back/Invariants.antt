use Rattle.std.proofs.Common.{◌≡◌, ◌≤◌, ◌++◌, length, take, drop}
use Rattle.rh_base.specs.Exchanges.{back, backed}
use Rattle.rh_history.specs.Change.{put, had}
use Rattle.rh_history.proofs.change.go_back.Given as goal

abbrev pub invariant-back : goal.invariant-back
invariant-back g l = record {
  within : l.index ≤ length l.fn.changes;
  cells : l.cells ≡ back put l.fn.cells (drop l.index l.fn.changes);
  changes : l.changes ≡ take l.index l.fn.changes ++ backed put had l.fn.cells (drop l.index l.fn.changes);
}
