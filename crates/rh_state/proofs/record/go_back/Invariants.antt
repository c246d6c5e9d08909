use Rattle.std.proofs.Common.{◌≡◌, ◌≤◌, ◌++◌, length, take, drop}
use Rattle.rh_base.specs.Exchanges.{back, backed}
use Rattle.rh_state.specs.Edits.{exchange, turned}
use Rattle.rh_state.proofs.record.go_back.Given as goal

abbrev pub invariant-back : goal.invariant-back
invariant-back l = record {
  within : l.left ≤ length l.fn.edits;
  words : l.state ≡ back exchange l.fn.state (drop l.left l.fn.edits);
  edits : l.edits ≡ take l.left l.fn.edits ++ backed exchange turned l.fn.state (drop l.left l.fn.edits);
}

abbrev pub decreases-back : goal.decreases-back
decreases-back l = l.left
