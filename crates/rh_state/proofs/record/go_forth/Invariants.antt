use Rattle.std.proofs.Common.{◌≡◌, ◌≤◌, ◌++◌, ◌-◌, length, take, drop}
use Rattle.rh_base.specs.Exchanges.{forth, forthed}
use Rattle.rh_state.specs.Edits.{exchange, turned}
use Rattle.rh_state.proofs.record.go_forth.Given as goal

abbrev pub invariant-forth : goal.invariant-forth
invariant-forth l = record {
  within : l.made ≤ length l.fn.edits;
  words : l.state ≡ forth exchange l.fn.state (take l.made l.fn.edits);
  edits : l.edits ≡ forthed exchange turned l.fn.state (take l.made l.fn.edits) ++ drop l.made l.fn.edits;
}

abbrev pub decreases-forth : goal.decreases-forth
decreases-forth l = length l.initial.edits - l.made
