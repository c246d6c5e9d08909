use Rattle.std.proofs.Common.{◌≡◌, ◌≤◌, ◌-◌, length}
use Rattle.rh_history.specs.HistoryView.{IsClosed}
use Rattle.rh_history.proofs.history.History.redo_all.Given as goal

abbrev pub invariant-steps : goal.invariant-steps
invariant-steps g l = record {
  states : l.self.states ≡ l.fn.self.states;
  closed : IsClosed l.self;
  end : l.end ≡ length l.fn.self.states - 1;
  within : l.self.cursor ≤ l.end;
  count : l.count ≡ length l.fn.self.states - 1 - l.fn.self.cursor;
}

abbrev pub decreases-steps : goal.decreases-steps
decreases-steps g l = l.end - l.self.cursor
