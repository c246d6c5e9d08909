use Rattle.std.proofs.Common.{◌≡◌}
use Rattle.rh_history.specs.HistoryView.{IsClosed}
use Rattle.rh_history.proofs.history.History.undo_all.Given as goal

abbrev pub invariant-steps : goal.invariant-steps
invariant-steps g l = record { states : l.self.states ≡ l.fn.self.states; closed : IsClosed l.self; count : l.count ≡ l.fn.self.cursor }

abbrev pub decreases-steps : goal.decreases-steps
decreases-steps g l = l.self.cursor
