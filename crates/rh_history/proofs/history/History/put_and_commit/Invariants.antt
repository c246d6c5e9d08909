use Rattle.std.proofs.Common.{◌≡◌}
use Rattle.rh_history.specs.Draft.{written}
use Rattle.rh_history.proofs.history.History.put_and_commit.Given as goal

abbrev pub invariant-writes : goal.invariant-writes
invariant-writes g l = l.self ≡ record l.fn.self { now = written l.fn.self.now l.yielded }
