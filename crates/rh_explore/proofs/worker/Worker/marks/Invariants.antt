use Rattle.std.proofs.Common.{◌≡◌, []}
use Rattle.rh_state.specs.Stored.{read}
use Rattle.rh_explore.proofs.Leading.{FailBelow}
use Rattle.rh_explore.proofs.worker.Worker.marks.Given as goal

abbrev pub invariant-asks : goal.invariant-asks
invariant-asks l = record {
  state : l.state ≡ l.fn.state;
  calm : l.self.asked.edits.items ≡ [];
  tried : l.self.tried ≡ l.fn.self.tried;
  entered : l.self.entered ≡ l.fn.self.entered;
  fails : FailBelow l.search.pick l.known.firsts.now l.search.asks.now (read l.fn.state) l.number l.fails.items;
}
