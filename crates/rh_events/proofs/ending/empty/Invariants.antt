use Rattle.std.proofs.Common.{◌≡◌, ◌≤◌, ◌+◌, ◌*◌, length}
use Rattle.rh_state.specs.Stored.{read}
use Rattle.rh_trace.specs.Ways.{TellsNothing, Goes}
use Rattle.rh_rules.specs.NodesEnd.{emptied}
use Rattle.rh_events.proofs.Emptying.{how_many}
use Rattle.rh_events.proofs.ending.empty.Given as goal

abbrev pub invariant-started : goal.invariant-started
invariant-started l = record {
  emptied : emptied (read l.state) l.node ≡ emptied (read l.fn.state) l.node;
  cluster : (read l.state).cluster ≡ (read l.fn.state).cluster;
  silent : TellsNothing l.fn.trace l.trace;
  way : Goes l.fn.state l.fn.trace l.state l.trace;
  few : length l.trace.edits + 4 * length l.fn.trace.notices + how_many (read l.state) l.node
      ≤ length l.fn.trace.edits + (4 * length l.trace.notices + how_many (read l.fn.state) l.node);
}

abbrev pub decreases-started : goal.decreases-started
decreases-started l = how_many (read l.state) l.node
