use Rattle.std.proofs.Common.{◌≡◌, ◌*◌}
use Rattle.rh_state.specs.Stored.{read}
use Rattle.rh_trace.specs.Traces.{course}
use Rattle.rh_trace.specs.Counts.{FewEdits}
use Rattle.rh_trace.specs.Ways.{Goes}
use Rattle.rh_events.proofs.StartingAll.{start_below}
use Rattle.rh_events.proofs.everywhere.start_all.Given as goal

abbrev pub invariant-nodes : goal.invariant-nodes
invariant-nodes l = record {
  same : course (read l.state) l.trace ≡ start_below (course (read l.fn.state) l.fn.trace) l.app l.restart l.number;
  cluster : (read l.state).cluster ≡ (read l.fn.state).cluster;
  way : Goes l.fn.state l.fn.trace l.state l.trace;
  few : FewEdits (4 * l.number) l.fn.trace l.trace;
}
