use Rattle.std.proofs.Common.{◌≡◌}
use Rattle.rh_state.specs.Stored.{read}
use Rattle.rh_trace.specs.Counts.{FewEdits}
use Rattle.rh_trace.specs.Ways.{TellsNothing, Goes}
use Rattle.rh_events.proofs.Configuring.{with_first}
use Rattle.rh_events.proofs.ending.configure.Given as goal

abbrev pub invariant-apps : goal.invariant-apps
invariant-apps l = record {
  cluster : (read l.state).cluster ≡ (read l.fn.state).cluster;
  written : read l.state ≡ with_first (read l.fn.state) l.node l.number;
  silent : TellsNothing l.fn.trace l.trace;
  way : Goes l.fn.state l.fn.trace l.state l.trace;
  few : FewEdits l.number l.fn.trace l.trace;
}
