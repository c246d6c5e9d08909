use Rattle.std.proofs.Common.{◌≡◌, ◌*◌}
use Rattle.rh_state.specs.Stored.{read}
use Rattle.rh_trace.specs.Counts.{FewEdits}
use Rattle.rh_trace.specs.Ways.{TellsNothing, Goes}
use Rattle.rh_events.proofs.Losing.{lost_below, UnsetFrom}
use Rattle.rh_events.proofs.ending.lose_all.Given as goal

abbrev pub invariant-apps : goal.invariant-apps
invariant-apps l = record {
  lost : read l.state ≡ lost_below (read l.fn.state) l.node l.number;
  cluster : (read l.state).cluster ≡ (read l.fn.state).cluster;
  unset : UnsetFrom (read l.state) l.node l.number;
  silent : TellsNothing l.fn.trace l.trace;
  way : Goes l.fn.state l.fn.trace l.state l.trace;
  few : FewEdits (2 * l.number) l.fn.trace l.trace;
}
