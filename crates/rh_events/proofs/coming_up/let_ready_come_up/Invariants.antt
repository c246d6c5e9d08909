use Rattle.std.proofs.Common.{◌≡◌}
use Rattle.rh_state.specs.Stored.{read}
use Rattle.rh_trace.specs.Traces.{course}
use Rattle.rh_trace.specs.Counts.{FewWeighed}
use Rattle.rh_trace.specs.Ways.{Goes}
use Rattle.rh_trace.specs.Validity.{IsSound}
use Rattle.rh_events.proofs.SoundComingUp.{come_up_below}
use Rattle.rh_events.proofs.coming_up.let_ready_come_up.Given as goal

abbrev pub invariant-nodes : goal.invariant-nodes
invariant-nodes l = record {
  same : course (read l.state) l.trace ≡ come_up_below (course (read l.fn.state) l.fn.trace) l.number;
  cluster : (read l.state).cluster ≡ (read l.fn.state).cluster;
  sound : IsSound (read l.state);
  way : Goes l.fn.state l.fn.trace l.state l.trace;
  few : FewWeighed (read l.fn.state).cluster 0 l.fn.trace l.trace;
}
