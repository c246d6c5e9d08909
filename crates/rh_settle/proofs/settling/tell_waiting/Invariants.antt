use Rattle.std.proofs.Common.{◌≡◌, take, fold}
use Rattle.rh_state.specs.Stored.{read}
use Rattle.rh_trace.specs.Counts.{FewEdits}
use Rattle.rh_trace.specs.Traces.{course}
use Rattle.rh_rules.specs.Settling.{tell_waiting}
use Rattle.rh_trace.specs.Ways.{Goes}
use Rattle.rh_settle.proofs.settling.tell_waiting.Given as goal

abbrev pub invariant-marked : goal.invariant-marked
invariant-marked l = record {
  same : course (read l.state) l.trace ≡ fold tell_waiting (course (read l.state) l.fn.trace) (take l.index l.fn.trace.marked);
  marked : l.trace.marked ≡ l.fn.trace.marked;
  way : Goes l.fn.state l.fn.trace l.state l.trace;
  few : FewEdits 0 l.fn.trace l.trace;
}
