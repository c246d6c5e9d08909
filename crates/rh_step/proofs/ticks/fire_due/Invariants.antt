use Rattle.std.proofs.Common.{◌≡◌, ◌≤◌, ◌+◌, ◌*◌, length}
use Rattle.rh_state.specs.Stored.{read}
use Rattle.rh_trace.specs.Traces.{course}
use Rattle.rh_trace.specs.Validity.{IsValid}
use Rattle.rh_trace.specs.Counts.{weights}
use Rattle.rh_trace.specs.Ways.{Goes}
use Rattle.rh_rules.specs.Time.{all_fired}
use Rattle.rh_step.proofs.ticks.fire_due.Given as goal

abbrev pub invariant-timers : goal.invariant-timers
invariant-timers l = record {
  same : all_fired l.pick l.limit (course (read l.state) l.trace) ≡ all_fired l.pick l.limit (course (read l.fn.state) l.fn.trace);
  valid : IsValid (read l.state);
  way : Goes l.fn.state l.fn.trace l.state l.trace;
  fewer : length (read l.state).timers ≤ length (read l.fn.state).timers;
  few : length l.trace.edits + 4 * weights (read l.fn.state).cluster l.fn.trace.notices + 3 * length (read l.state).timers
      ≤ length l.fn.trace.edits + (4 * weights (read l.fn.state).cluster l.trace.notices + 3 * length (read l.fn.state).timers);
}

abbrev pub decreases-timers : goal.decreases-timers
decreases-timers l = length (read l.state).timers
