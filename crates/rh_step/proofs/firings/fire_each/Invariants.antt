use Rattle.std.proofs.Common.{◌≡◌, ◌++◌, length}
use Rattle.rh_state.specs.Records.{Grows}
use Rattle.rh_state.specs.Stored.{read}
use Rattle.rh_trace.specs.Validity.{IsValid}
use Rattle.rh_step.specs.Firings.{firings_by}
use Rattle.rh_step.proofs.firings.fire_each.Given as goal

abbrev pub invariant-timers : goal.invariant-timers
invariant-timers l = record {
  so_far : l.fired.items ++ firings_by l.pick (length (read l.state).timers) l.limit (read l.state)
      ≡ firings_by l.pick (length (read l.fn.state).timers) l.limit (read l.fn.state);
  valid : IsValid (read l.state);
  edits : Grows l.fn.state l.fn.edits.items l.state l.edits.items;
}

abbrev pub decreases-timers : goal.decreases-timers
decreases-timers l = length (read l.state).timers
