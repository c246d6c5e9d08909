use Rattle.std.proofs.Common.{◌≡◌, drop, fold}
use Rattle.rh_state.specs.Stored.{read}
use Rattle.rh_trace.specs.Validity.{IsValid}
use Rattle.rh_step.specs.Runs.{step}
use Rattle.rh_explore_text.specs.FoundText.{AllAccepted}
use Rattle.rh_explore_text.proofs.telling.state_behind.Given as goal

abbrev pub invariant-events : goal.invariant-events
invariant-events l = record {
  leads : fold (step l.pick) (read l.state) (drop l.event-index l.events) ≡ fold (step l.pick) (read l.base) l.events;
  accepted : AllAccepted l.pick (read l.state) (drop l.event-index l.events);
  valid : IsValid (read l.state);
}
