use Rattle.std.proofs.Common.{◌≡◌, drop}
use Rattle.rh_otp_sim.specs.Waiting.{events_asked}
use Rattle.rh_otp_sim.proofs.waiting.Waiting.ask_events.Given as goal

abbrev pub invariant-loop-event : goal.invariant-loop-event
invariant-loop-event l =
    events_asked l.system l.events (drop l.event-index l.events) l.self ≡ events_asked l.system l.events l.events l.fn.self
