use Rattle.std.proofs.Common.{◌≡◌, drop}
use Rattle.rh_otp_sim.specs.Waiting.{entries_asked}
use Rattle.rh_otp_sim.proofs.waiting.Waiting.ask_entries.Given as goal

abbrev pub invariant-loop-entry : goal.invariant-loop-entry
invariant-loop-entry l =
    entries_asked l.system l.events (drop l.entry-index l.entries) l.node l.self ≡ entries_asked l.system l.events l.entries l.node l.fn.self
