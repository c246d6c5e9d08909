use Rattle.std.proofs.Common.{◌≡◌, ◌++◌, drop}
use Rattle.rh_otp_sim.specs.Telling.{lines_of}
use Rattle.std.specs.List.{filter_map}
use Rattle.rh_otp_sim.specs.Telling.{line_of}
use Rattle.rh_otp_sim.proofs.telling.lines_of.Given as goal

abbrev pub invariant-loop-event : goal.invariant-loop-event
invariant-loop-event l =
    l.lines.items ++ filter_map (line_of l.events l.calls l.before) (drop l.event-index l.events) ≡ lines_of l.events l.calls l.before
