use Rattle.std.proofs.Common.{◌≡◌, map}
use Rattle.rh_explore_text.specs.Asks.{ask_view}
use Rattle.rh_otp_explore.specs.Tallying.{not_failed}
use Rattle.rh_otp_explore.proofs.tally.Tally.new.Given as goal

abbrev pub invariant-loop-ask : goal.invariant-loop-ask
invariant-loop-ask l = l.asked.items ≡ map not_failed (map ask_view l.yielded)
