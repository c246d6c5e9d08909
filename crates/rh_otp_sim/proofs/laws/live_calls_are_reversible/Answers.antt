use Rattle.rh_otp_sim.proofs.Reversals.{live_calls_reversible}
use Rattle.rh_otp_sim.proofs.laws.live_calls_are_reversible.Goals as goal

pub returns : goal.returns
returns c = live_calls_reversible
