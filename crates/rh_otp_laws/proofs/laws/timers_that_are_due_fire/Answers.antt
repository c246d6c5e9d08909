use Rattle.rh_otp_laws.proofs.Time.{due_fire}
use Rattle.rh_otp_laws.proofs.laws.timers_that_are_due_fire.Goals as goal

pub returns : goal.returns
returns c = due_fire
