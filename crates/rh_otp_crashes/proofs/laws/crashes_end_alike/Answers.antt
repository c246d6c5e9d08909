use Rattle.rh_otp_crashes.proofs.Crash.{crashes_alike}
use Rattle.rh_otp_crashes.proofs.laws.crashes_end_alike.Goals as goal

pub returns : goal.returns
returns c = crashes_alike
