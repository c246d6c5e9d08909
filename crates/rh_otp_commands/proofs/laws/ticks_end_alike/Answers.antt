use Rattle.rh_otp_commands.proofs.Ticking.{tick_alike}
use Rattle.rh_otp_commands.proofs.laws.ticks_end_alike.Goals as goal

pub returns : goal.returns
returns c = tick_alike
