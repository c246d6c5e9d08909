use Rattle.rh_otp_commands.proofs.Settling.{end_alike}
use Rattle.rh_otp_commands.proofs.laws.commands_end_alike.Goals as goal

pub returns : goal.returns
returns c = end_alike
