use Rattle.rh_otp_commands.proofs.Beginning.{begin_alike}
use Rattle.rh_otp_commands.proofs.laws.commands_begin_alike.Goals as goal

pub returns : goal.returns
returns c = begin_alike
