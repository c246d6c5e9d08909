use Rattle.rh_otp_laws.proofs.Commands.{commands_reached}
use Rattle.rh_otp_laws.proofs.laws.commands_are_reached.Goals as goal

pub returns : goal.returns
returns c = commands_reached
