use Rattle.rh_otp_laws.proofs.Lives.{lives_counted}
use Rattle.rh_otp_laws.proofs.laws.lives_are_counted.Goals as goal

pub returns : goal.returns
returns c = lives_counted
