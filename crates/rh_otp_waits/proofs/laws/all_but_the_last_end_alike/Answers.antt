use Rattle.rh_otp_waits.proofs.Together.{all_but_last}
use Rattle.rh_otp_waits.proofs.laws.all_but_the_last_end_alike.Goals as goal

pub returns : goal.returns
returns c = all_but_last
