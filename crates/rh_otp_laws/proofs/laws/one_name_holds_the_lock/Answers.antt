use Rattle.rh_otp_laws.proofs.Locking.{one_name}
use Rattle.rh_otp_laws.proofs.laws.one_name_holds_the_lock.Goals as goal

pub returns : goal.returns
returns c = one_name
