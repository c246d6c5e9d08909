use Rattle.rh_otp_locks.proofs.Locks.{none_at_rest}
use Rattle.rh_otp_locks.proofs.laws.nobody_has_a_lock_at_rest.Goals as goal

pub returns : goal.returns
returns c = none_at_rest
