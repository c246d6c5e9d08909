use Rattle.rh_otp_locks.proofs.Locks.{all_held}
use Rattle.rh_otp_locks.proofs.laws.locks_are_held_for_something.Goals as goal

pub returns : goal.returns
returns c = all_held
