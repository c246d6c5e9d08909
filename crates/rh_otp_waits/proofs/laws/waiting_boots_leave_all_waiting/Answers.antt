use Rattle.rh_otp_waits.proofs.Boot.{boots_leave}
use Rattle.rh_otp_waits.proofs.laws.waiting_boots_leave_all_waiting.Goals as goal

pub returns : goal.returns
returns c = boots_leave
