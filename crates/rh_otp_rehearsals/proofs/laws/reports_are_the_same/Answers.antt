use Rattle.rh_otp_rehearsals.proofs.Reporting.{reports_same}
use Rattle.rh_otp_rehearsals.proofs.laws.reports_are_the_same.Goals as goal

pub returns : goal.returns
returns c = reports_same
