use Rattle.rh_step_laws.proofs.QuietStays.{quiet_until_started}
use Rattle.rh_step_laws.proofs.laws.quiet_until_started.Goals as goal

pub returns : goal.returns
returns c = quiet_until_started
