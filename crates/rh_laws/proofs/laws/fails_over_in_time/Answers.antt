use Rattle.rh_laws.proofs.FailsOver.{fails_over_in_time}
use Rattle.rh_laws.proofs.laws.fails_over_in_time.Goals as goal

pub returns : goal.returns
returns c = fails_over_in_time
