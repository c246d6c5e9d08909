use Rattle.rh_agreement.proofs.CrashAlike.{come_to_an_end}
use Rattle.rh_agreement.proofs.laws.crashes_come_to_an_end.Goals as goal

pub returns : goal.returns
returns c = come_to_an_end
