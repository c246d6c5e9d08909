use Rattle.rh_start_laws.proofs.LastBoots.{last_boots_start_all}
use Rattle.rh_start_laws.proofs.laws.last_boots_start_all.Goals as goal

pub returns : goal.returns
returns c = last_boots_start_all
