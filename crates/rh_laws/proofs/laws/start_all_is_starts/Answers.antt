use Rattle.rh_laws.proofs.AllAtOnce.{start_all_is_starts}
use Rattle.rh_laws.proofs.laws.start_all_is_starts.Goals as goal

pub returns : goal.returns
returns c = start_all_is_starts
