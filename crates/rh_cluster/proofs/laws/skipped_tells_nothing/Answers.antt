use Rattle.rh_cluster.proofs.Skipped.{skipped_tells_nothing}
use Rattle.rh_cluster.proofs.laws.skipped_tells_nothing.Goals as goal

pub returns : goal.returns
returns c = skipped_tells_nothing
