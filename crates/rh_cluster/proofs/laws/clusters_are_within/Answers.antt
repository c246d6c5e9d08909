use Rattle.rh_cluster.proofs.ReadWithin.{clusters_within}
use Rattle.rh_cluster.proofs.laws.clusters_are_within.Goals as goal

pub returns : goal.returns
returns c = clusters_within
