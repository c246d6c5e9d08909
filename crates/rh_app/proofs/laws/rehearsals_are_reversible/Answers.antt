use Rattle.rh_cluster.proofs.ReadWithin.{clusters_within}
use Rattle.rh_trail.proofs.Reversals.{calls_reversible}
use Rattle.rh_app.proofs.laws.rehearsals_are_reversible.Goals as goal

pub returns : goal.returns
returns c = λ bytes v pick calls read. calls_reversible v pick calls (clusters_within bytes v read)
