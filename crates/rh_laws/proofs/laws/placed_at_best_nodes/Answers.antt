use Rattle.rh_laws.proofs.BestNodes.{placed_at_best_nodes}
use Rattle.rh_laws.proofs.laws.placed_at_best_nodes.Goals as goal

pub returns : goal.returns
returns c = placed_at_best_nodes
