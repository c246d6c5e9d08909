use Rattle.rh_settle.proofs.FieldLaws.{runs_at_one_node}
use Rattle.rh_settle.proofs.laws.runs_at_one_node.Goals as goal

pub returns : goal.returns
returns c = runs_at_one_node
