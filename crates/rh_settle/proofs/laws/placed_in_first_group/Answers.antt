use Rattle.rh_settle.proofs.FieldLaws.{placed_in_first_group}
use Rattle.rh_settle.proofs.laws.placed_in_first_group.Goals as goal

pub returns : goal.returns
returns c = placed_in_first_group
