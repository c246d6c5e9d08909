use Rattle.rh_settle.proofs.FieldLaws.{taken_over_by_earlier_groups}
use Rattle.rh_settle.proofs.laws.taken_over_by_earlier_groups.Goals as goal

pub returns : goal.returns
returns c = taken_over_by_earlier_groups
