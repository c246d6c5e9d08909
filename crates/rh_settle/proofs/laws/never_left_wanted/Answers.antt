use Rattle.rh_settle.proofs.FieldLaws.{never_left_wanted}
use Rattle.rh_settle.proofs.laws.never_left_wanted.Goals as goal

pub returns : goal.returns
returns c = never_left_wanted
