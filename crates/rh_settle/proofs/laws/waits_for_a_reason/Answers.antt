use Rattle.rh_settle.proofs.FieldLaws.{waits_for_a_reason}
use Rattle.rh_settle.proofs.laws.waits_for_a_reason.Goals as goal

pub returns : goal.returns
returns c = waits_for_a_reason
