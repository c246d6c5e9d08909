use Rattle.rh_model.proofs.Marks.{marked_none}
use Rattle.rh_model.proofs.app_marks.AppMarks.empty.Goals as goal

pub returns : goal.returns
returns c = λ a. marked_none a
