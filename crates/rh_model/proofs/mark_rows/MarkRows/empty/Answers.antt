use Rattle.rh_model.specs.declared.limits.TheConstants.{MAX_APPS}
use Rattle.rh_model.proofs.MarksKept.{row_none}
use Rattle.rh_model.proofs.mark_rows.MarkRows.empty.Goals as goal

pub returns : goal.returns
returns c = λ b a. row_none c.empty.result MAX_APPS c.empty.ensures b a
