use Rattle.rh_model.proofs.Marks.{marked_both}
use Rattle.rh_model.proofs.app_marks.AppMarks.and.Goals as goal

pub returns : goal.returns
returns c = rw (← c.self.view_is, ← c.other.view_is) (λ a. marked_both c.self.inside.marks c.other.inside.marks a)
