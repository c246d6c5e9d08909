use Rattle.rh_model.proofs.Marks.{marked_get}
use Rattle.rh_model.proofs.app_marks.AppMarks.has.Goals as goal

pub returns : goal.returns
returns c = rw (← c.self.view_is) (marked_get c.self.inside.marks c.args.app)
