use Rattle.std.proofs.lemmas.Bool.{eq-eqb}
use Rattle.rh_model.proofs.Marks.{is_zero}
use Rattle.rh_model.proofs.Marks.{marks_zero, zero_marks}
use Rattle.rh_model.proofs.app_marks.AppMarks.is_empty.Goals as goal

pub returns : goal.returns
returns c = rw (← c.self.view_is) (
  (λ h a. zero_marks c.self.inside.marks (is_zero c.self.inside.marks h) a),
  (λ h. eq-eqb c.self.inside.marks 0 (marks_zero c.self.inside.marks h)),
)
