use Rattle.std.proofs.Common.{◌<◌, arith}
use Rattle.rh_model.proofs.Marks.{marked_set, marks_few}
use Rattle.rh_model.proofs.app_marks.AppMarks.mark.Goals as goal

pub returns : goal.returns
returns c = rw (← c.self.view_is) (λ a.
    let small : c.args.app.0 < 128 = (let r = c.requires in omega (arith, r)) in
    marked_set c.self.inside.marks c.args.app small a)

pub invariant_of-self : goal.invariant_of-self
invariant_of-self c = marks_few c.self.inside.marks c.args.app c.self.invariant
