use Rattle.std.proofs.Common.{◌<◌, ◌||◌, ◌==◌, ◌∙◌, length, arith, ap, sym}
use Rattle.rh_model.specs.Marks.{MarkRows, is_marked_in}
use Rattle.rh_model.proofs.MarksKept.{row_marked}
use Rattle.rh_model.proofs.mark_rows.MarkRows.mark.Goals as goal

pub returns : goal.returns
returns c = rw (← c.self.view_is) (λ b a.
    let lt : c.args.row.0 < length c.self.inside.rows = (let e = c.self.invariant in let r = c.requires.row in omega (arith, e, r)) in
    row_marked c.self.inside.rows c.args.row c.args.app c.mark.new.self lt
    (λ x. c.mark.ensures x ∙ ap (λ p. p || x.0 == c.args.app.0) (c.of-marks.ensures x ∙ ap (λ (t : MarkRows). is_marked_in t c.args.row x) (sym c.self.view_is))) b a)
