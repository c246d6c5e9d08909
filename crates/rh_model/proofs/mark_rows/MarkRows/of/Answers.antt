use Rattle.std.proofs.Common.{◌<◌, length, arith}
use Rattle.rh_model.proofs.MarksKept.{row_get}
use Rattle.rh_model.proofs.mark_rows.MarkRows.of.Goals as goal

pub returns : goal.returns
returns c = rw (← c.self.view_is) (λ a.
    let lt : c.args.app.0 < length c.self.inside.rows = (let e = c.self.invariant in let r = c.requires in omega (arith, e, r)) in
    row_get c.self.inside.rows c.args.app c.index-self-app.result lt a)
