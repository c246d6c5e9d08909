use Rattle.std.proofs.Common.{◌<◌, length, arith}
use Rattle.rh_settle.proofs.SetTables.{among_set}
use Rattle.rh_settle.proofs.app_sets.AppSets.set.Goals as goal

pub returns : goal.returns
returns c = rw (← c.self.view_is) (λ a n.
    let lt : c.args.app.0 < length c.self.inside.sets = (let e = c.self.invariant in let r = c.requires in omega (arith, e, r)) in
    among_set c.self.inside.sets c.args.app c.args.set lt a n)
