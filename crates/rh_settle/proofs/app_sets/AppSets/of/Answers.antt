use Rattle.std.proofs.Common.{◌<◌, length, arith}
use Rattle.rh_settle.proofs.SetTables.{among_get}
use Rattle.rh_settle.proofs.app_sets.AppSets.of.Goals as goal

pub returns : goal.returns
returns c = rw (← c.self.view_is) (λ n.
    let lt : c.args.app.0 < length c.self.inside.sets = (let e = c.self.invariant in let r = c.requires in omega (arith, e, r)) in
    among_get c.self.inside.sets c.args.app c.index-self-app.result lt n)
