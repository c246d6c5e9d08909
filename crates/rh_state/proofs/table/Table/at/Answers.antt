use Rattle.std.proofs.Common.{arith}
use Rattle.rh_state.proofs.Cut.{place_from, at-cut}
use Rattle.rh_state.proofs.table.Table.at.Goals as goal

pub overflow_mul-node : goal.overflow_mul-node
overflow_mul-node g c =
    let there = place_from c.self.inside.rows c.self.inside.width c.args.node c.args.app c.self.inside.cells.items c.args.self.now c.self.view_is
    c.self.invariant c.requires.node c.requires.app in
    omega (arith, there.2, c.self.inside.cells.ok, c.self.inside.cells.small)

pub overflow_add-node : goal.overflow_add-node
overflow_add-node g c =
    let there = place_from c.self.inside.rows c.self.inside.width c.args.node c.args.app c.self.inside.cells.items c.args.self.now c.self.view_is
    c.self.invariant c.requires.node c.requires.app in
    omega (arith, there.2, c.self.inside.cells.ok, c.self.inside.cells.small)

pub index-requires : goal.index-requires
index-requires g c =
    let there = place_from c.self.inside.rows c.self.inside.width c.args.node c.args.app c.self.inside.cells.items c.args.self.now c.self.view_is
    c.self.invariant c.requires.node c.requires.app in
    omega (arith, there.2, c.self.inside.cells.ok)

pub returns : goal.returns
returns g c =
    at-cut c.self.inside.rows c.self.inside.width c.args.node c.args.app c.self.inside.cells.items c.args.self.now c.index.result.now c.self.view_is
    c.self.invariant c.requires.node c.requires.app c.index.ensures
