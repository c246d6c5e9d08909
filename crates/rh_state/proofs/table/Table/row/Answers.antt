use Rattle.std.proofs.Common.{length, ap, arith}
use Rattle.rh_state.proofs.Cut.{row_within, row_part}
use Rattle.rh_state.proofs.table.Table.row.Goals as goal

pub overflow_mul-start : goal.overflow_mul-start
overflow_mul-start g c =
    let there = row_within c.self.inside.rows c.self.inside.width c.args.node c.self.inside.cells.items c.args.self.now c.self.view_is
    c.self.invariant c.requires in
    omega (arith, there, c.self.inside.cells.ok, c.self.inside.cells.small)

pub overflow_add-result : goal.overflow_add-result
overflow_add-result g c =
    let there = row_within c.self.inside.rows c.self.inside.width c.args.node c.self.inside.cells.items c.args.self.now c.self.view_is
    c.self.invariant c.requires in
    omega (arith, there, c.self.inside.cells.ok, c.self.inside.cells.small)

pub offset_bounds-deref-start : goal.offset_bounds-deref-start
offset_bounds-deref-start g c =
    let there = row_within c.self.inside.rows c.self.inside.width c.args.node c.self.inside.cells.items c.args.self.now c.self.view_is
    c.self.invariant c.requires in
    let same = ap length c.deref.ensures.value in
    omega (arith, there, same)

pub slice_bounds-result-end : goal.slice_bounds-result-end
slice_bounds-result-end g c =
    let there = row_within c.self.inside.rows c.self.inside.width c.args.node c.self.inside.cells.items c.args.self.now c.self.view_is
    c.self.invariant c.requires in
    let same = ap length c.deref.ensures.value in
    omega (arith, there, same)

pub returns : goal.returns
returns g c =
    rw c.deref.ensures.value (row_part c.self.inside.rows c.self.inside.width c.args.node c.self.inside.cells.items c.args.self.now c.self.view_is c.requires)
