use Rattle.std.proofs.Common.{◌<◌, ◌+◌, ◌*◌, set, slice_get, unwrap_or, ap, sym, ◌∙◌, arith}
use Rattle.rh_state.specs.Cut.{cut}
use Rattle.rh_state.specs.Tables.{row, with_cell}
use Rattle.rh_state.proofs.Cut.{set-cut, value-cut, with_cell-past_rows, with_cell-past_cells, value-past_rows, value-past_cells}
use Rattle.rh_state.proofs.table.Table.exchange.Goals as goal
use Rattle.rh_state.proofs.table.Table.exchange.Goals.{then-node-self-via-then-node-self, then-node-self-via-else-node-self+then-app-self}

pub returns-then-node-self-clause-cells : goal.returns-then-node-self-clause-cells
returns-then-node-self-clause-cells g c =
    let n = c.self.inside.rows in
    let w = c.self.inside.width in
    let xs = c.self.inside.cells.items in
    sym c.self.view_is
    ∙ elim c.then-node-self.branch [
      | then-node-self-via-then-node-self h ↦ with_cell-past_rows n w c.args.node c.args.app xs c.args.value.now (omega (arith, h.if-node-self.true))
      | then-node-self-via-else-node-self+then-app-self h ↦ with_cell-past_cells n w c.args.node c.args.app xs c.args.value.now c.self.invariant
          (omega (arith, h.if-node-self.false))
          (omega (arith, h.if-app-self.true))
    ]
    ∙ ap (λ t. with_cell t c.args.node c.args.app c.args.value.now) c.self.view_is

pub returns-then-node-self-clause-value : goal.returns-then-node-self-clause-value
returns-then-node-self-clause-value g c =
    let n = c.self.inside.rows in
    let w = c.self.inside.width in
    let xs = c.self.inside.cells.items in
    elim c.then-node-self.branch [
      | then-node-self-via-then-node-self h ↦ value-past_rows n w c.args.node c.args.app xs c.args.value.now (omega (arith, h.if-node-self.true))
      | then-node-self-via-else-node-self+then-app-self h ↦ value-past_cells n w c.args.node c.args.app xs c.args.value.now c.self.invariant
          (omega (arith, h.if-node-self.false))
          (omega (arith, h.if-app-self.true))
    ]
    ∙ ap (λ t. unwrap_or (slice_get (row t c.args.node) c.args.app) c.args.value.now) c.self.view_is

pub returns-clause-cells : goal.returns-clause-cells
returns-clause-cells g c =
    let within : c.args.node < c.self.inside.rows = omega (arith, c.if-node-self.false) in
    let inside : c.args.app < c.self.inside.width = omega (arith, c.if-app-self.false) in
    ap (λ v. cut c.self.inside.rows c.self.inside.width (set c.self.inside.cells.items (c.args.node * c.self.inside.width + c.args.app) v)) c.swap.ensures.x_after
    ∙ set-cut c.self.inside.rows c.self.inside.width c.args.node c.args.app c.self.inside.cells.items c.args.value.now within inside
    ∙ ap (λ t. with_cell t c.args.node c.args.app c.args.value.now) c.self.view_is

pub returns-clause-value : goal.returns-clause-value
returns-clause-value g c =
    let within : c.args.node < c.self.inside.rows = omega (arith, c.if-node-self.false) in
    let inside : c.args.app < c.self.inside.width = omega (arith, c.if-app-self.false) in
    c.swap.ensures.y_after
    ∙ value-cut c.self.inside.rows c.self.inside.width c.args.node c.args.app c.self.inside.cells.items c.index_mut.result.now c.args.value.now
    c.self.invariant within inside c.index_mut.ensures.value
    ∙ ap (λ t. unwrap_or (slice_get (row t c.args.node) c.args.app) c.args.value.now) c.self.view_is
