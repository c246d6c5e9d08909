use Rattle.std.proofs.Common.{sym, ◌∙◌, arith}
use Rattle.rh_state.proofs.Cut.{cut_same, rows_from_cut, cells_from_cut}
use Rattle.rh_state.proofs.table.Table.same.Goals as goal

pub returns-then-self-other : goal.returns-then-self-other
returns-then-self-other g c = (
  λ t. sym c.self.view_is
      ∙ cut_same c.self.inside.rows c.other.inside.rows c.self.inside.width c.other.inside.width c.self.inside.cells.items c.other.inside.cells.items
      c.self.invariant c.other.invariant c.if-self-other.true
      (sym c.as_slice.ensures.value ∙ c.are_same.ensures.0 t ∙ c.as_slice-then-self-other.ensures.value)
      ∙ c.other.view_is,
  λ e. c.are_same.ensures.1
      (c.as_slice.ensures.value
      ∙ cells_from_cut c.self.inside.rows c.other.inside.rows c.self.inside.width c.other.inside.width c.self.inside.cells.items
      c.other.inside.cells.items c.self.invariant c.other.invariant (c.self.view_is ∙ e ∙ sym c.other.view_is)
      ∙ sym c.as_slice-then-self-other.ensures.value),
)

pub returns-else-self-other : goal.returns-else-self-other
returns-else-self-other g c = (
  λ t. absurd (grind (arith, t, c.if-self-other.false)),
  λ e. absurd (c.if-self-other.false
      (rows_from_cut c.self.inside.rows c.other.inside.rows c.self.inside.width c.other.inside.width c.self.inside.cells.items
      c.other.inside.cells.items (c.self.view_is ∙ e ∙ sym c.other.view_is))),
)
