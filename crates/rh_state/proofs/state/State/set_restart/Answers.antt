use Rattle.rh_state.specs.Edits.{exchange}
use Rattle.rh_state.proofs.Tables.{cell_exchanged}
use Rattle.rh_state.proofs.state.State.set_restart.Goals as goal

pub returns-clause-exact : goal.returns-clause-exact
unfolding exchange
returns-clause-exact c =
    rw (
      c.exchanged_cell-before.ensures.cells,
      c.exchanged_cell-before.ensures.value,
      cell_exchanged c.self.inside.restarts c.args.node.0 c.args.app.0 c.args.restart,
    ) c.self.view_is
