use Rattle.std.proofs.Common.{◌≡◌, ◌+◌, length, arith}
use Rattle.rh_history.proofs.Seen.{states_are}
use Rattle.rh_history.proofs.history.History.steps.Goals as goal

pub returns : goal.returns
returns g c =
    let h = c.self.inside in
    let many : length c.args.self.now.states ≡ length h.records + 1 =
    states_are h.cells.items h.records h.pending.items h.cursor c.args.self.now c.self.invariant.within c.self.view_is in
    omega (arith, many, c.len.ensures)
