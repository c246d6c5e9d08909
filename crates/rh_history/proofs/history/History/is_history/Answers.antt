use Rattle.std.proofs.Common.{subst}
use Rattle.rh_history.specs.HistoryView.{IsHistory}
use Rattle.rh_history.proofs.Seen.{seen_is_history}
use Rattle.rh_history.proofs.history.History.is_history.Goals as goal

pub returns : goal.returns
returns g c =
    let h = c.self.inside in
    subst IsHistory c.self.view_is (seen_is_history h.cells.items h.records h.pending.items h.cursor c.self.invariant.within)
