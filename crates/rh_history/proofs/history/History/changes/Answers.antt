use Rattle.std.proofs.Common.{subst, arith}
use Rattle.std.proofs.lemmas.List.{nil_from_length}
use Rattle.rh_history.specs.HistoryView.{IsClosed}
use Rattle.rh_history.proofs.Seen.{seen_closed}
use Rattle.rh_history.proofs.history.History.changes.Goals as goal

pub returns : goal.returns
returns g c = λ none.
    let h = c.self.inside in
    subst IsClosed c.self.view_is
    (seen_closed h.cells.items h.records h.pending.items h.cursor c.self.invariant.within
    (nil_from_length h.pending.items (omega (arith, none, c.len.ensures, h.pending.ok))))
