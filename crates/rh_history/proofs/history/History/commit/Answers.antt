use Rattle.std.proofs.Common.{◌≡◌, ◌+◌, take, length, ap, arith, ◌∙◌}
use Rattle.std.proofs.lemmas.List.{length_push, length-take-le}
use Rattle.rh_history.specs.HistoryView.{committed}
use Rattle.rh_history.specs.States.{seen}
use Rattle.rh_history.proofs.Seen.{seen_commit, seen_closed}
use Rattle.rh_history.proofs.history.History.commit.Goals as goal

pub returns-clause-ok : goal.returns-clause-ok
returns-clause-ok g c =
    let h = c.self.inside in
    let kept = c.in_ok-replace_from.ensures in
    let many : c.len-self-inside.result ≡ h.cursor + 1 = c.len-self-inside.ensures
    ∙ ap length kept.records
    ∙ length_push (take h.cursor h.records) h.pending.items
    ∙ ap (λ n. n + 1) (length-take-le h.cursor h.records c.self.invariant.within) in
    (λ i. seen h.cells.items (kept.records i) (kept.taken i) (many i))
    ∙ seen_commit h.cells.items h.records h.pending.items h.cursor c.self.invariant.within
    ∙ (λ i. committed (c.self.view_is i))

pub returns-clause-closed : goal.returns-clause-closed
returns-clause-closed g c =
    seen_closed c.self.inside.cells.items c.replace_from.new.self c.replace_from.new.added.items c.len-self-inside.result
    (omega (arith, c.len-self-inside.ensures)) c.in_ok-replace_from.ensures.taken
