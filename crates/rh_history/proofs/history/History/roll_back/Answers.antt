use Rattle.std.proofs.Common.{◌≡◌, ◌+◌, length, ap, sym, subst, arith, ◌∙◌}
use Rattle.std.proofs.lemmas.List.{with_items_is}
use Rattle.rh_base.specs.Exchanges.{back}
use Rattle.rh_history.specs.Change.{put}
use Rattle.rh_history.specs.HistoryView.{IsClosed, at_step}
use Rattle.rh_history.specs.States.{seen}
use Rattle.rh_history.proofs.Seen.{seen_roll_back, at_step_closed, states_are}
use Rattle.rh_history.proofs.history.History.roll_back.Goals as goal

pub returns-clause-state : goal.returns-clause-state
returns-clause-state g c =
    let h = c.self.inside in
    let cells = with_items_is h.cells c.go_back.new.cells (c.go_back.auto.cells ∙ c.deref_mut-2.ensures.len)
    ∙ c.go_back.ensures.cells
    ∙ (λ i. back put (c.deref_mut-2.ensures.value i) (c.deref_mut.ensures.value i)) in
    (λ i. seen (cells i) h.records (c.clear.ensures.items i) h.cursor)
    ∙ seen_roll_back h.cells.items h.records h.pending.items h.cursor c.self.invariant.within
    ∙ (λ i. at_step (c.self.view_is i) (c.self.view_is i).cursor)

pub returns-clause-closed : goal.returns-clause-closed
returns-clause-closed g c =
    let h = c.self.inside in
    let many : length c.args.self.now.states ≡ length h.records + 1 =
    states_are h.cells.items h.records h.pending.items h.cursor c.args.self.now c.self.invariant.within c.self.view_is in
    subst IsClosed (sym (returns-clause-state g c))
    (at_step_closed c.args.self.now c.args.self.now.cursor (omega (arith, many, c.self.invariant.within, ap (λ v. v.cursor) c.self.view_is)))
