use Rattle.std.proofs.Common.{◌≡◌, ◌<◌, ◌+◌, ◌-◌, [], List, length, get_or, set, ap, sym, subst, arith, ◌∙◌}
use Rattle.std.proofs.lemmas.List.{with_items_is}
use Rattle.rh_base.specs.Exchanges.{back, backed}
use Rattle.rh_history.specs.declared.change.Change.{Change}
use Rattle.rh_history.specs.Change.{put, had}
use Rattle.rh_history.specs.HistoryView.{IsClosed, at_step}
use Rattle.rh_history.specs.States.{seen}
use Rattle.rh_history.proofs.Seen.{seen_undo, undo_kept, kept_same, at_step_closed, states_are}
use Rattle.rh_history.proofs.history.History.undo.Goals as goal

pub invariant_of-self : goal.invariant_of-self
invariant_of-self g c =
    let T : Type 0 = g.row.T.Denot in
    let h = c.self.inside in
    let r : List (Change T) = get_or h.records (h.cursor - 1) [] in
    let some : 0 < h.cursor = omega (arith, c.requires.some, ap (λ v. v.cursor) c.self.view_is) in
    kept_same _ (back put h.cells.items r) c.go_back.new.self (set h.records (h.cursor - 1) (backed put had h.cells.items r)) c.clear.new.self.items []
    (h.cursor - 1)
    (with_items_is h.cells c.go_back.new.cells (c.go_back.auto.cells ∙ c.deref_mut.ensures.len)
    ∙ c.go_back.ensures.cells
    ∙ ap (λ (v : List T). back put v r) c.deref_mut.ensures.value)
    (c.go_back.ensures.records ∙ ap (λ (v : List T). set h.records (h.cursor - 1) (backed put had v r)) c.deref_mut.ensures.value)
    c.clear.ensures.items
    (undo_kept h.cells.items h.records h.pending.items h.cursor (h.cursor - 1) c.self.invariant (omega (arith, some, c.self.invariant.within))
    (omega (arith, c.self.invariant.within)))

pub returns-clause-state : goal.returns-clause-state
returns-clause-state g c =
    let T : Type 0 = g.row.T.Denot in
    let h = c.self.inside in
    let r : List (Change T) = get_or h.records (h.cursor - 1) [] in
    let some : 0 < h.cursor = omega (arith, c.requires.some, ap (λ v. v.cursor) c.self.view_is) in
    let cells = with_items_is h.cells c.go_back.new.cells (c.go_back.auto.cells ∙ c.deref_mut.ensures.len)
    ∙ c.go_back.ensures.cells
    ∙ ap (λ (v : List T). back put v r) c.deref_mut.ensures.value in
    let records = c.go_back.ensures.records ∙ ap (λ (v : List T). set h.records (h.cursor - 1) (backed put had v r)) c.deref_mut.ensures.value in
    (λ i. seen (cells i) (records i) (c.clear.ensures.items i) (h.cursor - 1))
    ∙ seen_undo h.cells.items h.records h.pending.items h.cursor c.self.invariant.within (subst IsClosed (sym c.self.view_is) c.requires.closed) some
    ∙ (λ i. at_step (c.self.view_is i) ((c.self.view_is i).cursor - 1))

pub returns-clause-closed : goal.returns-clause-closed
returns-clause-closed g c =
    let h = c.self.inside in
    let many : length c.args.self.now.states ≡ length h.records + 1 =
    states_are h.cells.items h.records h.pending.items h.cursor c.args.self.now c.self.invariant.within c.self.view_is in
    subst IsClosed (sym (returns-clause-state g c))
    (at_step_closed c.args.self.now (c.args.self.now.cursor - 1) (omega (arith, many, c.self.invariant.within, ap (λ v. v.cursor) c.self.view_is)))
