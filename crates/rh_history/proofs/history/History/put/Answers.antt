use Rattle.std.proofs.Common.{◌≡◌, ◌++◌, ◌∷◌, [], List, if◌then◌else◌, ap, ◌∙◌}
use Rattle.std.specs.Result.{is_ok}
use Rattle.std.proofs.lemmas.List.{with_items_is}
use Rattle.rh_history.specs.declared.change.Change.{Change}
use Rattle.rh_history.specs.Change.{put, had}
use Rattle.rh_history.specs.States.{seen}
use Rattle.rh_history.proofs.Seen.{seen_put}
use Rattle.rh_history.proofs.history.History.put.Goals as goal

pub returns-clause-ok : goal.returns-clause-ok
returns-clause-ok g c =
    let T : Type 0 = g.row.T.Denot in
    let h = c.self.inside in
    let w : List T = h.cells.items in
    let d : Change T = record { at = c.args.at; value = c.args.value } in
    let cells = with_items_is h.cells c.exchange.new.cells (c.exchange.auto.cells ∙ c.deref_mut.ensures.len)
    ∙ c.exchange.ensures.cells
    ∙ ap (λ (v : List T). put v d) c.deref_mut.ensures.value in
    let pending : c.push.new.self.items ≡ h.pending.items ++ had w d ∷ [] =
    c.push.ensures.items
    ∙ (λ i. if is_ok (c.unwrap.ensures i) then c.reserve.new.self.items ++ c.exchange.new.change ∷ [] else c.reserve.new.self.items)
    ∙ (λ i. c.in_ok-reserve.ensures.items i ++ (c.exchange.ensures.change ∙ ap (λ (v : List T). had v d) c.deref_mut.ensures.value) i ∷ []) in
    (λ i. seen (cells i) h.records (pending i) h.cursor)
    ∙ seen_put w h.records h.pending.items h.cursor c.self.invariant.within d
    ∙ (λ i. record (c.self.view_is i) { now = put (c.self.view_is i).now d })
