use Rattle.std.proofs.Common.{length, sym, ap, ◌∙◌}
use Rattle.rh_history.specs.Draft.{DraftView}
use Rattle.rh_history.proofs.Overlays.{length-overlaid}
use Rattle.rh_history.proofs.draft.Draft.len.Goals as goal

pub returns : goal.returns
returns g c =
    let d = c.self.inside in
    c.len.ensures
    ∙ d.own.ok.0
    ∙ c.self.invariant
    ∙ sym (length-overlaid d.base.now d.own.items)
    ∙ ap (λ (v : DraftView g.row.T.Denot). length v.cells) c.self.view_is
