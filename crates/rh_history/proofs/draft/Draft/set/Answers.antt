use Rattle.std.proofs.Common.{set, ◌∙◌, arith, rules}
use Rattle.rh_history.specs.Draft.{overlaid}
use Rattle.rh_history.proofs.Overlays.{no_cell, cell-set}
use Rattle.rh_history.proofs.draft.Draft.set.Goals as goal

pub returns-then-at-len : goal.returns-then-at-len
returns-then-at-len g c =
    let d = c.self.inside in
    let is = (λ i. record { base = d.base.now; cells = overlaid d.base.now (set d.own.items c.args.at (c.replace-held.ensures.after i)) })
    ∙ cell-set d.base.now d.own.items c.args.self.now c.self.invariant c.self.view_is c.args.at c.args.value in
    search (rules, is)

pub returns-else-at-len : goal.returns-else-at-len
returns-else-at-len g c =
    let d = c.self.inside in
    no_cell d.base.now d.own.items c.args.self.now c.self.invariant c.self.view_is c.args.at c.args.value
    (omega (arith, c.if-at-len.false, c.len.ensures, d.own.ok.0))
