use Rattle.std.proofs.Common.{◌-◌, ℕ, get_or, set, ap, arith, refl, ◌∙◌}
use Rattle.rh_base.proofs.Exchanges.{BackLoop, back_loop}
use Rattle.rh_history.specs.Change.{put, had}
use Rattle.rh_history.specs.declared.change.Change.{Change}
use Rattle.rh_history.proofs.change.go_back.Goals as goal

pub back-preserved : goal.back-preserved
back-preserved g c =
    let T : Type 0 = g.row.T.Denot in
    let m : ℕ = c.back.index - 1 in
    let d : Change T = c.index-changes-index.result in
    let x : Change T = get_or c.back.changes m d in
    let i = c.back.invariant in
    let l : BackLoop put had c.args.cells.now c.args.changes.now c.back.cells c.back.changes m x =
    back_loop put had c.args.cells.now c.args.changes.now c.back.cells c.back.changes c.back.index m x d (omega arith) i.within i.cells i.changes refl in
    record {
      within = omega (arith, i.within);
      cells = c.exchange.ensures.cells ∙ l.words;
      changes = ap (λ (e : Change T). set c.back.changes m e) c.exchange.ensures.change ∙ l.kept;
    }
