use Rattle.std.proofs.Common.{◌<◌, ℕ, length, get_or, set, ap, arith, refl, ◌∙◌}
use Rattle.rh_base.proofs.Exchanges.{ForthLoop, forth_loop}
use Rattle.rh_history.specs.Change.{put, had}
use Rattle.rh_history.specs.declared.change.Change.{Change}
use Rattle.rh_history.proofs.change.go_forth.Goals as goal

pub forth-preserved : goal.forth-preserved
forth-preserved g c =
    let T : Type 0 = g.row.T.Denot in
    let m : ℕ = c.forth.change-index in
    let d : Change T = c.change-item.result in
    let x : Change T = get_or c.forth.changes m d in
    let i = c.forth.invariant in
    let inside : m < length c.args.changes.now = omega (arith, c.forth.auto.changes, c.forth-test.true) in
    let l : ForthLoop put had c.args.cells.now c.args.changes.now c.forth.cells c.forth.changes m x =
    forth_loop put had c.args.cells.now c.args.changes.now c.forth.cells c.forth.changes m x d inside i.cells i.changes refl in
    record {
      cells = c.exchange.ensures.cells ∙ l.words;
      changes = ap (λ (e : Change T). set c.forth.changes m e) c.exchange.ensures.change ∙ l.kept;
    }
