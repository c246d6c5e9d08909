use Rattle.std.proofs.Common.{Err}
use Rattle.std.proofs.lemmas.Result.{err_from_is_err_and}
use Rattle.rh_cluster.proofs.InTurn.{passes, fails}
use Rattle.rh_cluster.proofs.lists.check_each.Goals as goal

pub returns-in_err-test : goal.returns-in_err-test
returns-in_err-test g c =
    let p = err_from_is_err_and c.from_residual.result c.from_residual.ensures.1 in
    let inv = c.loop-index.invariant in
    let f = c.in_err-test.field-0.0 in
    rw (p.1, p.2) (record {
      finds = λ faults finds memory.
          fails faults c.args.terms.now c.loop-index.index c.index-terms-index.result c.loop-index-test.true c.index-terms-index.is
          f (inv.finds faults finds) (finds _ _ (Err f) c.in_err-test.ensures memory);
      exact = λ faults finds.
          fails faults c.args.terms.now c.loop-index.index c.index-terms-index.result c.loop-index-test.true c.index-terms-index.is
          f (inv.exact faults finds) (finds _ _ (Err f) c.in_err-test.ensures);
    })

pub loop-index-preserved : goal.loop-index-preserved
loop-index-preserved g c =
    let inv = c.loop-index.invariant in
    record {
      finds = λ faults finds.
          passes faults c.args.terms.now c.loop-index.index c.index-terms-index.result c.loop-index-test.true c.index-terms-index.is
          (inv.finds faults finds) (finds _ _ _ c.in_ok-test.ensures);
      exact = λ faults finds.
          passes faults c.args.terms.now c.loop-index.index c.index-terms-index.result c.loop-index-test.true c.index-terms-index.is
          (inv.exact faults finds) (finds _ _ _ c.in_ok-test.ensures);
    }
