use Rattle.std.proofs.Common.{◌≡◌, ◌∙◌, length, ap, sym, arith}
use Rattle.rh_trail.specs.Chain.{chain}
use Rattle.rh_trail.specs.SimView.{SimView}
use Rattle.rh_sweep.proofs.Chained.{chain_here}
use Rattle.rh_sweep.proofs.trial.go_back.Goals as goal

pub returns-clause-words : goal.returns-clause-words
returns-clause-words c =
    let s = c.back.sim in
    let trail : length s.seen.trail ≡ length c.args.sim.now.seen.trail = ap (λ (v : SimView). length v.trail) c.back.invariant.sim in
    let here : s.seen.cursor ≡ c.args.cursor = omega (arith, c.back.invariant.above, c.back-test.false, c.cursor.ensures.cursor) in
    sym (chain_here s) ∙ ap (chain s) here
    ∙ c.back.invariant.chain c.args.cursor (omega (arith, here, trail, c.cursor.ensures.cursor, c.cursor.ensures.within))
