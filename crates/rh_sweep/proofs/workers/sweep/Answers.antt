use Rattle.std.proofs.Common.{ℕ, ◌<◌, length, subst, sym, arith}
use Rattle.rh_sweep.specs.Working.{EachOf}
use Rattle.rh_sweep.proofs.Strides.{holds-of-all}
use Rattle.rh_sweep.proofs.Turns.{each-on-ok}
use Rattle.rh_sweep.proofs.workers.sweep.Goals as goal

pub returns-in-Ok-clause-left : goal.returns-in-Ok-clause-left
returns-in-Ok-clause-left g c =
    let left = g.G.Gate.left c.args.gate.now in
    let k = c.args.workers in
    let all = length c.args.plans.now in
    let count = c.in_ok-parts.ensures.count in
    holds-of-all left k all c.in_ok-parts.ensures.fine.0.0
    (λ w inside. each-on-ok c.in_ok-parts.parts.items (EachOf left all k) c.in-Ok.ensures.whole
    (λ v d within. c.in_ok-parts.ensures.left v d (omega (arith, within, count))) w (omega (arith, inside, count)))
