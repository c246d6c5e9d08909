use Rattle.std.proofs.Common.{◌≡◌, ◌*◌, replicate, ap, ◌∙◌, arith}
use Rattle.rh_state.specs.Cut.{cut}
use Rattle.rh_state.proofs.Cut.{cut-replicate}
use Rattle.rh_state.proofs.table.Table.filled_with.Goals as goal

pub returns : goal.returns
returns g c =
    let end : c.loop.counter ≡ c.args.rows * c.args.width = omega (arith, c.loop.auto.counter-end, c.loop-test.false) in
    ap (cut c.args.rows c.args.width) (c.loop.invariant ∙ ap (λ k. replicate k c.args.value) end)
    ∙ cut-replicate c.args.rows c.args.width c.args.value
