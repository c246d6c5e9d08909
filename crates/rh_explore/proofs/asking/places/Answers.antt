use Rattle.std.proofs.Common.{◌+◌, sym, ◌∙◌, arith}
use Rattle.rh_model.specs.declared.node.Node.{Node}
use Rattle.rh_state.specs.StateView.{runs_at}
use Rattle.rh_state.specs.Stored.{read}
use Rattle.rh_explore.proofs.Counting.{below, more}
use Rattle.rh_explore.proofs.asking.places.Goals as goal

pub overflow_add-places : goal.overflow_add-places
overflow_add-places c =
    let few = below (λ n. runs_at (read c.args.state.now) n c.args.app) c.loop-number.number in
    let so = c.loop-number.invariant in
    let one = c.one_if_runs-places.ensures.few in
    omega (arith, few, so, one)

pub loop-number-preserved : goal.loop-number-preserved
loop-number-preserved c =
    let s = read c.args.state.now in
    let i = c.loop-number.number in
    let p = λ (n : Node). runs_at s n c.args.app in
    (λ j. c.loop-number.invariant j + c.one_if_runs-places.ensures.one j) ∙ sym (more p i)
