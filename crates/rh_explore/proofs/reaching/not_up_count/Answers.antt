use Rattle.std.proofs.Common.{◌+◌, not, sym, ◌∙◌, arith}
use Rattle.rh_model.specs.declared.node.Node.{Node}
use Rattle.rh_state.specs.StateView.{is_up, mode_of}
use Rattle.rh_state.specs.Stored.{read}
use Rattle.rh_explore.proofs.Counting.{below, more}
use Rattle.rh_explore.proofs.reaching.not_up_count.Goals as goal

pub overflow_add-count : goal.overflow_add-count
overflow_add-count c =
    let few = below (λ n. not (is_up (mode_of (read c.args.state.now) n))) c.loop-number.number in
    let so = c.loop-number.invariant in
    let one = c.one_if_not_up-count.ensures.few in
    omega (arith, few, so, one)

pub loop-number-preserved : goal.loop-number-preserved
loop-number-preserved c =
    let s = read c.args.state.now in
    let i = c.loop-number.number in
    let p = λ (n : Node). not (is_up (mode_of s n)) in
    (λ j. c.loop-number.invariant j + c.one_if_not_up-count.ensures.one j) ∙ sym (more p i)
