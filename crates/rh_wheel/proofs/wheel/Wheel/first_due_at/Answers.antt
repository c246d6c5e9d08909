use Rattle.std.proofs.Common.{◌∙◌, Some, sym, arith}
use Rattle.rh_arena.proofs.Exchanges.{option_decides}
use Rattle.rh_wheel.proofs.Walking.{all_left, none_left, end_left, within_left, found_left, fewer_left, left_at_turn, read_due}
use Rattle.rh_wheel.proofs.wheel.Wheel.first_due_at.Goals as goal

pub timers-init : goal.timers-init
timers-init c = all_left _ c.args.due _ _ c.self.invariant.formed c.first-next.ensures.word (omega (arith, c.count-step-end.ensures.word))

pub returns-in_err-timer : goal.returns-in_err-timer
returns-in_err-timer c = rw (← c.self.view_is)
    (c.from_residual.ensures ∙ sym (none_left _ _ _ _ c.timers.invariant c.in_err-timer.was))

pub index-requires : goal.index-requires
index-requires c =
    let turn = left_at_turn _ _ _ _ _ _ c.timers.invariant c.in_ok-timer.was c.timers-test.true in
    omega (arith, within_left _ _ _ _ turn, c.self.inside.dues.ok)

pub returns-then-eq : goal.returns-then-eq
returns-then-eq c =
    let turn = left_at_turn _ _ _ _ _ _ c.timers.invariant c.in_ok-timer.was c.timers-test.true in
    let read = read_due c.self.inside.dues.items c.in_ok-timer.timer c.index.result.now (within_left _ _ _ _ turn) c.index.ensures in
    let is = (option_decides c.index.result.now (Some c.args.due)).0 (sym c.eq.ensures ∙ c.if-eq.true) in
    rw (← c.self.view_is) (sym (found_left _ _ _ _ turn (read ∙ is)))

pub next-next-requires : goal.next-next-requires
next-next-requires c =
    let turn = left_at_turn _ _ _ _ _ _ c.timers.invariant c.in_ok-timer.was c.timers-test.true in
    omega (arith, within_left _ _ _ _ turn, c.self.invariant.formed.timers)

pub timers-preserved : goal.timers-preserved
timers-preserved c =
    let turn = left_at_turn _ _ _ _ _ _ c.timers.invariant c.in_ok-timer.was c.timers-test.true in
    let read = read_due c.self.inside.dues.items c.in_ok-timer.timer c.index.result.now (within_left _ _ _ _ turn) c.index.ensures in
    rw c.next-next.ensures.word
    (fewer_left _ _ _ _ turn (λ e. let same = (option_decides c.index.result.now (Some c.args.due)).1 (sym read ∙ e) in cc (same, c.eq.ensures, c.if-eq.false)))

pub returns : goal.returns
returns c = rw (← c.self.view_is) (sym (end_left _ _ _ _ c.timers.invariant (omega arith)))
