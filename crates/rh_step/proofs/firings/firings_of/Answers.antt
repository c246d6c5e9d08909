use Rattle.std.proofs.Common.{◌≡◌, ◌+◌, ℕ, length, IfOk, subst, arith}
use Rattle.rh_state.specs.Stored.{read}
use Rattle.rh_refusals.proofs.Accepted.{accepted_tick}
use Rattle.rh_step.specs.Firings.{firings, firings_by}
use Rattle.rh_step.proofs.firings.firings_of.Goals as goal

pub overflow_add-limit : goal.overflow_add-limit
overflow_add-limit c =
    let within = (accepted_tick (read c.args.state.now) c.args.ms c.requires.accepted).limit in
    omega (arith, within, c.now.ensures.time)

pub fire_each-fired-requires-clause-limit : goal.fire_each-fired-requires-clause-limit
fire_each-fired-requires-clause-limit c =
    let within = (accepted_tick (read c.args.state.now) c.args.ms c.requires.accepted).limit in
    omega (arith, within, c.now.ensures.time)

pub returns-clause-firings : goal.returns-clause-firings
unfolding firings
returns-clause-firings c =
    let s = read c.args.state.now in
    subst (λ (time : ℕ). IfOk c.fire_each-fired.result (λ fired. fired.items ≡ firings_by c.args.pick (length s.timers) (time + c.args.ms) s))
    c.now.ensures.time c.fire_each-fired.ensures.firings
