use Rattle.std.proofs.Common.{ℕ, List, is_some, ap, sym, ◌∙◌}
use Rattle.rh_state.specs.declared.status.Timer.{Timer}
use Rattle.rh_state.specs.Stored.{read}
use Rattle.rh_events.proofs.Alive.{without_unset}
use Rattle.rh_events.proofs.readiness.cancel_if_set.Goals as goal

pub returns-else-is_some-clause-part : goal.returns-else-is_some-clause-part
returns-else-is_some-clause-part c =
    let s = read c.args.state.now in
    ap (λ (entries : List (ℕ × Timer)). record s { timers = entries })
    (sym (without_unset c.args.timer s.timers (ap is_some (sym c.due_of.ensures) ∙ sym c.is_some.ensures ∙ c.if-is_some.false)))
