use Rattle.std.proofs.Common.{Option, IfOk, sym, subst}
use Rattle.rh_state.specs.Stored.{read}
use Rattle.rh_rules.specs.declared.event.Event.{Event}
use Rattle.rh_explore.specs.Exploring.{scope_of}
use Rattle.rh_explore.specs.Families.{knowing, child_by, IsAccepted, ExpandsSo}
use Rattle.rh_explore.proofs.worker.Worker.expand.Goals as goal

pub expand_behind-requires-clause-accepted : goal.expand_behind-requires-clause-accepted
expand_behind-requires-clause-accepted c = subst (IsAccepted (read c.args.state.now)) c.in-Some.is c.requires.accepted

pub returns-in-None-clause-expansion : goal.returns-in-None-clause-expansion
returns-in-None-clause-expansion c =
    let s = c.args.search.now in
    let R = ExpandsSo (scope_of s) s.asks.now (knowing c.args.known.now) in
    subst (λ (e : Option Event). IfOk c.expand_here.result (R (child_by s.pick (read c.args.state.now) e))) (sym c.in-None.is) c.expand_here.ensures.expansion

pub returns-in-Some-clause-expansion : goal.returns-in-Some-clause-expansion
returns-in-Some-clause-expansion c =
    let s = c.args.search.now in
    let R = ExpandsSo (scope_of s) s.asks.now (knowing c.args.known.now) in
    subst (λ (e : Option Event). IfOk c.expand_behind.result (R (child_by s.pick (read c.args.state.now) e))) (sym c.in-Some.is) c.expand_behind.ensures.expansion
