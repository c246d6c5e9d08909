use Rattle.std.proofs.Common.{sym, ap}
use Rattle.rh_trail.specs.Laws.{Accepts}
use Rattle.rh_trail.specs.Lone.{Served}
use Rattle.rh_trail.specs.SimView.{Held}
use Rattle.rh_app.proofs.Words.{step_allowed}
use Rattle.rh_app.proofs.laws.step_undo_and_redo.Goals as goal

pub returns-clause-allowed : goal.returns-clause-allowed
returns-clause-allowed c =
    let s : Held = c.args.sim.now in
    let t : Held = c.step.new.self in
    let done = c.in_ok-notices.ensures.done in
    let is : Accepts s.seen c.args.event c.in_ok-notices.notices.items = ap (λ (a : Served). a.reply) done in
    step_allowed s t c.is_chained.ensures c.args.event c.in_ok-notices.notices.items is (sym (ap (λ (a : Served). a.sim) done)) c.undo_and_redo.new.sim
    c.is_reversible.ensures c.is_chained-2.ensures c.undo_and_redo.ensures.seen
