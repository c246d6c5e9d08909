use Rattle.std.proofs.Common.{◌≡◌, ◌-◌, sym, ap}
use Rattle.rh_trail.specs.Chain.{chain}
use Rattle.rh_trail.specs.Laws.{Accepts}
use Rattle.rh_trail.specs.Lone.{Served}
use Rattle.rh_trail.specs.SimView.{Held}
use Rattle.rh_trail.proofs.Moves.{went_back}
use Rattle.rh_app.proofs.Words.{behind_start, step_undone}
use Rattle.rh_app.proofs.laws.step_and_undo.Goals as goal

pub returns-clause-words : goal.returns-clause-words
returns-clause-words c =
    let s : Held = c.args.sim.now in
    let t : Held = c.step.new.self in
    let u : Held = c.undo.new.self in
    let is : Accepts s.seen c.args.event c.in_ok-notices.notices.items = ap (λ (a : Served). a.reply) c.in_ok-notices.ensures.done in
    let at = sym (ap (λ (a : Served). a.sim) c.in_ok-notices.ensures.done) in
    step_undone s t c.is_chained.ensures c.args.event c.in_ok-notices.notices.items is at u c.in_ok-notices.ensures.chain
    (went_back t.seen u.seen c.undo.result (u.words ≡ chain t (t.seen.cursor - 1))
    (behind_start s t c.is_chained.ensures c.args.event c.in_ok-notices.notices.items is at) c.undo.ensures.answer c.undo.ensures.words)

pub returns-clause-accepted : goal.returns-clause-accepted
returns-clause-accepted c = ap (λ (a : Served). a.reply) c.in_ok-notices.ensures.done
