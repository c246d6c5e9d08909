use Rattle.std.proofs.Common.{◌≢◌, length, ap, arith}
use Rattle.rh_trail.specs.SimView.{Held}
use Rattle.rh_app.proofs.Words.{taken_words}
use Rattle.rh_app.proofs.laws.redo_and_undo.Goals as goal

pub returns-then-cursor-trail-clause-words : goal.returns-then-cursor-trail-clause-words
returns-then-cursor-trail-clause-words c =
    let s : Held = c.args.sim.now in
    let some : s.seen.cursor ≢ length s.seen.trail = λ end. absurd
    (omega (arith, end, c.cursor.ensures.cursor, ap length c.trail.ensures.trail, c.if-cursor-trail.true)) in
    taken_words s c.redo.new.self c.undo.new.self c.is_chained.ensures c.redo.result c.undo.result some c.redo.ensures.answer c.undo.ensures.answer
    c.redo.ensures.chain c.undo.ensures.words
