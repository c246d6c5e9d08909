use Rattle.std.proofs.Common.{◌≢◌, arith}
use Rattle.rh_trail.specs.SimView.{Held}
use Rattle.rh_app.proofs.Words.{redone_words}
use Rattle.rh_app.proofs.laws.undo_and_redo.Goals as goal

pub returns-then-cursor-gt0-clause-words : goal.returns-then-cursor-gt0-clause-words
returns-then-cursor-gt0-clause-words c =
    let s : Held = c.args.sim.now in
    let some : s.seen.cursor ≢ 0 = λ none. absurd (omega (arith, none, c.cursor.ensures.cursor, c.if-cursor-gt0.true)) in
    redone_words s c.undo.new.self c.redo.new.self c.is_chained.ensures c.undo.result c.redo.result some c.undo.ensures.answer c.redo.ensures.answer
    c.undo.ensures.chain c.redo.ensures.words
