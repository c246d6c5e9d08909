use Rattle.std.proofs.Common.{sym, ap}
use Rattle.rh_trail.specs.Lone.{Served}
use Rattle.rh_app.proofs.Words.{all_redone}
use Rattle.rh_app.proofs.laws.undo_all_and_redo_all.Goals as goal

pub returns-clause-words : goal.returns-clause-words
returns-clause-words c =
    all_redone c.args.sim.now c.undo_all.new.self c.redo_all.new.self c.is_chained.ensures c.undo_all.ensures.chain
    (sym (ap (λ (a : Served). a.sim) c.undo_all.ensures.answer)) c.redo_all.ensures.words
