use Rattle.std.proofs.lemmas.Result.{err_from_is_err_and}
use Rattle.rh_manner.proofs.Ending.{whole_end}
use Rattle.rh_manner.proofs.dialogue.run_dialogue_by.Goals as goal

pub returns-in_err-told : goal.returns-in_err-told
returns-in_err-told g c =
    let p = err_from_is_err_and c.from_residual.result c.from_residual.ensures.1 in
    rw (p.1, p.2) c.in_err-told.ensures

pub returns : goal.returns
returns g c =
    rw c.ended.ensures
    (whole_end g.D.Source.gives g.D.Source.fails g.D.Sink.takes g.D.Sink.flushes g.D.Sink.fails (g.T.Speaker.speech c.args.speaker.now) g.T.Speaker.view c.args.device.now
    c.in_ok-told.told c.talk.new.device c.in_ok-told.ensures)
