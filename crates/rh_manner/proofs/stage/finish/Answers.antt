use Rattle.std.proofs.lemmas.Result.{err_from_is_err_and}
use Rattle.rh_script.specs.Lines.{raw_lines}
use Rattle.rh_manner.proofs.Closings.{breaks, closes, goes_on}
use Rattle.rh_manner.proofs.stage.finish.Goals as goal

pub returns-in_err-turn : goal.returns-in_err-turn
returns-in_err-turn g c =
    let p = err_from_is_err_and c.from_residual.result c.from_residual.ensures.1 in
    rw (p.1, p.2)
    (breaks g.K.Sink.takes g.K.Sink.fails (g.T.Speaker.speech c.args.speaker.now) g.T.Speaker.view c.args.stage (raw_lines c.args.rest.now) c.args.writer.now c.take.new.writer
    c.in_err-turn.field-0.0 c.in_err-turn.ensures.lines)

pub returns-in-Ends : goal.returns-in-Ends
returns-in-Ends g c =
    closes g.K.Sink.takes g.K.Sink.fails (g.T.Speaker.speech c.args.speaker.now) g.T.Speaker.view c.args.stage (raw_lines c.args.rest.now) c.args.writer.now c.take.new.writer
    c.in-Ends.told (rw c.in-Ends.is at c.in_ok-turn.ensures.lines)

pub returns-in-Goes : goal.returns-in-Goes
returns-in-Goes g c =
    goes_on g.K.Sink.takes g.K.Sink.fails (g.T.Speaker.speech c.args.speaker.now) g.T.Speaker.view c.args.stage (raw_lines c.args.rest.now) c.args.writer.now c.take.new.writer
    c.in-Goes.stage c.close.result c.close.new.writer (rw c.in-Goes.is at c.in_ok-turn.ensures.lines) c.close.ensures
