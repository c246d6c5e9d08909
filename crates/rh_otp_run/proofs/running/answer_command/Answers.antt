use Rattle.std.proofs.lemmas.Result.{err_from_is_err_and}
use Rattle.rh_manner.proofs.Lines.{call_behind, first_breaks}
use Rattle.rh_otp_run.proofs.running.answer_command.Goals as goal

pub returns-in_err-write_echo-clause-text : goal.returns-in_err-write_echo-clause-text
returns-in_err-write_echo-clause-text g c =
    let p = err_from_is_err_and c.from_residual.result c.from_residual.ensures.1 in
    rw (p.1, p.2)
    (first_breaks g.K.Sink.takes g.K.Sink.fails c.args.writer.now c.write_echo.new.writer _ _ c.in_err-write_echo.field-0.0 c.in_err-write_echo.ensures)

pub returns-clause-text : goal.returns-clause-text
returns-clause-text g c =
    call_behind g.K.Sink.takes g.K.Sink.fails c.args.writer.now c.write_echo.new.writer c.answer_call.new.writer _ _ c.answer_call.result
    c.in_ok-write_echo.ensures.0 c.answer_call.ensures.text
