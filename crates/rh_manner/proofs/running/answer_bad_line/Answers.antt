use Rattle.std.proofs.lemmas.Result.{err_from_is_err_and}
use Rattle.rh_manner.proofs.Lines.{broke_behind, first_breaks}
use Rattle.rh_manner.proofs.running.answer_bad_line.Goals as goal

pub returns-in_err-write_echo : goal.returns-in_err-write_echo
returns-in_err-write_echo g c =
    let p = err_from_is_err_and c.from_residual.result c.from_residual.ensures.1 in
    rw (p.1, p.2)
    (first_breaks g.K.Sink.takes g.K.Sink.fails c.args.writer.now c.write_echo.new.writer _ _ c.in_err-write_echo.field-0.0 c.in_err-write_echo.ensures)

pub returns : goal.returns
returns g c =
    broke_behind g.K.Sink.takes g.K.Sink.fails c.args.writer.now c.write_echo.new.writer c.answer_bad.new.writer _ _ c.answer_bad.result
    c.in_ok-write_echo.ensures.0 c.answer_bad.ensures
