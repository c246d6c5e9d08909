use Rattle.std.proofs.Common.{refl}
use Rattle.std.proofs.lemmas.Result.{err_from_is_err_and}
use Rattle.rh_devices.proofs.Passing.{fault_before, fault_behind, passed_more}
use Rattle.rh_json_lines.specs.AnswerLines.{bad_json}
use Rattle.rh_json.specs.CheckJson.{check_json}
use Rattle.rh_explore_text.proofs.json.write_finding.Goals as goal

pub returns-in_err-write_check-in-BadLine : goal.returns-in_err-write_check-in-BadLine
returns-in_err-write_check-in-BadLine g c =
    let p = err_from_is_err_and c.from_residual-in_err-write_check-in-BadLine.result c.from_residual-in_err-write_check-in-BadLine.ensures.1 in
    rw (p.1, p.2, c.in-BadLine.is)
    (fault_before g.K.Sink.takes g.K.Sink.fails c.in_err-write_check-in-BadLine.field-0.0 c.args.writer.now c.write_check-in-BadLine.new.writer
    (check_json c.args.input.now) (bad_json c.in-BadLine.number) c.in_err-write_check-in-BadLine.ensures)

pub returns-in_err-write_bad-in-BadLine : goal.returns-in_err-write_bad-in-BadLine
returns-in_err-write_bad-in-BadLine g c =
    let p = err_from_is_err_and c.from_residual-in_err-write_bad-in-BadLine.result c.from_residual-in_err-write_bad-in-BadLine.ensures.1 in
    rw (p.1, p.2, c.in-BadLine.is)
    (fault_behind g.K.Sink.takes g.K.Sink.fails c.in_err-write_bad-in-BadLine.field-0.0 c.args.writer.now c.write_check-in-BadLine.new.writer
    c.write_bad.new.writer (check_json c.args.input.now) (bad_json c.in-BadLine.number) c.in_ok-write_check-in-BadLine.ensures.0
    c.in_err-write_bad-in-BadLine.ensures)

pub returns-in_ok-write_bad-in-BadLine : goal.returns-in_ok-write_bad-in-BadLine
returns-in_ok-write_bad-in-BadLine g c =
    rw c.in-BadLine.is (
      refl,
      passed_more g.K.Sink.takes c.args.writer.now.inner c.write_check-in-BadLine.new.writer.inner c.write_bad.new.writer.inner
          (check_json c.args.input.now) (bad_json c.in-BadLine.number) c.in_ok-write_check-in-BadLine.ensures.0 c.in_ok-write_bad-in-BadLine.ensures.0,
      c.in_ok-write_bad-in-BadLine.ensures.1,
    )
