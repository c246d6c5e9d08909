use Rattle.std.proofs.Common.{◌≡◌, None, map}
use Rattle.std.proofs.lemmas.Result.{err_from_is_err_and}
use Rattle.rh_script.specs.Lines.{raw_lines, content}
use Rattle.rh_app.specs.Histories.{session_lines_asked, commands_of, bad_session_line}
use Rattle.rh_app.specs.Sessions.{ScriptMayGive}
use Rattle.rh_app.proofs.OneOf.{some_text, starved, bad_breaks, bad_told, over_commands}
use Rattle.rh_app.proofs.sessions.share_script.Goals as goal

pub returns-in_err-number : goal.returns-in_err-number
returns-in_err-number g c =
    let asked = session_lines_asked c.args.cluster.now (map content (raw_lines c.args.script.now)) in
    let bad = bad_session_line 1 0 asked in
    let p = err_from_is_err_and c.from_residual.result c.from_residual.ensures.1 in
    rw (p.1, p.2)
    (starved g.K.Sink.takes g.K.Sink.fails (ScriptMayGive c.args.cluster.now c.args.pick (commands_of asked) bad) c.args.writer.now c.requires
    (some_text c.args.cluster.now c.args.pick (commands_of asked) bad))

pub returns-in_err-answer_bad-in-BadLine : goal.returns-in_err-answer_bad-in-BadLine
returns-in_err-answer_bad-in-BadLine g c =
    let takes = g.K.Sink.takes in
    let fails = g.K.Sink.fails in
    let asked = session_lines_asked c.args.cluster.now (map content (raw_lines c.args.script.now)) in
    let bad = rw c.in-BadLine.is at c.in_ok-number.ensures.script in
    let p = err_from_is_err_and c.from_residual-in_err-answer_bad-in-BadLine.result c.from_residual-in_err-answer_bad-in-BadLine.ensures.1 in
    rw (p.1, p.2)
    (bad_breaks takes fails c.args.cluster.now c.args.pick (commands_of asked) (bad_session_line 1 0 asked) (bad_session_line 1 0 asked ≡ None)
    c.in-BadLine.number
    c.args.writer.now c.answer_bad.new.writer bad
    c.in_err-answer_bad-in-BadLine.field-0.0 c.in_err-answer_bad-in-BadLine.ensures)

pub returns-in_ok-answer_bad-in-BadLine : goal.returns-in_ok-answer_bad-in-BadLine
returns-in_ok-answer_bad-in-BadLine g c =
    let takes = g.K.Sink.takes in
    let fails = g.K.Sink.fails in
    let asked = session_lines_asked c.args.cluster.now (map content (raw_lines c.args.script.now)) in
    let bad = rw c.in-BadLine.is at c.in_ok-number.ensures.script in
    bad_told takes fails c.args.cluster.now c.args.pick (commands_of asked) (bad_session_line 1 0 asked) (bad_session_line 1 0 asked ≡ None)
    c.in-BadLine.number c.args.writer.now c.answer_bad.new.writer bad
    c.in_ok-answer_bad-in-BadLine.ensures.0 c.in_ok-answer_bad-in-BadLine.ensures.1
