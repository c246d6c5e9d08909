use Rattle.std.proofs.Common.{◌∙◌, Ok, Err, sym, ap, subst}
use Rattle.std.proofs.lemmas.Result.{err_from_is_err_and}
use Rattle.rh_model.specs.ClusterView.{ClusterView}
use Rattle.rh_script.specs.declared.script.Line.{Line}
use Rattle.rh_script.specs.Commands.{line_of}
use Rattle.rh_manner.specs.declared.running.Turn.TheVariants.{Goes, Ends}
use Rattle.rh_otp_run.specs.LiveText.{Turns}
use Rattle.rh_otp_run.proofs.Turns.{turn_of_call, call_breaks, turn_of_bad, bad_breaks}
use Rattle.rh_otp_run.proofs.running.answer_line.Goals as goal

pub returns-in_err-refused-in-Asks-clause-text : goal.returns-in_err-refused-in-Asks-clause-text
returns-in_err-refused-in-Asks-clause-text g c = λ lines.
    let takes = g.K.Sink.takes in
    let fails = g.K.Sink.fails in
    let start = c.args.sim.now in
    let p = err_from_is_err_and c.from_residual-in_err-refused-in-Asks.result c.from_residual-in_err-refused-in-Asks.ensures.1 in
    let f = c.in_err-refused-in-Asks.field-0.0 in
    let asks = sym c.in-Asks.is ∙ c.in_ok-line_of.ensures ∙ ap (λ (k : ClusterView). line_of k c.args.line.now) c.cluster.ensures in
    rw (p.1, p.2)
    (subst (λ (l : Line). Turns takes fails (Err f) c.args.manner start c.answer_command.new.sim c.args.number (c.args.line.now, l) lines
    c.args.writer.now c.answer_command.new.writer)
    asks
    (call_breaks takes fails c.args.manner start c.answer_command.new.sim c.args.number c.args.line.now lines
    c.args.writer.now c.answer_command.new.writer c.in-Asks.call f c.in_err-refused-in-Asks.ensures.text))

pub returns-in_ok-refused-in-Asks-clause-text : goal.returns-in_ok-refused-in-Asks-clause-text
returns-in_ok-refused-in-Asks-clause-text g c = λ lines.
    let takes = g.K.Sink.takes in
    let fails = g.K.Sink.fails in
    let start = c.args.sim.now in
    let asks = sym c.in-Asks.is ∙ c.in_ok-line_of.ensures ∙ ap (λ (k : ClusterView). line_of k c.args.line.now) c.cluster.ensures in
    subst (λ (l : Line). Turns takes fails (Ok (Goes c.in_ok-refused-in-Asks.refused)) c.args.manner start c.answer_command.new.sim c.args.number
    (c.args.line.now, l) lines c.args.writer.now c.answer_command.new.writer)
    asks
    (turn_of_call takes fails c.args.manner start c.answer_command.new.sim c.args.number c.args.line.now lines
    c.args.writer.now c.answer_command.new.writer c.in-Asks.call c.in_ok-refused-in-Asks.refused c.in_ok-refused-in-Asks.ensures.sim
    c.in_ok-refused-in-Asks.ensures.refused c.in_ok-refused-in-Asks.ensures.text)

pub returns-in_err-answer_bad_line-in-Bad-clause-text : goal.returns-in_err-answer_bad_line-in-Bad-clause-text
returns-in_err-answer_bad_line-in-Bad-clause-text g c = λ lines.
    let takes = g.K.Sink.takes in
    let fails = g.K.Sink.fails in
    let start = c.args.sim.now in
    let p = err_from_is_err_and c.from_residual-in_err-answer_bad_line-in-Bad.result c.from_residual-in_err-answer_bad_line-in-Bad.ensures.1 in
    let f = c.in_err-answer_bad_line-in-Bad.field-0.0 in
    let asks = sym c.in-Bad.is ∙ c.in_ok-line_of.ensures ∙ ap (λ (k : ClusterView). line_of k c.args.line.now) c.cluster.ensures in
    rw (p.1, p.2)
    (subst (λ (l : Line). Turns takes fails (Err f) c.args.manner start start c.args.number (c.args.line.now, l) lines
    c.args.writer.now c.answer_bad_line.new.writer)
    asks
    (bad_breaks takes fails c.args.manner start start c.args.number c.args.line.now lines
    c.args.writer.now c.answer_bad_line.new.writer f c.in_err-answer_bad_line-in-Bad.ensures))

pub returns-in_ok-answer_bad_line-in-Bad-clause-text : goal.returns-in_ok-answer_bad_line-in-Bad-clause-text
returns-in_ok-answer_bad_line-in-Bad-clause-text g c = λ lines.
    let takes = g.K.Sink.takes in
    let fails = g.K.Sink.fails in
    let start = c.args.sim.now in
    let asks = sym c.in-Bad.is ∙ c.in_ok-line_of.ensures ∙ ap (λ (k : ClusterView). line_of k c.args.line.now) c.cluster.ensures in
    subst (λ (l : Line). Turns takes fails (Ok Ends) c.args.manner start start c.args.number (c.args.line.now, l) lines
    c.args.writer.now c.answer_bad_line.new.writer)
    asks
    (turn_of_bad takes fails c.args.manner start start c.args.number c.args.line.now lines
    c.args.writer.now c.answer_bad_line.new.writer c.in_ok-answer_bad_line-in-Bad.ensures.0 c.in_ok-answer_bad_line-in-Bad.ensures.1)
