use Rattle.std.proofs.Common.{◌∙◌, None, Ok, Err, sym, ap, subst}
use Rattle.std.proofs.lemmas.Result.{err_from_is_err_and}
use Rattle.rh_model.specs.ClusterView.{ClusterView}
use Rattle.rh_script.specs.Commands.{line_of}
use Rattle.rh_otp_json.proofs.Turns.{turn_of_nothing, turn_of_call, call_breaks, turn_of_bad, bad_breaks}
use Rattle.rh_otp_json.proofs.running.answer_line.Goals as goal

pub returns-in_err-answer_call-in-Asks-clause-text : goal.returns-in_err-answer_call-in-Asks-clause-text
returns-in_err-answer_call-in-Asks-clause-text g c = λ lines.
    let p = err_from_is_err_and c.from_residual-in_err-answer_call-in-Asks.result c.from_residual-in_err-answer_call-in-Asks.ensures.1 in
    let asked = ap (λ (k : ClusterView). line_of k c.args.line.now) (sym c.cluster.ensures) ∙ sym c.in_ok-line_of.ensures ∙ c.in-Asks.is in
    rw (p.1, p.2)
    (call_breaks c.args.sim.now.cluster c.args.sim.now c.args.number c.args.line.now lines g.K.Sink.takes g.K.Sink.fails
    c.answer_call.new.sim c.args.writer.now c.answer_call.new.writer c.in-Asks.call asked c.in_err-answer_call-in-Asks.field-0.0
    c.in_err-answer_call-in-Asks.ensures.text)

pub returns-in_ok-answer_call-in-Asks-clause-text : goal.returns-in_ok-answer_call-in-Asks-clause-text
returns-in_ok-answer_call-in-Asks-clause-text g c = λ lines.
    let asked = ap (λ (k : ClusterView). line_of k c.args.line.now) (sym c.cluster.ensures) ∙ sym c.in_ok-line_of.ensures ∙ c.in-Asks.is in
    turn_of_call c.args.sim.now.cluster c.args.sim.now c.args.number c.args.line.now lines g.K.Sink.takes g.K.Sink.fails
    c.answer_call.new.sim c.args.writer.now c.answer_call.new.writer c.in-Asks.call asked c.in_ok-answer_call-in-Asks.ensures.sim
    c.in_ok-answer_call-in-Asks.ensures.text
