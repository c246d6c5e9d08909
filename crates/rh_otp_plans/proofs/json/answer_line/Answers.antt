use Rattle.std.proofs.Common.{◌∙◌, refl, sym, ap}
use Rattle.std.proofs.lemmas.Result.{err_from_is_err_and}
use Rattle.rh_model.specs.ClusterView.{ClusterView}
use Rattle.rh_script.specs.Commands.{line_of}
use Rattle.rh_otp_plans.proofs.Bases.{turn_of_nothing, turn_of_call, call_breaks, turn_of_bad}
use Rattle.rh_otp_plans.proofs.json.answer_line.Goals as goal

pub returns-in-Nothing-clause-text : goal.returns-in-Nothing-clause-text
returns-in-Nothing-clause-text g c = λ lines.
    let asked = ap (λ (k : ClusterView). line_of k c.args.line.now) (sym c.cluster.ensures) ∙ sym c.in_ok-line_of.ensures ∙ c.in-Nothing.is in
    turn_of_nothing c.args.sim.now.cluster c.args.sim.now c.args.number c.args.line.now lines g.K.Sink.takes g.K.Sink.fails
    c.args.sim.now c.args.writer.now c.args.writer.now asked refl refl c.requires

pub returns-in_err-answer_call-in-Asks-clause-text : goal.returns-in_err-answer_call-in-Asks-clause-text
returns-in_err-answer_call-in-Asks-clause-text g c = λ lines.
    let p = err_from_is_err_and c.from_residual-in_err-answer_call-in-Asks.result c.from_residual-in_err-answer_call-in-Asks.ensures.1 in
    let asked = ap (λ (k : ClusterView). line_of k c.args.line.now) (sym c.cluster.ensures) ∙ sym c.in_ok-line_of.ensures ∙ c.in-Asks.is in
    rw (p.1, p.2)
    (call_breaks c.args.sim.now.cluster c.args.sim.now c.args.number c.args.line.now lines g.K.Sink.takes g.K.Sink.fails
    c.answer_call.new.sim c.args.writer.now c.answer_call.new.writer c.in-Asks.call asked c.in_err-answer_call-in-Asks.field-0.0
    c.in_err-answer_call-in-Asks.ensures.text)

pub returns-in_ok-answer_call-in-Asks-clause-text : goal.returns-in_ok-answer_call-in-Asks-clause-text
returns-in_ok-answer_call-in-Asks-clause-text g c = λ lines.
    let asked = ap (λ (k : ClusterView). line_of k c.args.line.now) (sym c.cluster.ensures) ∙ sym c.in_ok-line_of.ensures ∙ c.in-Asks.is in
    turn_of_call c.args.sim.now.cluster c.args.sim.now c.args.number c.args.line.now lines g.K.Sink.takes g.K.Sink.fails
    c.answer_call.new.sim c.args.writer.now c.answer_call.new.writer c.in-Asks.call asked c.in_ok-answer_call-in-Asks.ensures.sim
    c.in_ok-answer_call-in-Asks.ensures.text

pub returns-in-Bad-clause-text : goal.returns-in-Bad-clause-text
returns-in-Bad-clause-text g c = λ lines.
    let asked = ap (λ (k : ClusterView). line_of k c.args.line.now) (sym c.cluster.ensures) ∙ sym c.in_ok-line_of.ensures ∙ c.in-Bad.is in
    turn_of_bad c.args.sim.now.cluster c.args.sim.now c.args.number c.args.line.now lines g.K.Sink.takes g.K.Sink.fails
    c.args.sim.now c.args.writer.now c.args.writer.now asked refl refl
