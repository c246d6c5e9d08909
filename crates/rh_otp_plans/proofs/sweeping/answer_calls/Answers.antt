use Rattle.std.proofs.Common.{get_or, arith}
use Rattle.std.proofs.lemmas.Result.{err_from_is_err_and}
use Rattle.rh_calls.specs.declared.call.Call.TheVariants.{Step}
use Rattle.rh_model.specs.ClusterView.{numbered}
use Rattle.rh_rules.specs.declared.event.Event.TheVariants.{Boot}
use Rattle.rh_otp_plans.proofs.Sweeps.{sim_goes_on, answers_go_on, answer_breaks, next_call}
use Rattle.rh_otp_plans.proofs.sweeping.answer_calls.Goals as goal

pub loop-call-preserved : goal.loop-call-preserved
loop-call-preserved g c =
    let calls = c.args.calls.now in
    let i = c.loop-call.call-index in
    let call = get_or calls i (Step (Boot (numbered 0))) in
    let at = next_call calls i (Step (Boot (numbered 0))) (omega arith) in
    let before = c.loop-call.invariant in
    let is = c.in_ok-answer_call.ensures.sim in
    record {
      sim = sim_goes_on c.args.sim.now c.loop-call.sim c.answer_call.new.sim calls i call at is before.sim;
      text = answers_go_on c.args.sim.now c.loop-call.sim c.answer_call.new.sim calls i call at is g.K.Sink.takes g.K.Sink.fails
          c.args.writer.now c.loop-call.writer c.answer_call.new.writer before.text.0 before.text.1 before.text.2 c.in_ok-answer_call.ensures.text;
      watch = c.in_ok-answer_call.ensures.text.1;
    }

pub returns-in_err-answer_call-clause-text : goal.returns-in_err-answer_call-clause-text
returns-in_err-answer_call-clause-text g c =
    let calls = c.args.calls.now in
    let i = c.loop-call.call-index in
    let call = get_or calls i (Step (Boot (numbered 0))) in
    let before = c.loop-call.invariant in
    let p = err_from_is_err_and c.from_residual.result c.from_residual.ensures.1 in
    rw (p.1, p.2)
    (answer_breaks c.args.sim.now c.loop-call.sim calls i call (next_call calls i (Step (Boot (numbered 0))) (omega arith))
    g.K.Sink.takes g.K.Sink.fails c.args.writer.now c.loop-call.writer c.answer_call.new.writer before.text.0 before.text.1 before.text.2
    c.in_err-answer_call.field-0.0 c.in_err-answer_call.ensures.text)
