use Rattle.std.proofs.Common.{get_or, Ok, subst, ◌∙◌, arith}
use Rattle.std.proofs.lemmas.Result.{err_from_is_err_and}
use Rattle.rh_rules.specs.declared.event.Event.TheVariants.{Boot}
use Rattle.rh_model.specs.ClusterView.{ClusterView, numbered}
use Rattle.rh_calls.specs.declared.call.Call.TheVariants.{Step}
use Rattle.rh_trail.specs.Lone.{served}
use Rattle.rh_script.specs.Answers.{answer_text}
use Rattle.rh_devices.specs.Devices.{WroteFront}
use Rattle.rh_run.specs.RunText.{Broke}
use Rattle.rh_run.proofs.Sweeps.{sim_goes_on, answers_go_on, answer_breaks, next_call}
use Rattle.rh_run.proofs.sweeping.answer_calls.Goals as goal

pub loop-call-preserved : goal.loop-call-preserved
loop-call-preserved g c =
    let takes = g.K.Sink.takes in
    let fails = g.K.Sink.fails in
    let calls = c.args.calls.now in
    let i = c.loop-call.call-index in
    let first = Step (Boot (numbered 0)) in
    let at = next_call calls i first (omega arith) in
    let before = c.loop-call.invariant in
    record {
      sim = sim_goes_on c.args.sim.now.seen.cluster c.args.sim.now.seen c.loop-call.sim.seen c.answer_call.new.sim.seen calls i (get_or calls i first) at
          c.in_ok-answer_call.ensures.sim before.sim;
      text = answers_go_on c.args.sim.now.seen.cluster c.args.sim.now.seen c.loop-call.sim.seen c.answer_call.new.sim.seen calls i (get_or calls i first) at
          c.in_ok-answer_call.ensures.sim takes fails c.args.writer.now c.loop-call.writer c.answer_call.new.writer
          before.text.0 before.text.1 before.text.2 (subst (λ (k : ClusterView). Broke takes fails (Ok tt) (answer_text k (served c.loop-call.sim.seen (get_or calls i first)).reply)
          c.loop-call.writer c.answer_call.new.writer) before.same c.in_ok-answer_call.ensures.text);
      watch = c.in_ok-answer_call.ensures.text.1;
      same = c.in_ok-answer_call.ensures.cluster ∙ before.same;
    }

pub returns-in_err-answer_call-clause-text : goal.returns-in_err-answer_call-clause-text
returns-in_err-answer_call-clause-text g c =
    let takes = g.K.Sink.takes in
    let fails = g.K.Sink.fails in
    let calls = c.args.calls.now in
    let i = c.loop-call.call-index in
    let first = Step (Boot (numbered 0)) in
    let before = c.loop-call.invariant in
    let p = err_from_is_err_and c.from_residual.result c.from_residual.ensures.1 in
    rw (p.1, p.2)
    (answer_breaks c.args.sim.now.seen.cluster c.args.sim.now.seen c.loop-call.sim.seen calls i (get_or calls i first) (next_call calls i first (omega arith))
    takes fails c.args.writer.now c.loop-call.writer c.answer_call.new.writer before.text.0
    before.text.1 before.text.2 c.in_err-answer_call.field-0.0 (subst (λ (k : ClusterView). WroteFront takes fails c.in_err-answer_call.field-0.0 (answer_text k (served c.loop-call.sim.seen (get_or calls i first)).reply)
    c.loop-call.writer c.answer_call.new.writer) before.same c.in_err-answer_call.ensures.text))
