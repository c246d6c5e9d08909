use Rattle.std.proofs.Common.{map, ap, subst, refl, ◌∙◌}
use Rattle.std.proofs.lemmas.Result.{err_from_is_err_and}
use Rattle.rh_model.specs.ClusterView.{ClusterView}
use Rattle.rh_trail.specs.SimView.{SimView}
use Rattle.rh_script.specs.Lines.{raw_lines, content}
use Rattle.rh_script.specs.SweepLines.{sweep_lines_asked, bad_sweep_line, plan_text}
use Rattle.rh_devices.specs.Devices.{Passed, WroteFront}
use Rattle.rh_run.specs.RunText.{answers_text, Wrote}
use Rattle.rh_run.specs.SweepText.{lines_text, plans_text, plans_end, why_not_swept}
use Rattle.rh_devices.proofs.Passing.{nothing_yet}
use Rattle.rh_run.proofs.Sweeps.{base_breaks, plans_behind}
use Rattle.rh_run.proofs.sweeping.sweep_script.Goals as goal

pub returns-in_err-number : goal.returns-in_err-number
returns-in_err-number g c =
    let asked = sweep_lines_asked c.args.cluster (map content (raw_lines c.args.script.now)) in
    let p = err_from_is_err_and c.from_residual.result c.from_residual.ensures.1 in
    let takes = g.K.Sink.takes in
    let fails = g.K.Sink.fails in
    rw (p.1, p.2) (nothing_yet takes fails c.args.writer.now.inner (lines_text c.args.cluster c.args.pick asked (bad_sweep_line asked)), c.requires.writer)

pub returns-in_err-answer_calls-in-Sweep : goal.returns-in_err-answer_calls-in-Sweep
returns-in_err-answer_calls-in-Sweep g c =
    let takes = g.K.Sink.takes in
    let fails = g.K.Sink.fails in
    let cluster = c.args.cluster in
    let asked = sweep_lines_asked cluster (map content (raw_lines c.args.script.now)) in
    let read = rw c.in-Sweep.is at c.in_ok-number.ensures in
    let opens = c.in_ok-sim-in-Sweep.ensures.seen in
    let keeps = ap (λ (v : SimView). v.cluster) opens in
    let p = err_from_is_err_and c.from_residual-in_err-answer_calls-in-Sweep.result c.from_residual-in_err-answer_calls-in-Sweep.ensures.1 in
    rw (p.1, p.2)
    (base_breaks cluster c.args.pick asked (bad_sweep_line asked) c.in_ok-sim-in-Sweep.sim.seen _ c.as_slice.result.now (map plan_text c.in-Sweep.plans.items)
    read.0 opens (c.as_slice.ensures.value ∙ read.1) read.2 refl takes fails c.in_err-answer_calls-in-Sweep.field-0.0
    c.args.writer.now c.answer_calls.new.writer (subst (λ (k : ClusterView). WroteFront takes fails c.in_err-answer_calls-in-Sweep.field-0.0
    (answers_text k c.in_ok-sim-in-Sweep.sim.seen c.as_slice.result.now) c.args.writer.now c.answer_calls.new.writer)
    keeps c.in_err-answer_calls-in-Sweep.ensures.text))

pub returns-in_ok-answer_calls-in-Sweep : goal.returns-in_ok-answer_calls-in-Sweep
returns-in_ok-answer_calls-in-Sweep g c =
    let takes = g.K.Sink.takes in
    let fails = g.K.Sink.fails in
    let cluster = c.args.cluster in
    let asked = sweep_lines_asked cluster (map content (raw_lines c.args.script.now)) in
    let read = rw c.in-Sweep.is at c.in_ok-number.ensures in
    let opens = c.in_ok-sim-in-Sweep.ensures.seen in
    let base = c.answer_calls.new.sim.seen in
    let planned = map plan_text c.as_slice-in-Sweep.result.now in
    let keeps = ap (λ (v : SimView). v.cluster) opens in
    plans_behind cluster c.args.pick asked (bad_sweep_line asked) c.in_ok-sim-in-Sweep.sim.seen _ c.as_slice.result.now
    (map plan_text c.as_slice-in-Sweep.result.now)
    read.0 opens (c.as_slice.ensures.value ∙ read.1) (ap (map plan_text) c.as_slice-in-Sweep.ensures.value ∙ read.2) c.in_ok-answer_calls-in-Sweep.ensures.sim takes fails
    c.sweep_plans.result c.args.writer.now c.answer_calls.new.writer c.sweep_plans.new.writer (subst (λ (k : ClusterView). Passed takes c.args.writer.now.inner c.answer_calls.new.writer.inner
    (answers_text k c.in_ok-sim-in-Sweep.sim.seen c.as_slice.result.now)) keeps c.in_ok-answer_calls-in-Sweep.ensures.text.0)
    (subst (λ (k : ClusterView). Wrote takes fails c.sweep_plans.result
    (plans_text k base planned (why_not_swept base planned)) (plans_end base planned) c.answer_calls.new.writer c.sweep_plans.new.writer)
    (c.in_ok-answer_calls-in-Sweep.ensures.cluster ∙ keeps) c.sweep_plans.ensures)
