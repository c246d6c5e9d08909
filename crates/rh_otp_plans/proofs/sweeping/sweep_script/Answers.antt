use Rattle.std.proofs.Common.{map, ap, ◌∙◌, subst, refl}
use Rattle.std.proofs.lemmas.Result.{err_from_is_err_and}
use Rattle.rh_devices.proofs.Passing.{nothing_yet}
use Rattle.rh_devices.specs.Devices.{WroteFront}
use Rattle.rh_otp_sim.specs.Sim.{LiveSimView, opened}
use Rattle.rh_run.specs.RunText.{Wrote}
use Rattle.rh_script.specs.Lines.{raw_lines, content}
use Rattle.rh_script.specs.SweepLines.{sweep_lines_asked, bad_sweep_line, plan_text}
use Rattle.rh_otp_plans.specs.LiveSweep.{lines_text, lines_end}
use Rattle.rh_otp_plans.proofs.Sweeps.{base_breaks, plans_behind}
use Rattle.rh_otp_plans.proofs.sweeping.sweep_script.Goals as goal

pub returns-in_err-number : goal.returns-in_err-number
returns-in_err-number g c =
    let asked = sweep_lines_asked c.args.cluster (map content (raw_lines c.args.script.now)) in
    let p = err_from_is_err_and c.from_residual.result c.from_residual.ensures.1 in
    rw (p.1, p.2) (
      nothing_yet g.K.Sink.takes g.K.Sink.fails c.args.writer.now.inner (lines_text (opened c.args.cluster c.args.files.items c.args.order) asked (bad_sweep_line asked)),
      c.requires.writer,
    )

pub returns-in_err-answer_calls-in-Sweep : goal.returns-in_err-answer_calls-in-Sweep
returns-in_err-answer_calls-in-Sweep g c =
    let takes = g.K.Sink.takes in
    let fails = g.K.Sink.fails in
    let asked = sweep_lines_asked c.args.cluster (map content (raw_lines c.args.script.now)) in
    let sim : LiveSimView = c.in_ok-sim-in-Sweep.sim in
    let read = rw c.in-Sweep.is at c.in_ok-number.ensures in
    let f = c.in_err-answer_calls-in-Sweep.field-0.0 in
    let p = err_from_is_err_and c.from_residual-in_err-answer_calls-in-Sweep.result c.from_residual-in_err-answer_calls-in-Sweep.ensures.1 in
    rw (p.1, p.2)
    (subst (λ (s : LiveSimView). WroteFront takes fails f (lines_text s asked (bad_sweep_line asked)) c.args.writer.now c.answer_calls.new.writer)
    c.in_ok-sim-in-Sweep.ensures
    (base_breaks sim _ asked (bad_sweep_line asked) c.as_slice.result.now (map plan_text c.in-Sweep.plans.items)
    read.0 (c.as_slice.ensures.value ∙ read.1) read.2 refl takes fails f c.args.writer.now c.answer_calls.new.writer
    c.in_err-answer_calls-in-Sweep.ensures.text))

pub returns-in_ok-answer_calls-in-Sweep : goal.returns-in_ok-answer_calls-in-Sweep
returns-in_ok-answer_calls-in-Sweep g c =
    let takes = g.K.Sink.takes in
    let fails = g.K.Sink.fails in
    let asked = sweep_lines_asked c.args.cluster (map content (raw_lines c.args.script.now)) in
    let sim : LiveSimView = c.in_ok-sim-in-Sweep.sim in
    let read = rw c.in-Sweep.is at c.in_ok-number.ensures in
    subst (λ (s : LiveSimView). Wrote takes fails c.sweep_plans.result (lines_text s asked (bad_sweep_line asked)) (lines_end s asked (bad_sweep_line asked))
    c.args.writer.now c.sweep_plans.new.writer)
    c.in_ok-sim-in-Sweep.ensures
    (plans_behind sim c.answer_calls.new.sim asked (bad_sweep_line asked) c.as_slice.result.now (map plan_text c.as_slice-in-Sweep.result.now)
    read.0 (c.as_slice.ensures.value ∙ read.1) (ap (map plan_text) c.as_slice-in-Sweep.ensures.value ∙ read.2) c.in_ok-answer_calls-in-Sweep.ensures.sim
    takes fails c.sweep_plans.result c.args.writer.now c.answer_calls.new.writer c.sweep_plans.new.writer
    c.in_ok-answer_calls-in-Sweep.ensures.text.0 c.sweep_plans.ensures)
