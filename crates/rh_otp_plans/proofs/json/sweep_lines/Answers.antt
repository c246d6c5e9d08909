use Rattle.std.proofs.Common.{map, ap, ◌∙◌, refl}
use Rattle.std.proofs.lemmas.Result.{err_from_is_err_and}
use Rattle.rh_devices.proofs.Passing.{nothing_yet}
use Rattle.rh_script.specs.Lines.{raw_lines, content}
use Rattle.rh_script.specs.SweepLines.{sweep_lines_asked, bad_sweep_line, plan_text}
use Rattle.rh_otp_plans.specs.LiveSweepJson.{lines_json}
use Rattle.rh_otp_plans.proofs.Bases.{base_breaks, plans_behind}
use Rattle.rh_otp_plans.proofs.json.sweep_lines.Goals as goal

pub returns-in_err-number : goal.returns-in_err-number
returns-in_err-number g c =
    let lines = map content (raw_lines c.args.script.now) in
    let p = err_from_is_err_and c.from_residual.result c.from_residual.ensures.1 in
    rw (p.1, p.2) (
      nothing_yet g.K.Sink.takes g.K.Sink.fails c.args.writer.now.inner
          (lines_json c.args.sim lines (bad_sweep_line (sweep_lines_asked c.args.sim.cluster lines))),
      c.requires.writer,
    )

pub returns-in_err-answer_base-in-Sweep : goal.returns-in_err-answer_base-in-Sweep
returns-in_err-answer_base-in-Sweep g c =
    let lines = map content (raw_lines c.args.script.now) in
    let bad = bad_sweep_line (sweep_lines_asked c.args.sim.cluster lines) in
    let read = rw c.in-Sweep.is at (rw c.cluster.ensures at c.in_ok-number.ensures) in
    let p = err_from_is_err_and c.from_residual-in_err-answer_base-in-Sweep.result c.from_residual-in_err-answer_base-in-Sweep.ensures.1 in
    rw (p.1, p.2)
    (base_breaks c.args.sim _ lines bad (map plan_text c.in-Sweep.plans.items) read.0 read.2 refl
    g.K.Sink.takes g.K.Sink.fails c.in_err-answer_base-in-Sweep.field-0.0 c.args.writer.now c.answer_base.new.writer
    c.in_err-answer_base-in-Sweep.ensures.text)

pub returns-in_ok-answer_base-in-Sweep : goal.returns-in_ok-answer_base-in-Sweep
returns-in_ok-answer_base-in-Sweep g c =
    let lines = map content (raw_lines c.args.script.now) in
    let bad = bad_sweep_line (sweep_lines_asked c.args.sim.cluster lines) in
    let read = rw c.in-Sweep.is at (rw c.cluster.ensures at c.in_ok-number.ensures) in
    plans_behind c.args.sim c.answer_base.new.sim lines bad (map plan_text c.as_slice.result.now) read.0
    (ap (map plan_text) c.as_slice.ensures.value ∙ read.2) c.in_ok-answer_base-in-Sweep.ensures.sim
    g.K.Sink.takes g.K.Sink.fails c.sweep_plans.result c.args.writer.now c.answer_base.new.writer c.sweep_plans.new.writer
    c.in_ok-answer_base-in-Sweep.ensures.text.0 c.sweep_plans.ensures
