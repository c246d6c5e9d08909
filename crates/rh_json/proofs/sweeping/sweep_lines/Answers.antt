use Rattle.std.proofs.Common.{◌∙◌, List, ℕ, map, sym, ap, subst}
use Rattle.std.proofs.lemmas.Result.{err_from_is_err_and}
use Rattle.rh_model.specs.ClusterView.{ClusterView}
use Rattle.rh_trail.specs.Lone.{opened, sim_after}
use Rattle.rh_trail.specs.SimView.{SimView}
use Rattle.rh_script.specs.Lines.{script_lines}
use Rattle.rh_script.specs.Commands.{calls_of}
use Rattle.rh_script.specs.SweepLines.{sweep_lines_asked, bad_sweep_line, plan_text, base_lines, plans_of}
use Rattle.rh_devices.specs.Devices.{Passed, WroteFront}
use Rattle.rh_devices.proofs.Passing.{nothing_yet}
use Rattle.rh_run.specs.RunText.{Wrote}
use Rattle.rh_run.specs.SweepText.{why_not_swept, plans_end}
use Rattle.rh_json.specs.SweepJson.{plans_json, lines_json}
use Rattle.rh_json.proofs.Texts.{check_is, cluster_breaks, bad_breaks, bad_is_told, base_breaks, no_memory, plans_behind}
use Rattle.rh_json.proofs.sweeping.sweep_lines.Goals as goal

pub returns-in_err-number : goal.returns-in_err-number
returns-in_err-number g c =
    let lines = script_lines c.args.input.now in
    let p = err_from_is_err_and c.from_residual.result c.from_residual.ensures.1 in
    rw (p.1, p.2) (
      nothing_yet g.K.Sink.takes g.K.Sink.fails c.args.writer.now.inner
          (lines_json c.args.cluster c.args.pick lines (bad_sweep_line (sweep_lines_asked c.args.cluster lines))),
      c.requires.writer,
    )

pub returns-in_err-write_check-in-BadLine : goal.returns-in_err-write_check-in-BadLine
returns-in_err-write_check-in-BadLine g c =
    let takes = g.K.Sink.takes in
    let fails = g.K.Sink.fails in
    let cluster = c.args.cluster in
    let lines = script_lines c.args.input.now in
    let read = rw c.in-BadLine.is at c.in_ok-number.ensures in
    let is = ap (λ (ls : List (List ℕ)). bad_sweep_line (sweep_lines_asked cluster ls)) (sym c.cut.ensures.script) ∙ read in
    let p = err_from_is_err_and c.from_residual-in_err-write_check-in-BadLine.result c.from_residual-in_err-write_check-in-BadLine.ensures.1 in
    rw (p.1, p.2)
    (cluster_breaks takes fails cluster c.args.pick lines (bad_sweep_line (sweep_lines_asked cluster lines)) c.in-BadLine.number is
    c.in_err-write_check-in-BadLine.field-0.0 c.args.writer.now c.write_check.new.writer
    (subst (λ (t : List ℕ). WroteFront takes fails c.in_err-write_check-in-BadLine.field-0.0 t c.args.writer.now c.write_check.new.writer)
    (check_is cluster c.args.input.now c.requires.cluster) c.in_err-write_check-in-BadLine.ensures))

pub returns-in_err-write_bad-in-BadLine : goal.returns-in_err-write_bad-in-BadLine
returns-in_err-write_bad-in-BadLine g c =
    let takes = g.K.Sink.takes in
    let fails = g.K.Sink.fails in
    let cluster = c.args.cluster in
    let lines = script_lines c.args.input.now in
    let read = rw c.in-BadLine.is at c.in_ok-number.ensures in
    let is = ap (λ (ls : List (List ℕ)). bad_sweep_line (sweep_lines_asked cluster ls)) (sym c.cut.ensures.script) ∙ read in
    let p = err_from_is_err_and c.from_residual-in_err-write_bad-in-BadLine.result c.from_residual-in_err-write_bad-in-BadLine.ensures.1 in
    rw (p.1, p.2)
    (bad_breaks takes fails cluster c.args.pick lines (bad_sweep_line (sweep_lines_asked cluster lines)) c.in-BadLine.number is
    c.in_err-write_bad-in-BadLine.field-0.0 c.args.writer.now c.write_check.new.writer c.write_bad.new.writer
    (subst (λ (t : List ℕ). Passed takes c.args.writer.now.inner c.write_check.new.writer.inner t)
    (check_is cluster c.args.input.now c.requires.cluster) c.in_ok-write_check-in-BadLine.ensures.0)
    c.in_err-write_bad-in-BadLine.ensures)

pub returns-in_ok-write_bad-in-BadLine : goal.returns-in_ok-write_bad-in-BadLine
returns-in_ok-write_bad-in-BadLine g c =
    let takes = g.K.Sink.takes in
    let fails = g.K.Sink.fails in
    let cluster = c.args.cluster in
    let lines = script_lines c.args.input.now in
    let read = rw c.in-BadLine.is at c.in_ok-number.ensures in
    let is = ap (λ (ls : List (List ℕ)). bad_sweep_line (sweep_lines_asked cluster ls)) (sym c.cut.ensures.script) ∙ read in
    bad_is_told takes fails cluster c.args.pick lines (bad_sweep_line (sweep_lines_asked cluster lines)) c.in-BadLine.number is
    c.args.writer.now c.write_check.new.writer c.write_bad.new.writer
    (subst (λ (t : List ℕ). Passed takes c.args.writer.now.inner c.write_check.new.writer.inner t)
    (check_is cluster c.args.input.now c.requires.cluster) c.in_ok-write_check-in-BadLine.ensures.0)
    c.in_ok-write_bad-in-BadLine.ensures

pub returns-in_err-write_base-in-Sweep : goal.returns-in_err-write_base-in-Sweep
returns-in_err-write_base-in-Sweep g c =
    let cluster = c.args.cluster in
    let lines = script_lines c.args.input.now in
    let read = rw c.in-Sweep.is at c.in_ok-number.ensures in
    let none = ap (λ (ls : List (List ℕ)). bad_sweep_line (sweep_lines_asked cluster ls)) (sym c.cut.ensures.script) ∙ read.0 in
    let p = err_from_is_err_and c.from_residual-in_err-write_base-in-Sweep.result c.from_residual-in_err-write_base-in-Sweep.ensures.1 in
    rw (p.1, p.2)
    (base_breaks g.K.Sink.takes g.K.Sink.fails cluster c.args.pick lines (bad_sweep_line (sweep_lines_asked cluster lines)) none
    c.in_err-write_base-in-Sweep.field-0.0 c.args.writer.now c.write_base.new.writer c.in_err-write_base-in-Sweep.ensures)

pub returns-in_err-sim-in-Sweep : goal.returns-in_err-sim-in-Sweep
returns-in_err-sim-in-Sweep g c =
    let cluster = c.args.cluster in
    let lines = script_lines c.args.input.now in
    let read = rw c.in-Sweep.is at c.in_ok-number.ensures in
    let none = ap (λ (ls : List (List ℕ)). bad_sweep_line (sweep_lines_asked cluster ls)) (sym c.cut.ensures.script) ∙ read.0 in
    let p = err_from_is_err_and c.from_residual-in_err-sim-in-Sweep.result c.from_residual-in_err-sim-in-Sweep.ensures.1 in
    rw (p.1, p.2)
    (no_memory g.K.Sink.takes g.K.Sink.fails cluster c.args.pick lines (bad_sweep_line (sweep_lines_asked cluster lines)) none
    c.args.writer.now c.write_base.new.writer c.in_ok-write_base-in-Sweep.ensures.0 c.in_ok-write_base-in-Sweep.ensures.1)

pub returns-in_err-make_calls-in-Sweep : goal.returns-in_err-make_calls-in-Sweep
returns-in_err-make_calls-in-Sweep g c =
    let cluster = c.args.cluster in
    let lines = script_lines c.args.input.now in
    let read = rw c.in-Sweep.is at c.in_ok-number.ensures in
    let none = ap (λ (ls : List (List ℕ)). bad_sweep_line (sweep_lines_asked cluster ls)) (sym c.cut.ensures.script) ∙ read.0 in
    let p = err_from_is_err_and c.from_residual-in_err-make_calls-in-Sweep.result c.from_residual-in_err-make_calls-in-Sweep.ensures.1 in
    rw (p.1, p.2)
    (no_memory g.K.Sink.takes g.K.Sink.fails cluster c.args.pick lines (bad_sweep_line (sweep_lines_asked cluster lines)) none
    c.args.writer.now c.write_base.new.writer c.in_ok-write_base-in-Sweep.ensures.0 c.in_ok-write_base-in-Sweep.ensures.1)

pub returns-in_ok-make_calls-in-Sweep : goal.returns-in_ok-make_calls-in-Sweep
returns-in_ok-make_calls-in-Sweep g c =
    let takes = g.K.Sink.takes in
    let fails = g.K.Sink.fails in
    let cluster = c.args.cluster in
    let lines = script_lines c.args.input.now in
    let asked = sweep_lines_asked cluster lines in
    let read = rw c.in-Sweep.is at c.in_ok-number.ensures in
    let same = ap (sweep_lines_asked cluster) c.cut.ensures.script in
    let none = ap bad_sweep_line (sym same) ∙ read.0 in
    let opens = c.in_ok-sim-in-Sweep.ensures.seen in
    let base = c.make_calls.new.sim.seen in
    let calls = c.as_slice.ensures.value ∙ read.1 ∙ ap (λ ls. calls_of (base_lines ls)) same in
    let behind = c.in_ok-make_calls-in-Sweep.ensures.sim ∙ ap (λ (s : SimView). sim_after s c.as_slice.result.now) opens
    ∙ ap (sim_after (opened cluster c.args.pick)) calls in
    let planned = map plan_text c.as_slice-in-Sweep.result.now in
    let plans = ap (map plan_text) c.as_slice-in-Sweep.ensures.value ∙ read.2 ∙ ap plans_of same in
    let keeps = c.in_ok-make_calls-in-Sweep.ensures.cluster ∙ ap (λ (v : SimView). v.cluster) opens in
    plans_behind takes fails cluster c.args.pick lines (bad_sweep_line asked) none base planned behind plans c.sweep_plans.result
    c.args.writer.now c.write_base.new.writer c.sweep_plans.new.writer c.in_ok-write_base-in-Sweep.ensures.0
    (subst (λ (k : ClusterView). Wrote takes fails c.sweep_plans.result
    (plans_json k base planned (why_not_swept base planned)) (plans_end base planned) c.write_base.new.writer c.sweep_plans.new.writer)
    keeps c.sweep_plans.ensures)
