use Rattle.std.proofs.Common.{map, subst}
use Rattle.std.proofs.lemmas.Result.{err_from_is_err_and}
use Rattle.rh_devices.proofs.Passing.{fault_before, fault_behind, nothing_yet}
use Rattle.rh_json_lines.specs.ClusterLines.{cluster_line}
use Rattle.rh_otp_sim.specs.Sim.{LiveSimView, opened}
use Rattle.rh_run.proofs.Turns.{wrote_behind}
use Rattle.rh_run.specs.RunText.{Wrote}
use Rattle.rh_script.specs.Lines.{raw_lines, content}
use Rattle.rh_script.specs.SweepLines.{sweep_lines_asked, bad_sweep_line}
use Rattle.rh_otp_plans.specs.LiveSweep.{lines_end}
use Rattle.rh_otp_plans.specs.LiveSweepJson.{lines_json}
use Rattle.rh_otp_plans.proofs.json.sweep_script.Goals as goal

pub returns-in_err-write_cluster : goal.returns-in_err-write_cluster
returns-in_err-write_cluster g c =
    let p = err_from_is_err_and c.from_residual.result c.from_residual.ensures.1 in
    let lines = map content (raw_lines c.args.script.now) in
    let bad = bad_sweep_line (sweep_lines_asked c.args.cluster lines) in
    rw (p.1, p.2)
    (fault_before g.K.Sink.takes g.K.Sink.fails c.in_err-write_cluster.field-0.0 c.args.writer.now c.write_cluster.new.writer
    (cluster_line c.args.cluster) (lines_json (opened c.args.cluster c.args.files.items c.args.order) lines bad) c.in_err-write_cluster.ensures)

pub returns : goal.returns
returns g c =
    let takes = g.K.Sink.takes in
    let fails = g.K.Sink.fails in
    let lines = map content (raw_lines c.args.script.now) in
    let asked = sweep_lines_asked c.args.cluster lines in
    let bad = bad_sweep_line asked in
    let sim : LiveSimView = opened c.args.cluster c.args.files.items c.args.order in
    let swept : Wrote takes fails c.sweep_lines.result (lines_json sim lines bad) (lines_end sim asked bad) c.write_cluster.new.writer c.sweep_lines.new.writer =
    subst (λ (s : LiveSimView). Wrote takes fails c.sweep_lines.result (lines_json s lines (bad_sweep_line (sweep_lines_asked s.cluster lines)))
    (lines_end s (sweep_lines_asked s.cluster lines) (bad_sweep_line (sweep_lines_asked s.cluster lines))) c.write_cluster.new.writer c.sweep_lines.new.writer)
    c.in_ok-sim.ensures c.sweep_lines.ensures in
    wrote_behind takes fails c.sweep_lines.result c.args.writer.now c.write_cluster.new.writer c.sweep_lines.new.writer
    (cluster_line c.args.cluster) (lines_json sim lines bad) (lines_end sim asked bad) c.in_ok-write_cluster.ensures.0 swept
