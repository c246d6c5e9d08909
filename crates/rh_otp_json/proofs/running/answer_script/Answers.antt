use Rattle.std.proofs.Common.{map}
use Rattle.std.proofs.lemmas.Result.{err_from_is_err_and}
use Rattle.rh_script.specs.Lines.{raw_lines, content}
use Rattle.rh_otp_sim.specs.Sim.{opened}
use Rattle.rh_devices.proofs.Passing.{fault_before}
use Rattle.rh_run.specs.RunText.{bad_line, lines_asked}
use Rattle.rh_run.proofs.Turns.{wrote_behind}
use Rattle.rh_json_lines.specs.ClusterLines.{cluster_line}
use Rattle.rh_otp_json.specs.LiveJson.{script_json}
use Rattle.rh_otp_json.proofs.running.answer_script.Goals as goal

pub returns-in_err-write_cluster : goal.returns-in_err-write_cluster
returns-in_err-write_cluster g c =
    let p = err_from_is_err_and c.from_residual.result c.from_residual.ensures.1 in
    let lines = map content (raw_lines c.args.script.now) in
    rw (p.1, p.2)
    (fault_before g.K.Sink.takes g.K.Sink.fails c.in_err-write_cluster.field-0.0 c.args.writer.now c.write_cluster.new.writer
    (cluster_line c.args.cluster) (script_json c.args.cluster (opened c.args.cluster c.args.files.items c.args.order) 1 lines) c.in_err-write_cluster.ensures)

pub returns : goal.returns
returns g c =
    let lines = map content (raw_lines c.args.script.now) in
    wrote_behind g.K.Sink.takes g.K.Sink.fails c.answer_opened.result c.args.writer.now c.write_cluster.new.writer c.answer_opened.new.writer
    (cluster_line c.args.cluster) (script_json c.args.cluster (opened c.args.cluster c.args.files.items c.args.order) 1 lines) (bad_line 1 (lines_asked c.args.cluster lines))
    c.in_ok-write_cluster.ensures.0 c.answer_opened.ensures
