use Rattle.std.proofs.Common.{subst}
use Rattle.std.proofs.lemmas.Result.{err_from_is_err_and}
use Rattle.rh_model.specs.ClusterView.{ClusterView}
use Rattle.rh_script.specs.Lines.{script_lines}
use Rattle.rh_devices.specs.Devices.{Passed, WroteFront}
use Rattle.rh_devices.proofs.Passing.{fault_before}
use Rattle.rh_run.proofs.Pieces.{broke_behind}
use Rattle.rh_json.specs.SweepJson.{base_json}
use Rattle.rh_explore_text.specs.Findings.{searched_json}
use Rattle.rh_explore_text.proofs.json.write_all.Goals as goal

pub returns-in_err-write_base : goal.returns-in_err-write_base
returns-in_err-write_base g c =
    let takes = g.K.Sink.takes in
    let fails = g.K.Sink.fails in
    let it = c.args.it.now in
    let lines = script_lines c.args.input.now in
    let fault = c.in_err-write_base.field-0.0 in
    let p = err_from_is_err_and c.from_residual.result c.from_residual.ensures.1 in
    rw (p.1, p.2)
    (fault_before takes fails fault c.args.writer.now c.write_base.new.writer (base_json it.sim.seen.cluster c.args.pick lines) (searched_json it c.args.pick)
    (subst (λ (k : ClusterView). WroteFront takes fails fault (base_json k c.args.pick lines) c.args.writer.now c.write_base.new.writer)
    c.cluster.ensures c.in_err-write_base.ensures))

pub returns : goal.returns
returns g c =
    let takes = g.K.Sink.takes in
    let fails = g.K.Sink.fails in
    let it = c.args.it.now in
    let lines = script_lines c.args.input.now in
    broke_behind takes fails c.write_searched.result c.args.writer.now c.write_base.new.writer c.write_searched.new.writer
    (base_json it.sim.seen.cluster c.args.pick lines) (searched_json it c.args.pick)
    (subst (λ (k : ClusterView). Passed takes c.args.writer.now.inner c.write_base.new.writer.inner (base_json k c.args.pick lines))
    c.cluster.ensures c.in_ok-write_base.ensures.0)
    c.write_searched.ensures
