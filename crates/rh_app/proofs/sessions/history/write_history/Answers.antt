use Rattle.std.proofs.Common.{◌++◌, sym, append_assoc, codes}
use Rattle.std.specs.List.{flat_map}
use Rattle.std.proofs.lemmas.Result.{err_from_is_err_and}
use Rattle.rh_state.specs.Stored.{read}
use Rattle.rh_calls.specs.Report.{report_text}
use Rattle.rh_trail.specs.SimView.{state_of}
use Rattle.rh_app.specs.Histories.{entry_text}
use Rattle.rh_devices.proofs.Passing.{fault_before}
use Rattle.rh_run.proofs.Pieces.{broke_behind}
use Rattle.rh_app.proofs.sessions.history.write_history.Goals as goal

pub returns-in_err-write_entries : goal.returns-in_err-write_entries
returns-in_err-write_entries g c =
    let takes = g.K.Sink.takes in
    let fails = g.K.Sink.fails in
    let entries = flat_map (entry_text c.args.cluster.now) c.as_slice.result.now in
    let final = report_text (state_of c.args.closed.now.sim.seen) in
    let p = err_from_is_err_and c.from_residual.result c.from_residual.ensures.1 in
    rw (p.1, p.2, sym c.as_slice.ensures.value, append_assoc entries (codes "final\n") final)
    (fault_before takes fails c.in_err-write_entries.field-0.0 c.args.writer.now c.write_entries.new.writer entries (codes "final\n" ++ final) c.in_err-write_entries.ensures)

pub returns : goal.returns
returns g c =
    let takes = g.K.Sink.takes in
    let fails = g.K.Sink.fails in
    let entries = flat_map (entry_text c.args.cluster.now) c.as_slice.result.now in
    let final = report_text (read c.state.result.now) in
    rw (sym c.as_slice.ensures.value, sym c.state.ensures.state, append_assoc entries (codes "final\n") final)
    (broke_behind takes fails c.write_final.result c.args.writer.now c.write_entries.new.writer c.write_final.new.writer entries
    (codes "final\n" ++ final) c.in_ok-write_entries.ensures.0 c.write_final.ensures)
