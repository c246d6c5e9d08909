use Rattle.std.proofs.Common.{arith}
use Rattle.std.proofs.lemmas.Result.{err_from_is_err_and}
use Rattle.rh_app.specs.Histories.{entry_text}
use Rattle.rh_run.proofs.Pieces.{goes_on, fails_midway}
use Rattle.rh_app.proofs.sessions.history.write_entries.Goals as goal

pub returns-in_err-write_entry : goal.returns-in_err-write_entry
returns-in_err-write_entry g c =
    let takes = g.K.Sink.takes in
    let fails = g.K.Sink.fails in
    let p = err_from_is_err_and c.from_residual.result c.from_residual.ensures.1 in
    rw (p.1, p.2)
    (fails_midway (entry_text c.args.cluster.now) c.args.log.now c.loop-entry.entry-index c.entry-item.result (omega arith) takes fails c.entry-item.is
    c.in_err-write_entry.field-0.0
    c.args.writer.now c.loop-entry.writer c.write_entry.new.writer
    c.loop-entry.invariant.written c.in_err-write_entry.ensures)

pub loop-entry-preserved : goal.loop-entry-preserved
loop-entry-preserved g c = record {
  written = goes_on (entry_text c.args.cluster.now) c.args.log.now c.loop-entry.entry-index c.entry-item.result (omega arith) g.K.Sink.takes c.entry-item.is
      c.args.writer.now c.loop-entry.writer c.write_entry.new.writer c.loop-entry.invariant.written c.in_ok-write_entry.ensures.0;
  watch = c.in_ok-write_entry.ensures.1;
}
