use Rattle.std.proofs.Common.{sym, subst, arith}
use Rattle.std.proofs.lemmas.List.Elements.{All-get_or}
use Rattle.std.proofs.lemmas.Result.{err_from_is_err_and}
use Rattle.rh_state.specs.Stored.{read}
use Rattle.rh_explore_text.specs.FoundText.{CanCome}
use Rattle.rh_explore_text.proofs.VerdictLines.{one_more, breaks, all_written}
use Rattle.rh_explore_text.proofs.json.write_verdicts.Goals as goal

pub write_verdict-requires-clause-come : goal.write_verdict-requires-clause-come
write_verdict-requires-clause-come g c =
    subst (CanCome c.args.pick (read c.args.base.now)) (sym c.index-verdicts-place.is)
    (All-get_or (CanCome c.args.pick (read c.args.base.now)) c.args.verdicts.now c.loop-place.place c.index-verdicts-place.result c.loop-place-test.true
    c.requires.come)

pub returns-in_err-write_verdict : goal.returns-in_err-write_verdict
returns-in_err-write_verdict g c =
    let p = err_from_is_err_and c.from_residual.result c.from_residual.ensures.1 in
    rw (p.1, p.2)
    (breaks g.K.Sink.takes c.args.cluster.now c.args.pick (read c.args.base.now) c.args.verdicts.now c.loop-place.place c.index-verdicts-place.result
    c.index-verdicts-place.is c.loop-place-test.true c.args.writer.now c.loop-place.writer c.loop-place.invariant.written g.K.Sink.fails c.in_err-write_verdict.field-0.0
    c.write_verdict.new.writer c.in_err-write_verdict.ensures)

pub loop-place-preserved : goal.loop-place-preserved
loop-place-preserved g c = record {
  written = one_more g.K.Sink.takes c.args.cluster.now c.args.pick (read c.args.base.now) c.args.verdicts.now c.loop-place.place c.index-verdicts-place.result
      c.index-verdicts-place.is c.loop-place-test.true c.args.writer.now c.loop-place.writer c.loop-place.invariant.written c.write_verdict.new.writer
      c.in_ok-write_verdict.ensures.0;
  watch = c.in_ok-write_verdict.ensures.1;
}

pub returns : goal.returns
returns g c = (
  all_written g.K.Sink.takes c.args.cluster.now c.args.pick (read c.args.base.now) c.args.verdicts.now c.loop-place.place c.args.writer.now
      c.loop-place.writer (omega (arith, c.loop-place-test.false)) c.loop-place.invariant.written,
  c.loop-place.invariant.watch,
)
