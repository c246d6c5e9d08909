use Rattle.std.proofs.Common.{[], sym, subst, ◌∙◌, arith}
use Rattle.std.proofs.lemmas.Result.{err_from_is_err_and}
use Rattle.rh_devices.specs.declared.fault.WriteFault.{WriteFault}
use Rattle.rh_devices.specs.Devices.{WroteFront}
use Rattle.rh_verify.proofs.Stray.{one_more, none_more, breaks_off}
use Rattle.rh_verify.proofs.blocks.write_stray.Goals as goal
use Rattle.rh_verify.proofs.blocks.write_stray.Goals.{then-is_expectation+in_ok-block+in_ok-write_text, else-is_expectation}

pub returns-in_err-write_text-clause-text : goal.returns-in_err-write_text-clause-text
returns-in_err-write_text-clause-text g c =
    let takes = g.K.Sink.takes in
    let fails = g.K.Sink.fails in
    let so_far = c.loop-place.invariant.text in
    let text = c.as_slice.result.now in
    let broke = c.in_err-write_text.ensures in
    let p = err_from_is_err_and c.from_residual-in_err-write_text.result c.from_residual-in_err-write_text.ensures.1 in
    rw (p.1, p.2)
    (breaks_off takes fails c.args.first c.args.lines.now c.loop-place.place _ c.loop-place-test.true c.args.writer.now c.loop-place.writer c.write_text.new.writer
    so_far.0 c.loop-place.count text so_far.1 so_far.2 so_far.3
    (sym c.is_expectation.ensures ∙ c.if-is_expectation.true) (c.as_slice.ensures.value ∙ c.in_ok-block.ensures) c.in_err-write_text.field-0.0
    (subst (λ (f : WriteFault). WroteFront takes fails f text c.loop-place.writer c.write_text.new.writer) (sym broke.only) (broke.front, broke.err)))

pub loop-place-preserved : goal.loop-place-preserved
loop-place-preserved g c =
    let takes = g.K.Sink.takes in
    let fails = g.K.Sink.fails in
    let so_far = c.loop-place.invariant.text in
    elim c.if-is_expectation.branch [
      | then-is_expectation+in_ok-block+in_ok-write_text w ↦
          rw (w.writer-is, w.count-is) (record {
            text = one_more takes fails c.args.first c.args.lines.now c.loop-place.place _ c.loop-place-test.true c.args.writer.now c.loop-place.writer
                w.write_text.new.writer so_far.0 c.loop-place.count w.as_slice.result.now so_far.1 so_far.2 so_far.3
                (sym c.is_expectation.ensures ∙ w.if-is_expectation.true) (w.as_slice.ensures.value ∙ w.in_ok-block.ensures) w.in_ok-write_text.ensures.whole;
            within = omega (arith, c.loop-place.invariant.within);
            watch = w.in_ok-write_text.ensures.ok;
          })
      | else-is_expectation w ↦
          rw (w.writer-is, w.count-is) (record {
            text = none_more takes fails c.args.first c.args.lines.now c.loop-place.place _ c.loop-place-test.true c.args.writer.now c.loop-place.writer
                c.loop-place.writer so_far.0 c.loop-place.count [] so_far.1 so_far.2 so_far.3 (sym c.is_expectation.ensures ∙ w.if-is_expectation.false);
            within = omega (arith, c.loop-place.invariant.within);
            watch = c.loop-place.invariant.watch;
          })
    ]
