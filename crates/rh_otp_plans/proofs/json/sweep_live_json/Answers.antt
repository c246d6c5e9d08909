use Rattle.std.proofs.Common.{refl, sym, subst}
use Rattle.std.proofs.lemmas.Result.{err_from_is_err_and}
use Rattle.rh_run.specs.Programs.{IsInput, NoThreads}
use Rattle.rh_run.proofs.Ending.{not_read, not_written, is_written}
use Rattle.rh_otp_plans.specs.LiveSweep.{live_sweep_end}
use Rattle.rh_otp_plans.specs.LiveSweepJson.{live_sweep_json, OwesLiveSweepJson}
use Rattle.rh_otp_plans.proofs.json.sweep_live_json.Goals as goal

pub returns-in_err-input : goal.returns-in_err-input
returns-in_err-input g c =
    let p = err_from_is_err_and c.from_residual.result c.from_residual.ensures.1 in
    rw (p.1, p.2)
    (not_read g.S.Source.gives g.S.Source.fails g.K.Sink.takes g.K.Sink.fails (OwesLiveSweepJson c.args.order) NoThreads c.args.reader.now c.read_input.new.reader
    c.in_err-input.field-0.0 c.args.writer.now c.requires.writer c.in_err-input.ensures.why)

pub returns-in_err-told : goal.returns-in_err-told
returns-in_err-told g c =
    let bytes = c.as_slice.result.now in
    let input : IsInput g.S.Source.gives c.args.reader.now c.read_input.new.reader bytes =
    subst (λ bs. IsInput g.S.Source.gives c.args.reader.now c.read_input.new.reader bs) (sym c.as_slice.ensures.value)
    (c.in_ok-input.ensures.bytes, c.in_ok-input.ensures.limit, c.in_ok-input.ensures.ok) in
    let p = err_from_is_err_and c.from_residual-in_err-told.result c.from_residual-in_err-told.ensures.1 in
    rw (p.1, p.2)
    (not_written g.S.Source.gives g.S.Source.fails g.K.Sink.takes g.K.Sink.fails (OwesLiveSweepJson c.args.order) NoThreads c.args.reader.now c.read_input.new.reader
    c.in_err-told.field-0.0 bytes (live_sweep_json c.args.order bytes) (live_sweep_end c.args.order bytes) c.args.writer.now c.sweep_input.new.writer input (refl, refl) c.in_err-told.ensures)

pub returns : goal.returns
returns g c =
    let bytes = c.as_slice.result.now in
    let input : IsInput g.S.Source.gives c.args.reader.now c.read_input.new.reader bytes =
    subst (λ bs. IsInput g.S.Source.gives c.args.reader.now c.read_input.new.reader bs) (sym c.as_slice.ensures.value)
    (c.in_ok-input.ensures.bytes, c.in_ok-input.ensures.limit, c.in_ok-input.ensures.ok) in
    rw c.ended.ensures
    (is_written g.S.Source.gives g.S.Source.fails g.K.Sink.takes g.K.Sink.fails (OwesLiveSweepJson c.args.order) NoThreads c.args.reader.now c.read_input.new.reader
    c.in_ok-told.told bytes (live_sweep_json c.args.order bytes) c.args.writer.now c.sweep_input.new.writer input (refl, sym c.in_ok-told.ensures.0) (c.in_ok-told.ensures.1, c.in_ok-told.ensures.2))
