use Rattle.std.proofs.Common.{refl, sym, subst, length, ◌≤◌, List, ℕ}
use Rattle.std.proofs.lemmas.Result.{err_from_is_err_and}
use Rattle.rh_devices.specs.Devices.{input_limit}
use Rattle.rh_run.specs.Programs.{IsInput}
use Rattle.rh_app.specs.Sessions.{MayGive, AskHistory}
use Rattle.rh_app.proofs.Ending.{not_shared, is_shared}
use Rattle.rh_run.proofs.Ending.{not_read}
use Rattle.rh_app.proofs.sessions.run_sessions.Goals as goal

pub returns-in_err-input : goal.returns-in_err-input
returns-in_err-input g c =
    let p = err_from_is_err_and c.from_residual.result c.from_residual.ensures.1 in
    rw (p.1, p.2)
    (not_read g.S.Source.gives g.S.Source.fails g.K.Sink.takes g.K.Sink.fails (MayGive c.args.pick) AskHistory c.args.reader.now c.read_input.new.reader
    c.in_err-input.field-0.0 c.args.writer.now c.requires.writer c.in_err-input.ensures.why)

pub returns-in_err-told : goal.returns-in_err-told
returns-in_err-told g c =
    let bytes = c.as_slice.result.now in
    let input : IsInput g.S.Source.gives c.args.reader.now c.read_input.new.reader bytes =
    subst (λ bs. IsInput g.S.Source.gives c.args.reader.now c.read_input.new.reader bs) (sym c.as_slice.ensures.value)
    (c.in_ok-input.ensures.bytes, c.in_ok-input.ensures.limit, c.in_ok-input.ensures.ok) in
    let p = err_from_is_err_and c.from_residual-in_err-told.result c.from_residual-in_err-told.ensures.1 in
    rw (p.1, p.2)
    (not_shared g.S.Source.gives g.S.Source.fails g.K.Sink.takes g.K.Sink.fails (MayGive c.args.pick) AskHistory c.args.reader.now c.read_input.new.reader
    c.in_err-told.field-0.0 bytes c.args.writer.now c.share_input.new.writer input c.in_err-told.ensures)

pub returns : goal.returns
returns g c =
    let bytes = c.as_slice.result.now in
    let input : IsInput g.S.Source.gives c.args.reader.now c.read_input.new.reader bytes =
    subst (λ bs. IsInput g.S.Source.gives c.args.reader.now c.read_input.new.reader bs) (sym c.as_slice.ensures.value)
    (c.in_ok-input.ensures.bytes, c.in_ok-input.ensures.limit, c.in_ok-input.ensures.ok) in
    rw c.ended.ensures
    (is_shared g.S.Source.gives g.S.Source.fails g.K.Sink.takes g.K.Sink.fails (MayGive c.args.pick) AskHistory c.args.reader.now c.read_input.new.reader
    c.in_ok-told.told bytes c.args.writer.now c.share_input.new.writer input c.in_ok-told.ensures)
