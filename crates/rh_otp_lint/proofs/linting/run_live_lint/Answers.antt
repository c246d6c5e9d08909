use Rattle.std.proofs.Common.{sym, subst, List, ℕ}
use Rattle.std.proofs.lemmas.Result.{err_from_is_err_and}
use Rattle.rh_devices.specs.declared.fault.WriteFault.{WriteFault}
use Rattle.rh_devices.specs.Devices.{WroteFront}
use Rattle.rh_run.specs.Programs.{IsInput, NoThreads}
use Rattle.rh_run.proofs.Ending.{not_read, not_written}
use Rattle.rh_otp_lint.specs.LiveLint.{OwesLiveLint}
use Rattle.rh_otp_lint.proofs.linting.run_live_lint.Goals as goal

pub returns-in_err-input : goal.returns-in_err-input
returns-in_err-input g c =
    let p = err_from_is_err_and c.from_residual.result c.from_residual.ensures.1 in
    rw (p.1, p.2)
    (not_read g.S.Source.gives g.S.Source.fails g.K.Sink.takes g.K.Sink.fails (OwesLiveLint c.args.manner c.args.order) NoThreads
    c.args.reader.now c.read_input.new.reader c.in_err-input.field-0.0 c.args.writer.now c.requires.writer c.in_err-input.ensures.why)

pub returns-in_err-write_text-in-Ok : goal.returns-in_err-write_text-in-Ok
returns-in_err-write_text-in-Ok g c =
    let takes = g.K.Sink.takes in
    let fails = g.K.Sink.fails in
    let bytes = c.as_slice.result.now in
    let text = c.as_slice-in-Ok.result.now in
    let input : IsInput g.S.Source.gives c.args.reader.now c.read_input.new.reader bytes =
    subst (λ bs. IsInput g.S.Source.gives c.args.reader.now c.read_input.new.reader bs) (sym c.as_slice.ensures.value)
    (c.in_ok-input.ensures.bytes, c.in_ok-input.ensures.limit, c.in_ok-input.ensures.ok) in
    let owes = subst (λ (t : List ℕ). OwesLiveLint c.args.manner c.args.order bytes t c.in-Ok.told)
    (sym c.as_slice-in-Ok.ensures.value) c.in-Ok.ensures in
    let broke = c.in_err-write_text-in-Ok.ensures in
    let p = err_from_is_err_and c.from_residual-in_err-write_text-in-Ok.result c.from_residual-in_err-write_text-in-Ok.ensures.1 in
    rw (p.1, p.2)
    (not_written g.S.Source.gives g.S.Source.fails takes fails (OwesLiveLint c.args.manner c.args.order) NoThreads
    c.args.reader.now c.read_input.new.reader c.in_err-write_text-in-Ok.field-0.0 bytes text c.in-Ok.told c.args.writer.now
    c.write_text.new.writer input owes
    (subst (λ (f : WriteFault). WroteFront takes fails f text c.args.writer.now c.write_text.new.writer)
    (sym broke.only) (broke.front, broke.err)))
