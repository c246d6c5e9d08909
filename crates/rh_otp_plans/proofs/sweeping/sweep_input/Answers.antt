use Rattle.std.proofs.lemmas.Result.{err_from_is_err_and}
use Rattle.rh_devices.proofs.Passing.{nothing_yet}
use Rattle.rh_otp_plans.specs.LiveSweep.{live_sweep_text}
use Rattle.rh_otp_plans.proofs.sweeping.sweep_input.Goals as goal

pub returns-in_err-files-in-Ok : goal.returns-in_err-files-in-Ok
returns-in_err-files-in-Ok g c =
    let p = err_from_is_err_and c.from_residual-in_err-files-in-Ok.result c.from_residual-in_err-files-in-Ok.ensures.1 in
    rw (p.1, p.2)
    (nothing_yet g.K.Sink.takes g.K.Sink.fails c.args.writer.now.inner (live_sweep_text c.args.order c.args.input.now), c.requires.writer)
