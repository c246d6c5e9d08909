use Rattle.std.proofs.Common.{refl}
use Rattle.std.proofs.lemmas.Result.{err_from_is_err_and}
use Rattle.rh_otp_plans.proofs.Sweeps.{swept, not_swept}
use Rattle.rh_otp_plans.proofs.sweeping.sweep_plans.Goals as goal

pub returns-in_err-write_outcomes-in-Ok : goal.returns-in_err-write_outcomes-in-Ok
returns-in_err-write_outcomes-in-Ok g c =
    let none = swept c.args.base.now c.args.plans.now (g.C.Crew.workers c.args.crew.now) c.in-Ok.ensures.fine in
    let p = err_from_is_err_and c.from_residual.result c.from_residual.ensures.1 in
    rw (p.1, p.2, none) c.in_err-write_outcomes-in-Ok.ensures

pub returns-in_ok-write_outcomes-in-Ok : goal.returns-in_ok-write_outcomes-in-Ok
returns-in_ok-write_outcomes-in-Ok g c =
    let none = swept c.args.base.now c.args.plans.now (g.C.Crew.workers c.args.crew.now) c.in-Ok.ensures.fine in
    rw none (refl, c.in_ok-write_outcomes-in-Ok.ensures.0, c.in_ok-write_outcomes-in-Ok.ensures.1)

pub returns-in_err-write_sweep_fault-in_default : goal.returns-in_err-write_sweep_fault-in_default
returns-in_err-write_sweep_fault-in_default g c =
    let some = not_swept c.args.base.now c.args.plans.now (g.C.Crew.workers c.args.crew.now) c.in-Err.fault c.requires.workers c.in-Err.ensures.fault
    c.in_default.not-OutOfMemory in
    let p = err_from_is_err_and c.from_residual-in_err-write_sweep_fault-in_default.result c.from_residual-in_err-write_sweep_fault-in_default.ensures.1 in
    rw (p.1, p.2, some) c.in_err-write_sweep_fault-in_default.ensures

pub returns-in_ok-write_sweep_fault-in_default : goal.returns-in_ok-write_sweep_fault-in_default
returns-in_ok-write_sweep_fault-in_default g c =
    let some = not_swept c.args.base.now c.args.plans.now (g.C.Crew.workers c.args.crew.now) c.in-Err.fault c.requires.workers c.in-Err.ensures.fault
    c.in_default.not-OutOfMemory in
    rw some (refl, c.in_ok-write_sweep_fault-in_default.ensures.0, c.in_ok-write_sweep_fault-in_default.ensures.1)
