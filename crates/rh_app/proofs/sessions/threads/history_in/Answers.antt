use Rattle.std.proofs.Common.{sym}
use Rattle.std.proofs.lemmas.Result.{err_from_is_err_and}
use Rattle.rh_app.proofs.sessions.threads.history_in.Goals as goal

-- memory is wanted where the room closed
pub returns-in_err-are_interleaved-clause-fault : goal.returns-in_err-are_interleaved-clause-fault
returns-in_err-are_interleaved-clause-fault c =
    let p = err_from_is_err_and c.from_residual.result c.from_residual.ensures.1 in
    rw (p.1, p.2)
    (record { all = c.in-Ok.ensures.all; agree = rw (sym c.in-Ok.ensures.log) c.in-Ok.ensures.agree; base = c.in-Ok.ensures.base })
