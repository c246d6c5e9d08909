use Rattle.std.proofs.Common.{None, refl, ap}
use Rattle.std.proofs.lemmas.Result.{err_from_is_err_and}
use Rattle.rh_trail.specs.SimView.{SimView, state_of}
use Rattle.rh_app.specs.Histories.{history_text}
use Rattle.rh_app.proofs.OneOf.{history_fails}
use Rattle.rh_app.proofs.sessions.share_commands.Goals as goal

pub returns-in_err-closed : goal.returns-in_err-closed
returns-in_err-closed g c =
    let p = err_from_is_err_and c.from_residual.result c.from_residual.ensures.1 in
    rw (p.1, p.2)
    (history_fails g.K.Sink.takes g.K.Sink.fails c.args.cluster.now c.args.pick c.args.commands.now c.in_err-closed.field-0.0 c.args.writer.now
    c.requires.writer)

-- the history that was made is one of those that may be told
pub returns-in_err-write_history : goal.returns-in_err-write_history
returns-in_err-write_history g c =
    let p = err_from_is_err_and c.from_residual-in_err-write_history.result c.from_residual-in_err-write_history.ensures.1 in
    let log = c.in_ok-closed.closed.log.items in
    let text = history_text c.args.cluster.now log (state_of c.in_ok-closed.closed.sim.seen) in
    let is = ap (λ (v : SimView). history_text c.args.cluster.now log (state_of v)) c.in_ok-closed.ensures.sim in
    rw (p.1, p.2)
    (text, None, (log, c.in_ok-closed.ensures.history, is, refl), c.in_err-write_history.ensures)

pub returns : goal.returns
returns g c =
    let log = c.in_ok-closed.closed.log.items in
    let text = history_text c.args.cluster.now log (state_of c.in_ok-closed.closed.sim.seen) in
    let is = ap (λ (v : SimView). history_text c.args.cluster.now log (state_of v)) c.in_ok-closed.ensures.sim in (
      text,
      None,
      (log, c.in_ok-closed.ensures.history, is, refl),
      (refl, c.in_ok-write_history.ensures.0, c.in_ok-write_history.ensures.1),
    )
