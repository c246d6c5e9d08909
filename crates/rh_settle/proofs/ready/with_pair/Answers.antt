use Rattle.std.proofs.Common.{sym, ◌∙◌}
use Rattle.rh_state.specs.Stored.{read}
use Rattle.rh_settle.proofs.StartsMarked.{already_in, stays, not_local}
use Rattle.rh_settle.proofs.ready.with_pair.Goals.{else-has-via-then-has+then-not-has+else-starts, else-has-via-then-has+else-not-has, else-has-via-else-has}
use Rattle.rh_settle.proofs.ready.with_pair.Goals as goal

pub returns : goal.returns
returns c = λ n.
    let s = read c.args.state.now in
    let p = c.args.pair in
    elim c.else-has.branch [
      | else-has-via-then-has+then-not-has+else-starts w ↦ stays c.args.set n p.node _ (sym w.starts.ensures ∙ w.if-starts.false)
      | else-has-via-then-has+else-not-has w ↦ already_in c.args.set n p.node _ (sym w.has-then-has.ensures ∙ w.if-not-has.false)
      | else-has-via-else-has w ↦ stays c.args.set n p.node _
          (not_local s p.node p.app (sym (c.requires.local p.app c.requires.pair.app) ∙ sym c.has.ensures ∙ w.if-has.false))
    ]
