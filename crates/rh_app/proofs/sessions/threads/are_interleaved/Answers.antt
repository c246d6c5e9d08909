use Rattle.std.proofs.Common.{refl, arith}
use Rattle.rh_app.proofs.Interleavings.{everywhere}
use Rattle.rh_app.proofs.sessions.threads.are_interleaved.Goals as goal

pub returns : goal.returns
returns c = (
  (λ is. everywhere c.args.commands.now c.args.log.now c.requires.commands c.requires.log c.loop-before.before
      (omega (arith, c.loop-before-test.false)) c.loop-before.invariant),
  (λ all. refl),
)
