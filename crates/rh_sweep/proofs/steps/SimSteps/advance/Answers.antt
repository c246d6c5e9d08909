use Rattle.std.proofs.Common.{List}
use Rattle.rh_rules.specs.declared.notice.Notice.{Notice}
use Rattle.rh_trail.specs.SimView.{Held}
use Rattle.rh_sweep.proofs.Trying.{told-there, went-further}
use Rattle.rh_sweep.proofs.steps.SimSteps.advance.Goals as goal

pub returns-in-Ok-clause-done : goal.returns-in-Ok-clause-done
returns-in-Ok-clause-done c = λ base s on room.
    let t : Held = c.args.self.now in
    let u : Held = c.step.new.self in
    let ns : List Notice = c.in-Ok.told.items in (
      told-there base t u s c.args.event ns on c.in-Ok.ensures.done,
      went-further base t u s c.args.event ns on c.in-Ok.ensures.done c.in-Ok.ensures.chain c.in-Ok.ensures.records,
    )
