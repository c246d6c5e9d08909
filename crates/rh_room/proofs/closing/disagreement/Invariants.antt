use Rattle.std.proofs.Common.{◌<◌, All}
use Rattle.rh_room.specs.Closing.{Agrees}
use Rattle.rh_room.proofs.closing.disagreement.Given as goal

abbrev pub invariant-loop-session : goal.invariant-loop-session
invariant-loop-session l = All (λ p. p.session < l.session → Agrees l.log p) l.passes
