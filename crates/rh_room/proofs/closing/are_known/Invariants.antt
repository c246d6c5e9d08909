use Rattle.std.proofs.Common.{All, take}
use Rattle.rh_room.specs.Legal.{IsSession}
use Rattle.rh_room.proofs.closing.are_known.Given as goal

abbrev pub invariant-loop-pass : goal.invariant-loop-pass
invariant-loop-pass l = All (λ p. IsSession l.sessions p.session) (take l.pass-index l.passes)
