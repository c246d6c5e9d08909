use Rattle.std.proofs.Common.{◌≡◌, All, take}
use Rattle.rh_room.specs.Closing.{Agrees}
use Rattle.rh_room.proofs.closing.disagreement_of.Given as goal

abbrev pub invariant-loop-pass : goal.invariant-loop-pass
invariant-loop-pass l = All (λ p. p.session ≡ l.session → Agrees l.log p) (take l.pass-index l.passes)
