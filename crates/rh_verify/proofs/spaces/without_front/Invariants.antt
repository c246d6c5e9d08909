use Rattle.std.proofs.Common.{◌≡◌, length}
use Rattle.rh_verify.specs.Spaces.{without_front}
use Rattle.rh_verify.proofs.spaces.without_front.Given as goal

abbrev pub invariant-loop-rest : goal.invariant-loop-rest
invariant-loop-rest l = without_front l.line ≡ without_front l.rest

abbrev pub decreases-loop-rest : goal.decreases-loop-rest
decreases-loop-rest l = length l.rest
