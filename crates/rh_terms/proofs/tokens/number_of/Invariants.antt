use Rattle.std.proofs.Common.{take}
use Rattle.rh_terms.specs.Tokens.{number, IsAtMost}
use Rattle.rh_terms.proofs.tokens.number_of.Given as goal

abbrev pub invariant-loop-d : goal.invariant-loop-d
invariant-loop-d l = IsAtMost l.value (number (take l.d-index l.digits))
