use Rattle.std.proofs.Common.{◌≡◌, length, false}
use Rattle.rh_terms.specs.Tokens.{quoted}
use Rattle.rh_terms.specs.Kept.{behind}
use Rattle.rh_terms.proofs.tokens.behind_quoted.Given as goal

abbrev pub invariant-bytes : goal.invariant-bytes
invariant-bytes l = behind (quoted false l.quote l.rest) ≡ behind (quoted false l.quote l.bytes)

abbrev pub decreases-bytes : goal.decreases-bytes
decreases-bytes l = length l.rest
