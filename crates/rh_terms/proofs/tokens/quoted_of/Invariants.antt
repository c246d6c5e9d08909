use Rattle.std.proofs.Common.{◌≡◌, length, false}
use Rattle.rh_terms.specs.Tokens.{quoted}
use Rattle.rh_terms.proofs.Joined.{with_bytes}
use Rattle.rh_terms.proofs.tokens.quoted_of.Given as goal

abbrev pub invariant-bytes : goal.invariant-bytes
invariant-bytes l = with_bytes l.content.items (quoted false l.quote l.rest) ≡ quoted false l.quote l.bytes

abbrev pub decreases-bytes : goal.decreases-bytes
decreases-bytes l = length l.rest
