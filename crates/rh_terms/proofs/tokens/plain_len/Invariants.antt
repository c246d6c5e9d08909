use Rattle.std.proofs.Common.{◌≡◌, ◌+◌, length}
use Rattle.std.specs.List.{prefix_len}
use Rattle.rh_terms.specs.Tokens.{is_plain}
use Rattle.rh_terms.proofs.tokens.plain_len.Given as goal

abbrev pub invariant-bytes : goal.invariant-bytes
invariant-bytes l =
    record { count : l.count + prefix_len (is_plain l.quote) l.rest ≡ prefix_len (is_plain l.quote) l.bytes; length : l.count + length l.rest ≡ length l.bytes }

abbrev pub decreases-bytes : goal.decreases-bytes
decreases-bytes l = length l.rest
