use Rattle.std.proofs.Common.{◌≡◌, ◌+◌, length}
use Rattle.std.specs.List.{prefix_len}
use Rattle.rh_terms.specs.Bytes.{is_atom_byte}
use Rattle.rh_terms.proofs.tokens.name_len.Given as goal

abbrev pub invariant-bytes : goal.invariant-bytes
invariant-bytes l =
    record { count : l.count + prefix_len is_atom_byte l.rest ≡ prefix_len is_atom_byte l.bytes; length : l.count + length l.rest ≡ length l.bytes }

abbrev pub decreases-bytes : goal.decreases-bytes
decreases-bytes l = length l.rest
