use Rattle.std.proofs.Common.{arith}
use Rattle.std.proofs.lemmas.List.Sums.{prefix_len-le-length}
use Rattle.rh_terms.specs.Bytes.{is_atom_byte}
use Rattle.rh_terms.proofs.Cut.{front_text, name_ascii}
use Rattle.rh_terms.proofs.tokens.name_of.Goals as goal

pub split_at-requires : goal.split_at-requires
split_at-requires c = omega (arith, prefix_len-le-length is_atom_byte c.args.bytes.now)

pub text_of_bytes-requires : goal.text_of_bytes-requires
text_of_bytes-requires c = rw (c.split_at.ensures.front, c.name_len-count.ensures) (front_text is_atom_byte (λ b e. name_ascii b e) c.args.bytes.now)
