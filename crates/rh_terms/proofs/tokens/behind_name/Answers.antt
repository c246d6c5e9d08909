use Rattle.std.proofs.Common.{arith}
use Rattle.std.proofs.lemmas.List.Sums.{prefix_len-le-length}
use Rattle.rh_terms.specs.Bytes.{is_atom_byte}
use Rattle.rh_terms.proofs.tokens.behind_name.Goals as goal

pub split_at-requires : goal.split_at-requires
split_at-requires c = omega (arith, prefix_len-le-length is_atom_byte c.args.bytes.now)
