use Rattle.std.proofs.Common.{arith}
use Rattle.std.proofs.lemmas.Bool.Decides.{nat_tests}
use Rattle.rh_terms.proofs.Cut.{tail_text}
use Rattle.rh_terms.proofs.tokens.word_of.Goals as goal

pub quoted_atom_of-requires : goal.quoted_atom_of-requires
quoted_atom_of-requires c = tail_text c.args.bytes.now 39 (omega arith) (grind (arith, nat_tests)) (omega arith) c.requires

pub text_of-requires : goal.text_of-requires
text_of-requires c = tail_text c.args.bytes.now 34 (omega arith) (grind (arith, nat_tests)) (omega arith) c.requires
