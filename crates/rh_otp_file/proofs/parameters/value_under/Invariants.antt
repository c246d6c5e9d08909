use Rattle.std.proofs.Common.{◌≡◌, map, drop}
use Rattle.rh_base.specs.Tree.{tree_of}
use Rattle.rh_cluster.specs.Values.{value_under}
use Rattle.rh_otp_file.proofs.parameters.value_under.Given as goal

abbrev pub invariant-loop-term : goal.invariant-loop-term
invariant-loop-term l = value_under l.key (map tree_of (drop l.term-index l.terms)) ≡ value_under l.key (map tree_of l.terms)
