use Rattle.std.proofs.Common.{◌≡◌, map, take}
use Rattle.std.specs.Prelude.{filter_map}
use Rattle.rh_base.specs.Tree.{tree_of}
use Rattle.rh_otp_file.specs.Distributed.{entry_of}
use Rattle.rh_otp_file.proofs.distributed.entries_of.Given as goal

abbrev pub invariant-loop-term : goal.invariant-loop-term
invariant-loop-term l = l.entries.items ≡ filter_map (entry_of l.cluster) (map tree_of (take l.term-index l.terms))
