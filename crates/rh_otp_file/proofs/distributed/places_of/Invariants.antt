use Rattle.std.proofs.Common.{◌≡◌, map, take}
use Rattle.rh_base.specs.Tree.{tree_of}
use Rattle.rh_otp_file.specs.Distributed.{place_of}
use Rattle.rh_otp_file.proofs.distributed.places_of.Given as goal

abbrev pub invariant-loop-term : goal.invariant-loop-term
invariant-loop-term l = l.places.items ≡ map (place_of l.cluster) (map tree_of (take l.term-index l.terms))
