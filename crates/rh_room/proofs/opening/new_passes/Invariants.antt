use Rattle.std.proofs.Common.{◌≡◌, map}
use Rattle.std.specs.List.{range_with_len}
use Rattle.rh_room.specs.Legal.{new_pass}
use Rattle.rh_room.proofs.opening.new_passes.Given as goal

abbrev pub invariant-loop-before : goal.invariant-loop-before
invariant-loop-before l = l.passes.items ≡ map new_pass (range_with_len 1 l.before)
