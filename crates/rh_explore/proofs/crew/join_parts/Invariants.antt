use Rattle.std.proofs.Common.{◌≡◌, ◌++◌, List, Result, IsOk, All, Global, deque_len}
use Rattle.std.specs.List.{flat_map}
use Rattle.std.specs.declared.collections.VecDeque.{VecDeque}
use Rattle.rh_base.specs.declared.memory.OutOfMemory.{OutOfMemory}
use Rattle.rh_explore.specs.declared.leads.Expansion.{Expansion}
use Rattle.rh_explore.specs.Families.{part_items}
use Rattle.rh_explore.proofs.crew.join_parts.Given as goal

abbrev pub invariant-parts : goal.invariant-parts
invariant-parts l =
    (done : List (Result (VecDeque Expansion Global) OutOfMemory)) × (l.fn.parts.items ≡ done ++ l.rest.items) × All IsOk done × (l.all.items ≡ flat_map part_items done)

abbrev pub decreases-parts : goal.decreases-parts
decreases-parts l = deque_len l.rest
