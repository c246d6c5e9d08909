use Rattle.std.proofs.Common.{◌≡◌, replicate}
use Rattle.rh_state.proofs.table.Table.filled_with.Given as goal

abbrev pub invariant-loop : goal.invariant-loop
invariant-loop g l = l.cells.items ≡ replicate l.counter l.value
