use Rattle.std.proofs.Common.{◌≡◌, replicate}
use Rattle.rh_otp_node.specs.Live.{never_begun}
use Rattle.rh_otp_system.specs.declared.cell.Cell.TheVariants.{Node}
use Rattle.rh_otp_sim.proofs.sim.first_cells.Given as goal

abbrev pub invariant-loop-number : goal.invariant-loop-number
invariant-loop-number l = l.cells.items ≡ replicate l.number (Node never_begun)
