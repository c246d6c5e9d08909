use Rattle.std.proofs.Common.{length}
use Rattle.std.specs.Option.{option_map}
use Rattle.rh_state.specs.Pairs.{app_of_pair}
use Rattle.rh_state.specs.StateView.{running_at}
use Rattle.rh_state.specs.Stored.{read}
use Rattle.rh_state.proofs.ListWalks.{left_of}
use Rattle.rh_keys.proofs.KeyCells.{IsPut}
use Rattle.rh_keys.proofs.parts.put_running.Given as goal

abbrev pub invariant-running : goal.invariant-running
invariant-running l = IsPut (read l.state).cluster l.node (running_at (read l.state) l.node) l.fn.at l.fn.cells l.end l.cells l.next

abbrev pub decreases-running : goal.decreases-running
decreases-running l = length (left_of (running_at (read l.state) l.node) (option_map (app_of_pair (read l.state).cluster l.node) l.next))
