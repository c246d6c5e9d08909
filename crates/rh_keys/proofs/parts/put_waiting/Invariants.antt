use Rattle.std.proofs.Common.{length}
use Rattle.std.specs.Option.{option_map}
use Rattle.rh_state.specs.Pairs.{app_of_pair}
use Rattle.rh_state.specs.StateView.{waiting_at}
use Rattle.rh_state.specs.Stored.{read}
use Rattle.rh_state.proofs.ListWalks.{left_of}
use Rattle.rh_keys.proofs.KeyCells.{IsPut}
use Rattle.rh_keys.proofs.parts.put_waiting.Given as goal

abbrev pub invariant-waiting : goal.invariant-waiting
invariant-waiting l = IsPut (read l.state).cluster l.node (waiting_at (read l.state) l.node) l.fn.at l.fn.cells l.end l.cells l.next

abbrev pub decreases-waiting : goal.decreases-waiting
decreases-waiting l = length (left_of (waiting_at (read l.state) l.node) (option_map (app_of_pair (read l.state).cluster l.node) l.next))
