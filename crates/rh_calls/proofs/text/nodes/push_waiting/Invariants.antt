use Rattle.std.proofs.Common.{length}
use Rattle.std.specs.String.{string_bytes}
use Rattle.rh_state.specs.StateView.{waiting_at}
use Rattle.rh_state.specs.Stored.{read}
use Rattle.rh_state.proofs.ListWalks.{left_of}
use Rattle.rh_calls.specs.Report.{waiting_line}
use Rattle.rh_calls.proofs.Walks.{IsWalked}
use Rattle.rh_calls.proofs.text.nodes.push_waiting.Given as goal

abbrev pub invariant-waiting : goal.invariant-waiting
invariant-waiting l =
    IsWalked (read l.state).cluster (waiting_line (read l.state) l.node) (waiting_at (read l.state) l.node)
    (string_bytes l.fn.text) (string_bytes l.text) l.next

abbrev pub decreases-waiting : goal.decreases-waiting
decreases-waiting l = length (left_of (waiting_at (read l.state) l.node) l.next)
