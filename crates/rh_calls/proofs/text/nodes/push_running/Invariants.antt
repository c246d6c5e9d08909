use Rattle.std.proofs.Common.{length}
use Rattle.std.specs.String.{string_bytes}
use Rattle.rh_state.specs.StateView.{running_at}
use Rattle.rh_state.specs.Stored.{read}
use Rattle.rh_state.proofs.ListWalks.{left_of}
use Rattle.rh_calls.specs.Report.{running_line}
use Rattle.rh_calls.proofs.Walks.{IsWalked}
use Rattle.rh_calls.proofs.text.nodes.push_running.Given as goal

abbrev pub invariant-running : goal.invariant-running
invariant-running l =
    IsWalked (read l.state).cluster (running_line (read l.state) l.node) (running_at (read l.state) l.node)
    (string_bytes l.fn.text) (string_bytes l.text) l.next

abbrev pub decreases-running : goal.decreases-running
decreases-running l = length (left_of (running_at (read l.state) l.node) l.next)
