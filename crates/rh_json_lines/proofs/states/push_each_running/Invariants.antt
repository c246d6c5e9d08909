use Rattle.std.proofs.Common.{length}
use Rattle.rh_state.specs.StateView.{running_at}
use Rattle.rh_state.specs.Stored.{read}
use Rattle.rh_state.proofs.ListWalks.{left_of}
use Rattle.rh_json_text.specs.Json.{behind_comma}
use Rattle.rh_json_lines.specs.Reports.{running_json}
use Rattle.rh_calls.proofs.Walks.{IsWalked}
use Rattle.rh_json_lines.proofs.states.push_each_running.Given as goal

abbrev pub invariant-running : goal.invariant-running
invariant-running l =
    IsWalked (read l.state).cluster (behind_comma (running_json (read l.state) l.node)) (running_at (read l.state) l.node)
    l.fn.out.items l.out.items l.next

abbrev pub decreases-running : goal.decreases-running
decreases-running l = length (left_of (running_at (read l.state) l.node) l.next)
