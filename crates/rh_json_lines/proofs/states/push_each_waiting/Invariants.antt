use Rattle.std.proofs.Common.{length}
use Rattle.rh_state.specs.StateView.{waiting_at}
use Rattle.rh_state.specs.Stored.{read}
use Rattle.rh_state.proofs.ListWalks.{left_of}
use Rattle.rh_json_text.specs.Json.{behind_comma}
use Rattle.rh_json_lines.specs.Reports.{waiting_json}
use Rattle.rh_calls.proofs.Walks.{IsWalked}
use Rattle.rh_json_lines.proofs.states.push_each_waiting.Given as goal

abbrev pub invariant-waiting : goal.invariant-waiting
invariant-waiting l =
    IsWalked (read l.state).cluster (behind_comma (waiting_json (read l.state) l.node)) (waiting_at (read l.state) l.node)
    l.fn.out.items l.out.items l.next

abbrev pub decreases-waiting : goal.decreases-waiting
decreases-waiting l = length (left_of (waiting_at (read l.state) l.node) l.next)
