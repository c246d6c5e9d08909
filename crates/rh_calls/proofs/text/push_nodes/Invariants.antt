use Rattle.std.proofs.Common.{◌≡◌, ◌++◌, map}
use Rattle.std.specs.List.{flat_map, range_with_len}
use Rattle.std.specs.String.{string_bytes}
use Rattle.rh_model.specs.ClusterView.{numbered}
use Rattle.rh_state.specs.Stored.{read}
use Rattle.rh_calls.specs.Report.{node_lines}
use Rattle.rh_calls.proofs.text.push_nodes.Given as goal

abbrev pub invariant-loop-number : goal.invariant-loop-number
invariant-loop-number l =
    string_bytes l.text ≡ string_bytes l.fn.text ++ flat_map (node_lines (read l.fn.state)) (map numbered (range_with_len 0 l.number))
