use Rattle.std.proofs.Common.{◌≡◌, map}
use Rattle.std.specs.List.{filter, range_with_len}
use Rattle.rh_model.specs.ClusterView.{numbered}
use Rattle.rh_state.specs.Stored.{read}
use Rattle.rh_why.specs.Reasons.{is_awaited}
use Rattle.rh_why.proofs.nodes.missing_nodes.Given as goal

abbrev pub invariant-loop-number : goal.invariant-loop-number
invariant-loop-number l = l.nodes.items ≡ filter (is_awaited (read l.fn.state) l.fn.node) (map numbered (range_with_len 0 l.number))
