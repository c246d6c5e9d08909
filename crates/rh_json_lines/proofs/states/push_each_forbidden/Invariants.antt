use Rattle.std.proofs.Common.{◌≡◌, ◌++◌, map, filter, not}
use Rattle.std.specs.List.{flat_map, range_with_len}
use Rattle.rh_model.specs.ClusterView.{app_numbered}
use Rattle.rh_state.specs.Stored.{read}
use Rattle.rh_state.specs.StateView.{is_allowed}
use Rattle.rh_json_lines.specs.ClusterLines.{app_json}
use Rattle.rh_json_text.specs.Json.{behind_comma}
use Rattle.rh_json_lines.proofs.states.push_each_forbidden.Given as goal

abbrev pub invariant-loop-number : goal.invariant-loop-number
invariant-loop-number l =
    l.out.items ≡ l.fn.out.items ++ flat_map (behind_comma (app_json (read l.fn.state).cluster))
    (filter (λ a. not (is_allowed (read l.fn.state) l.fn.node a)) (map app_numbered (range_with_len 0 l.number)))
