use Rattle.std.proofs.Common.{◌≡◌, ◌++◌, map, filter, not}
use Rattle.std.specs.List.{flat_map, range_with_len}
use Rattle.rh_model.specs.ClusterView.{app_numbered}
use Rattle.rh_state.specs.Stored.{read}
use Rattle.rh_state.specs.StateView.{standing_of}
use Rattle.rh_rules.specs.Course.{is_local}
use Rattle.rh_json_lines.specs.Reports.{standing_json}
use Rattle.rh_json_text.specs.Json.{behind_comma}
use Rattle.rh_json_lines.proofs.reports.push_each_distributed.Given as goal

abbrev pub invariant-loop-number : goal.invariant-loop-number
invariant-loop-number l =
    l.out.items ≡ l.fn.out.items ++ flat_map (behind_comma (λ a. standing_json (read l.fn.state).cluster a (standing_of (read l.fn.state) a)))
    (filter (λ a. not (is_local (read l.fn.state).cluster a)) (map app_numbered (range_with_len 0 l.number)))
