use Rattle.std.proofs.Common.{◌≡◌, map}
use Rattle.std.specs.List.{flat_map, range_with_len}
use Rattle.rh_model.specs.ClusterView.{app_numbered}
use Rattle.rh_state.specs.Stored.{read}
use Rattle.rh_outcomes.specs.Outcomes.{standing_in}
use Rattle.rh_sweep.proofs.standing.standings_in.Given as goal

abbrev pub invariant-loop-number : goal.invariant-loop-number
invariant-loop-number l = l.standings.items ≡ flat_map (standing_in (read l.fn.state)) (map app_numbered (range_with_len 0 l.number))
