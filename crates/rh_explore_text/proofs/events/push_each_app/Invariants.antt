use Rattle.std.proofs.Common.{◌≡◌, ◌++◌, map}
use Rattle.std.specs.List.{range_with_len}
use Rattle.rh_model.specs.ClusterView.{app_numbered}
use Rattle.rh_explore_text.specs.OpenEvents.{move_at}
use Rattle.rh_explore_text.proofs.events.push_each_app.Given as goal

abbrev pub invariant-apps : goal.invariant-apps
invariant-apps l = l.moves.items ≡ l.fn.moves.items ++ map (move_at l.event) (map app_numbered (range_with_len 0 l.number))
