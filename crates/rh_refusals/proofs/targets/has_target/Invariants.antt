use Rattle.std.proofs.Common.{◌≡◌, false, map}
use Rattle.std.specs.List.{list_any, range_with_len}
use Rattle.rh_model.specs.ClusterView.{numbered}
use Rattle.rh_state.specs.Stored.{read}
use Rattle.rh_rules.specs.Everywhere.{is_target}
use Rattle.rh_refusals.proofs.targets.has_target.Given as goal

abbrev pub invariant-nodes : goal.invariant-nodes
invariant-nodes l = list_any (is_target (read l.state) l.app) (map numbered (range_with_len 0 l.number)) ≡ false
