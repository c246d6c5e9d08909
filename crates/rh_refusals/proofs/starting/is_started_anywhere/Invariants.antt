use Rattle.std.proofs.Common.{◌≡◌, false, map}
use Rattle.std.specs.List.{list_any, range_with_len}
use Rattle.rh_model.specs.ClusterView.{numbered}
use Rattle.rh_state.specs.StateView.{is_started}
use Rattle.rh_state.specs.Stored.{read}
use Rattle.rh_refusals.proofs.starting.is_started_anywhere.Given as goal

abbrev pub invariant-nodes : goal.invariant-nodes
invariant-nodes l = list_any (λ n. is_started (read l.state) n l.app) (map numbered (range_with_len 0 l.number)) ≡ false
