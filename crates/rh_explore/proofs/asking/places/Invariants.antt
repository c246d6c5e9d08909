use Rattle.std.proofs.Common.{◌≡◌, map}
use Rattle.std.specs.Prelude.{count_by}
use Rattle.std.specs.List.{range_with_len}
use Rattle.rh_model.specs.ClusterView.{numbered}
use Rattle.rh_state.specs.StateView.{runs_at}
use Rattle.rh_state.specs.Stored.{read}
use Rattle.rh_explore.proofs.asking.places.Given as goal

abbrev pub invariant-loop-number : goal.invariant-loop-number
invariant-loop-number l = l.places ≡ count_by (λ n. runs_at (read l.state) n l.app) (map numbered (range_with_len 0 l.number))
