use Rattle.std.proofs.Common.{◌≡◌, map, not}
use Rattle.std.specs.Prelude.{count_by}
use Rattle.std.specs.List.{range_with_len}
use Rattle.rh_model.specs.ClusterView.{numbered}
use Rattle.rh_state.specs.StateView.{is_up, mode_of}
use Rattle.rh_state.specs.Stored.{read}
use Rattle.rh_explore.proofs.reaching.not_up_count.Given as goal

abbrev pub invariant-loop-number : goal.invariant-loop-number
invariant-loop-number l = l.count ≡ count_by (λ n. not (is_up (mode_of (read l.state) n))) (map numbered (range_with_len 0 l.number))
