use Rattle.std.proofs.Common.{◌≡◌, map}
use Rattle.std.specs.List.{range_with_len}
use Rattle.rh_model.specs.ClusterView.{numbered}
use Rattle.rh_file_lint.specs.Rows.{place_in}
use Rattle.rh_file_lint.proofs.rows.places_in.Given as goal

abbrev pub invariant-loop-number : goal.invariant-loop-number
invariant-loop-number l = l.places.items ≡ map (place_in l.cluster l.kind l.app) (map numbered (range_with_len 0 l.number))
