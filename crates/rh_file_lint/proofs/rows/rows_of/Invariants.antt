use Rattle.std.proofs.Common.{◌≡◌, map}
use Rattle.std.specs.List.{range_with_len}
use Rattle.rh_model.specs.ClusterView.{app_numbered}
use Rattle.rh_file_lint.specs.Rows.{row_of}
use Rattle.rh_file_lint.proofs.rows.rows_of.Given as goal

abbrev pub invariant-loop-number : goal.invariant-loop-number
invariant-loop-number l = map (λ row. row.items) l.rows.items ≡ map (row_of l.cluster l.kind) (map app_numbered (range_with_len 0 l.number))
