use Rattle.std.proofs.Common.{◌≡◌, false, map}
use Rattle.std.specs.List.{list_any, range_with_len}
use Rattle.rh_model.specs.ClusterView.{numbered}
use Rattle.rh_file_lint.specs.SyncLists.{share_app}
use Rattle.rh_file_lint.proofs.sync_lists.has_company.Given as goal

abbrev pub invariant-loop-number : goal.invariant-loop-number
invariant-loop-number l = list_any (share_app l.cluster l.node) (map numbered (range_with_len 0 l.number)) ≡ false
