use Rattle.std.proofs.Common.{◌≡◌, ◌&&◌, false, map}
use Rattle.std.specs.List.{list_any, range_with_len}
use Rattle.rh_model.specs.declared.node.App.{App}
use Rattle.rh_model.specs.ClusterView.{app_numbered}
use Rattle.rh_file_lint.specs.Cluster.{is_in_list}
use Rattle.rh_file_lint.proofs.sync_lists.share_some_app.Given as goal

abbrev pub invariant-loop-number : goal.invariant-loop-number
invariant-loop-number l = list_any (λ (a : App). is_in_list l.cluster a l.node && is_in_list l.cluster a l.other) (map app_numbered (range_with_len 0 l.number)) ≡ false
