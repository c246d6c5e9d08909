-- How the findings are listed: a code for each kind of finding that is told at a node, and at an application alone.
use Rattle.std.specs.Prelude.{List}
use Rattle.rh_model.specs.ClusterView.{ClusterView}
use Rattle.rh_model.specs.declared.node.Node.{Node}
use Rattle.rh_model.specs.declared.node.App.{App}
use Rattle.rh_file_lint.specs.declared.finding.FileFinding.{FileFinding}
use Rattle.rh_file_lint.specs.declared.at_nodes.NodeKind.{NodeKind}
use Rattle.rh_file_lint.specs.declared.at_nodes.NodeKind.TheVariants as node_kind
use Rattle.rh_file_lint.specs.declared.at_apps.AppKind.{AppKind}
use Rattle.rh_file_lint.specs.declared.at_apps.AppKind.TheVariants as app_kind
use Rattle.rh_file_lint.specs.Findings.{no_lists, one_sided_lists, incomplete_lists, lists_without_timeout, sync_timeout_zero, sync_timeout_too_large, failover_timeout_too_large, tuple_not_in_order, two_tuples, boot_before_dependency, not_booted_at_listed_node, permanent_distributed, local_at_several_nodes, dependency_circle}

abbrev pub found_at_node : ClusterView → NodeKind → Node → List FileFinding
found_at_node c node_kind.NoLists n = no_lists c n
found_at_node c node_kind.OneSidedLists n = one_sided_lists c n
found_at_node c node_kind.IncompleteLists n = incomplete_lists c n
found_at_node c node_kind.ListsWithoutTimeout n = lists_without_timeout c n
found_at_node c node_kind.SyncTimeoutZero n = sync_timeout_zero c n
found_at_node c node_kind.SyncTimeoutTooLarge n = sync_timeout_too_large c n
found_at_node c node_kind.BootBeforeDependency n = boot_before_dependency c n
found_at_node c node_kind.NotBootedAtListedNode n = not_booted_at_listed_node c n

abbrev pub found_at_app : ClusterView → AppKind → App → List FileFinding
found_at_app c app_kind.FailoverTimeoutTooLarge a = failover_timeout_too_large c a
found_at_app c app_kind.TupleNotInOrder a = tuple_not_in_order c a
found_at_app c app_kind.TwoTuples a = two_tuples c a
found_at_app c app_kind.PermanentDistributed a = permanent_distributed c a
found_at_app c app_kind.LocalAtSeveralNodes a = local_at_several_nodes c a
found_at_app c app_kind.DependencyCircle a = dependency_circle c a
