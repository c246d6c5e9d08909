-- What is found in a cluster file. Each finding is told exactly where its predicate holds.
use Rattle.std.specs.Prelude.{Bool, not, Option, Some, List, [], ◌∷◌, ◌++◌, if◌then◌else◌}
use Rattle.std.specs.List.{flat_map}
use Rattle.std.specs.Option.{option_map, option_to_list}
use Rattle.rh_model.specs.ClusterView.{ClusterView, sync_wait_of}
use Rattle.rh_model.specs.declared.node.Node.{Node}
use Rattle.rh_model.specs.declared.node.App.{App}
use Rattle.rh_state.specs.Numbers.{nodes_of, apps_of}
use Rattle.rh_file_lint.specs.declared.finding.FileFinding.{FileFinding}
use Rattle.rh_file_lint.specs.declared.finding.FileFinding.TheVariants as finding
use Rattle.rh_file_lint.specs.Cluster.{some_app, is_distributed}
use Rattle.rh_file_lint.specs.SyncLists.{has_no_lists, is_one_sided, is_incomplete}
use Rattle.rh_file_lint.specs.Timeouts.{lacks_timeout, is_zero, is_too_large, fails_over_too_late}
use Rattle.rh_file_lint.specs.NodeLists.{has_unsorted_tuple, has_two_tuples}
use Rattle.rh_file_lint.specs.BootLists.{unmet_dep, first_booting, is_distributed_pair, isnt_booted, is_permanent_somewhere, runs_several_times}
use Rattle.rh_file_lint.specs.Circles.{is_in_circle}
use Rattle.rh_file_lint.specs.Losses.{are_lost_together}

-- a finding is told if it holds
abbrev pub finding_if : FileFinding → Bool → List FileFinding
finding_if what holds = if holds then what ∷ [] else []

-- what is told of each node, and of each application, in the order of the file
abbrev pub at_nodes : ClusterView → (Node → List FileFinding) → List FileFinding
at_nodes c found = flat_map found (nodes_of c)

abbrev pub at_apps : ClusterView → (App → List FileFinding) → List FileFinding
at_apps c found = flat_map found (apps_of c)

-- ---- of the whole cluster
unfoldable pub no_distributed_application : ClusterView → List FileFinding
no_distributed_application c = finding_if finding.NoDistributedApplication (not (some_app c (is_distributed c)))

-- ---- of each node
unfoldable pub no_lists : ClusterView → Node → List FileFinding
no_lists c n = finding_if (finding.NoLists n) (has_no_lists c n)

unfoldable pub one_sided_lists : ClusterView → Node → List FileFinding
one_sided_lists c n = at_nodes c (λ (m : Node). finding_if (finding.OneSidedLists n m) (is_one_sided c n m))

unfoldable pub incomplete_lists : ClusterView → Node → List FileFinding
incomplete_lists c n = at_nodes c (λ (m : Node). finding_if (finding.IncompleteLists n m) (is_incomplete c n m))

unfoldable pub lists_without_timeout : ClusterView → Node → List FileFinding
lists_without_timeout c n = finding_if (finding.ListsWithoutTimeout n) (lacks_timeout c n)

unfoldable pub sync_timeout_zero : ClusterView → Node → List FileFinding
sync_timeout_zero c n = finding_if (finding.SyncTimeoutZero n) (is_zero (sync_wait_of c n))

unfoldable pub sync_timeout_too_large : ClusterView → Node → List FileFinding
sync_timeout_too_large c n = finding_if (finding.SyncTimeoutTooLarge n) (is_too_large (sync_wait_of c n))

unfoldable pub boot_before_dependency : ClusterView → Node → List FileFinding
boot_before_dependency c n = at_apps c (λ (a : App). option_to_list (option_map (finding.BootBeforeDependency n a) (unmet_dep c n a)))

unfoldable pub not_booted_at_listed_node : ClusterView → Node → List FileFinding
not_booted_at_listed_node c n = at_apps c (λ (a : App). finding_if (finding.NotBootedAtListedNode n a) (isnt_booted c n a))

-- ---- of each application
unfoldable pub failover_timeout_too_large : ClusterView → App → List FileFinding
failover_timeout_too_large c a = finding_if (finding.FailoverTimeoutTooLarge a) (fails_over_too_late c a)

unfoldable pub tuple_not_in_order : ClusterView → App → List FileFinding
tuple_not_in_order c a = finding_if (finding.TupleNotInOrder a) (has_unsorted_tuple c a)

unfoldable pub two_tuples : ClusterView → App → List FileFinding
two_tuples c a = finding_if (finding.TwoTuples a) (has_two_tuples c a)

-- what is told where two nodes boot two applications in opposite orders
abbrev pub crossed_orders : App → App → Option Node → Option Node → List FileFinding
crossed_orders a b (Some n) (Some m) = finding.CrossedBootLists a b n m ∷ []
crossed_orders a b _ _ = []

unfoldable pub crossed_with : ClusterView → App → App → List FileFinding
crossed_with c a b = if is_distributed_pair c a b then crossed_orders a b (first_booting c a b) (first_booting c b a) else []

unfoldable pub crossed_boot_lists : ClusterView → App → List FileFinding
crossed_boot_lists c a = at_apps c (crossed_with c a)

unfoldable pub permanent_distributed : ClusterView → App → List FileFinding
permanent_distributed c a = finding_if (finding.PermanentDistributed a) (is_permanent_somewhere c a)

unfoldable pub local_at_several_nodes : ClusterView → App → List FileFinding
local_at_several_nodes c a = finding_if (finding.LocalAtSeveralNodes a) (runs_several_times c a)

unfoldable pub dependency_circle : ClusterView → App → List FileFinding
dependency_circle c a = finding_if (finding.DependencyCircle a) (is_in_circle c a)

unfoldable pub lost_together : ClusterView → App → List FileFinding
lost_together c a = at_apps c (λ (b : App). finding_if (finding.LostTogether a b) (are_lost_together c a b))

-- ---- all of them, by kind
unfoldable pub of_sync_lists : ClusterView → List FileFinding
of_sync_lists c =
    at_nodes c (no_lists c)
    ++ at_nodes c (one_sided_lists c)
    ++ at_nodes c (incomplete_lists c)

unfoldable pub of_timeouts : ClusterView → List FileFinding
of_timeouts c =
    at_nodes c (lists_without_timeout c)
    ++ at_nodes c (sync_timeout_zero c)
    ++ at_nodes c (sync_timeout_too_large c)
    ++ at_apps c (failover_timeout_too_large c)

unfoldable pub of_node_lists : ClusterView → List FileFinding
of_node_lists c = at_apps c (tuple_not_in_order c) ++ at_apps c (two_tuples c)

unfoldable pub of_boot_lists : ClusterView → List FileFinding
of_boot_lists c =
    at_nodes c (boot_before_dependency c)
    ++ at_apps c (crossed_boot_lists c)
    ++ at_nodes c (not_booted_at_listed_node c)
    ++ at_apps c (permanent_distributed c)
    ++ at_apps c (local_at_several_nodes c)

unfoldable pub of_several_apps : ClusterView → List FileFinding
of_several_apps c = at_apps c (dependency_circle c) ++ at_apps c (lost_together c)

-- what is found in a cluster file, in the order of the kinds of findings, then of nodes, then of applications
unfoldable pub file_findings_of : ClusterView → List FileFinding
file_findings_of c = no_distributed_application c ++ of_sync_lists c ++ of_timeouts c ++ of_node_lists c ++ of_boot_lists c ++ of_several_apps c
