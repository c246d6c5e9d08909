-- All findings that are so are listed, each in its part of the list.
use Rattle.std.proofs.Common.{◌≡◌, [], true, cond, Some, sym, subst}
use Rattle.std.specs.Option.{option_map, option_to_list}
use Rattle.rh_model.specs.declared.node.Node.{Node}
use Rattle.rh_model.specs.declared.node.App.{App}
use Rattle.rh_model.specs.declared.settings.Dep.{Dep}
use Rattle.rh_model.specs.ClusterView.{ClusterView, sync_wait_of}
use Rattle.rh_file_lint.specs.declared.finding.FileFinding.TheVariants.{NoLists, OneSidedLists, IncompleteLists, ListsWithoutTimeout, SyncTimeoutZero, SyncTimeoutTooLarge, FailoverTimeoutTooLarge, TupleNotInOrder, TwoTuples, BootBeforeDependency, CrossedBootLists, NotBootedAtListedNode, PermanentDistributed, LocalAtSeveralNodes, DependencyCircle, LostTogether}
use Rattle.rh_file_lint.specs.SyncLists.{has_no_lists, is_one_sided, is_incomplete}
use Rattle.rh_file_lint.specs.Timeouts.{lacks_timeout, is_zero, is_too_large, fails_over_too_late}
use Rattle.rh_file_lint.specs.NodeLists.{has_unsorted_tuple, has_two_tuples}
use Rattle.rh_file_lint.specs.BootLists.{unmet_dep, first_booting, is_distributed_pair, isnt_booted, is_permanent_somewhere, runs_several_times}
use Rattle.rh_file_lint.specs.Circles.{is_in_circle}
use Rattle.rh_file_lint.specs.Losses.{are_lost_together}
use Rattle.rh_file_lint.specs.Findings.{finding_if, crossed_orders, crossed_with, no_lists, one_sided_lists, incomplete_lists, lists_without_timeout, sync_timeout_zero, sync_timeout_too_large, failover_timeout_too_large, tuple_not_in_order, two_tuples, boot_before_dependency, crossed_boot_lists, not_booted_at_listed_node, permanent_distributed, local_at_several_nodes, dependency_circle, lost_together, of_sync_lists, of_timeouts, of_node_lists, of_boot_lists, of_several_apps}
use Rattle.rh_file_lint.specs.Laws.{IsNode, IsApp}
use Rattle.rh_file_lint.proofs.Parts.{Has, one_told, told_if, left, right, node_told, app_told}

pub tells_no_lists : (c : ClusterView) (n : Node) → IsNode c n → has_no_lists c n ≡ true → Has (of_sync_lists c) (NoLists n)
unfolding of_sync_lists no_lists
tells_no_lists c n lt h = left _ _ (NoLists n) (left _ _ (NoLists n) (node_told c (no_lists c) (NoLists n) n lt (told_if (NoLists n) (has_no_lists c n) h)))

pub tells_one_sided_lists : (c : ClusterView) (n : Node) (m : Node) → IsNode c n → IsNode c m → is_one_sided c n m ≡ true → Has (of_sync_lists c) (OneSidedLists n m)
unfolding of_sync_lists one_sided_lists
tells_one_sided_lists c n m lt less h = left _ _ (OneSidedLists n m) (right _ _ (OneSidedLists n m) (node_told c (one_sided_lists c) (OneSidedLists n m) n lt
    (node_told c (λ (m : Node). finding_if (OneSidedLists n m) (is_one_sided c n m)) (OneSidedLists n m) m less (told_if (OneSidedLists n m) (is_one_sided c n m) h))))

pub tells_incomplete_lists : (c : ClusterView) (n : Node) (m : Node) → IsNode c n → IsNode c m → is_incomplete c n m ≡ true → Has (of_sync_lists c) (IncompleteLists n m)
unfolding of_sync_lists incomplete_lists
tells_incomplete_lists c n m lt less h = right _ _ (IncompleteLists n m) (node_told c (incomplete_lists c) (IncompleteLists n m) n lt
    (node_told c (λ (m : Node). finding_if (IncompleteLists n m) (is_incomplete c n m)) (IncompleteLists n m) m less (told_if (IncompleteLists n m) (is_incomplete c n m) h)))

pub tells_lists_without_timeout : (c : ClusterView) (n : Node) → IsNode c n → lacks_timeout c n ≡ true → Has (of_timeouts c) (ListsWithoutTimeout n)
unfolding of_timeouts lists_without_timeout
tells_lists_without_timeout c n lt h = left _ _ (ListsWithoutTimeout n) (left _ _ (ListsWithoutTimeout n) (left _ _ (ListsWithoutTimeout n) (node_told c (lists_without_timeout c) (ListsWithoutTimeout n) n lt (told_if (ListsWithoutTimeout n) (lacks_timeout c n) h))))

pub tells_sync_timeout_zero : (c : ClusterView) (n : Node) → IsNode c n → is_zero (sync_wait_of c n) ≡ true → Has (of_timeouts c) (SyncTimeoutZero n)
unfolding of_timeouts sync_timeout_zero
tells_sync_timeout_zero c n lt h = left _ _ (SyncTimeoutZero n) (left _ _ (SyncTimeoutZero n) (right _ _ (SyncTimeoutZero n) (node_told c (sync_timeout_zero c) (SyncTimeoutZero n) n lt (told_if (SyncTimeoutZero n) (is_zero (sync_wait_of c n)) h))))

pub tells_sync_timeout_too_large : (c : ClusterView) (n : Node) → IsNode c n → is_too_large (sync_wait_of c n) ≡ true → Has (of_timeouts c) (SyncTimeoutTooLarge n)
unfolding of_timeouts sync_timeout_too_large
tells_sync_timeout_too_large c n lt h = left _ _ (SyncTimeoutTooLarge n) (right _ _ (SyncTimeoutTooLarge n) (node_told c (sync_timeout_too_large c) (SyncTimeoutTooLarge n) n lt (told_if (SyncTimeoutTooLarge n) (is_too_large (sync_wait_of c n)) h)))

pub tells_failover_timeout_too_large : (c : ClusterView) (a : App) → IsApp c a → fails_over_too_late c a ≡ true → Has (of_timeouts c) (FailoverTimeoutTooLarge a)
unfolding of_timeouts failover_timeout_too_large
tells_failover_timeout_too_large c a lt h = right _ _ (FailoverTimeoutTooLarge a) (app_told c (failover_timeout_too_large c) (FailoverTimeoutTooLarge a) a lt (told_if (FailoverTimeoutTooLarge a) (fails_over_too_late c a) h))

pub tells_tuple_not_in_order : (c : ClusterView) (a : App) → IsApp c a → has_unsorted_tuple c a ≡ true → Has (of_node_lists c) (TupleNotInOrder a)
unfolding of_node_lists tuple_not_in_order
tells_tuple_not_in_order c a lt h = left _ _ (TupleNotInOrder a) (app_told c (tuple_not_in_order c) (TupleNotInOrder a) a lt (told_if (TupleNotInOrder a) (has_unsorted_tuple c a) h))

pub tells_two_tuples : (c : ClusterView) (a : App) → IsApp c a → has_two_tuples c a ≡ true → Has (of_node_lists c) (TwoTuples a)
unfolding of_node_lists two_tuples
tells_two_tuples c a lt h = right _ _ (TwoTuples a) (app_told c (two_tuples c) (TwoTuples a) a lt (told_if (TwoTuples a) (has_two_tuples c a) h))

pub tells_boot_before_dependency : (c : ClusterView) (n : Node) (a : App) (d : Dep) → IsNode c n → IsApp c a → unmet_dep c n a ≡ Some d → Has (of_boot_lists c) (BootBeforeDependency n a d)
unfolding of_boot_lists boot_before_dependency
tells_boot_before_dependency c n a d lt less is = left _ _ (BootBeforeDependency n a d) (left _ _ (BootBeforeDependency n a d) (left _ _ (BootBeforeDependency n a d) (left _ _ (BootBeforeDependency n a d) (node_told c (boot_before_dependency c) (BootBeforeDependency n a d) n lt
    (app_told c (λ (a : App). option_to_list (option_map (BootBeforeDependency n a) (unmet_dep c n a))) (BootBeforeDependency n a d) a less
    (subst (λ o. Has (option_to_list (option_map (BootBeforeDependency n a) o)) (BootBeforeDependency n a d)) (sym is) (one_told (BootBeforeDependency n a d))))))))

meets : (c : ClusterView) (a b : App) (n m : Node) → is_distributed_pair c a b ≡ true → first_booting c a b ≡ Some n → first_booting c b a ≡ Some m
    → Has (crossed_with c a b) (CrossedBootLists a b n m)
unfolding crossed_with
meets c a b n m pair one other =
    subst (λ k. Has (cond k (crossed_orders a b (first_booting c a b) (first_booting c b a)) []) (CrossedBootLists a b n m)) (sym pair)
    (subst (λ o. Has (crossed_orders a b o (first_booting c b a)) (CrossedBootLists a b n m)) (sym one)
    (subst (λ p. Has (crossed_orders a b (Some n) p) (CrossedBootLists a b n m)) (sym other) (one_told (CrossedBootLists a b n m))))

pub tells_crossed_boot_lists : (c : ClusterView) (a b : App) (n m : Node) → IsApp c a → IsApp c b → is_distributed_pair c a b ≡ true → first_booting c a b ≡ Some n → first_booting c b a ≡ Some m
    → Has (of_boot_lists c) (CrossedBootLists a b n m)
unfolding of_boot_lists crossed_boot_lists
tells_crossed_boot_lists c a b n m lt less pair one other = left _ _ (CrossedBootLists a b n m) (left _ _ (CrossedBootLists a b n m) (left _ _ (CrossedBootLists a b n m) (right _ _ (CrossedBootLists a b n m) (app_told c (crossed_boot_lists c) (CrossedBootLists a b n m) a lt
    (app_told c (crossed_with c a) (CrossedBootLists a b n m) b less (meets c a b n m pair one other))))))

pub tells_not_booted_at_listed_node : (c : ClusterView) (n : Node) (a : App) → IsNode c n → IsApp c a → isnt_booted c n a ≡ true → Has (of_boot_lists c) (NotBootedAtListedNode n a)
unfolding of_boot_lists not_booted_at_listed_node
tells_not_booted_at_listed_node c n a lt less h = left _ _ (NotBootedAtListedNode n a) (left _ _ (NotBootedAtListedNode n a) (right _ _ (NotBootedAtListedNode n a) (node_told c (not_booted_at_listed_node c) (NotBootedAtListedNode n a) n lt
    (app_told c (λ (a : App). finding_if (NotBootedAtListedNode n a) (isnt_booted c n a)) (NotBootedAtListedNode n a) a less (told_if (NotBootedAtListedNode n a) (isnt_booted c n a) h)))))

pub tells_permanent_distributed : (c : ClusterView) (a : App) → IsApp c a → is_permanent_somewhere c a ≡ true → Has (of_boot_lists c) (PermanentDistributed a)
unfolding of_boot_lists permanent_distributed
tells_permanent_distributed c a lt h = left _ _ (PermanentDistributed a) (right _ _ (PermanentDistributed a) (app_told c (permanent_distributed c) (PermanentDistributed a) a lt (told_if (PermanentDistributed a) (is_permanent_somewhere c a) h)))

pub tells_local_at_several_nodes : (c : ClusterView) (a : App) → IsApp c a → runs_several_times c a ≡ true → Has (of_boot_lists c) (LocalAtSeveralNodes a)
unfolding of_boot_lists local_at_several_nodes
tells_local_at_several_nodes c a lt h = right _ _ (LocalAtSeveralNodes a) (app_told c (local_at_several_nodes c) (LocalAtSeveralNodes a) a lt (told_if (LocalAtSeveralNodes a) (runs_several_times c a) h))

pub tells_dependency_circle : (c : ClusterView) (a : App) → IsApp c a → is_in_circle c a ≡ true → Has (of_several_apps c) (DependencyCircle a)
unfolding of_several_apps dependency_circle
tells_dependency_circle c a lt h = left _ _ (DependencyCircle a) (app_told c (dependency_circle c) (DependencyCircle a) a lt (told_if (DependencyCircle a) (is_in_circle c a) h))

pub tells_lost_together : (c : ClusterView) (a : App) (b : App) → IsApp c a → IsApp c b → are_lost_together c a b ≡ true → Has (of_several_apps c) (LostTogether a b)
unfolding of_several_apps lost_together
tells_lost_together c a b lt less h = right _ _ (LostTogether a b) (app_told c (lost_together c) (LostTogether a b) a lt
    (app_told c (λ (b : App). finding_if (LostTogether a b) (are_lost_together c a b)) (LostTogether a b) b less (told_if (LostTogether a b) (are_lost_together c a b) h)))
