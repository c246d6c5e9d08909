-- All findings that are listed are so.
use Rattle.std.proofs.Common.{◌≡◌, [], Bool, true, false, cond, not, Option, Some, None, refl}
use Rattle.std.specs.Option.{option_map, option_to_list}
use Rattle.rh_model.specs.declared.node.Node.{Node}
use Rattle.rh_model.specs.declared.node.App.{App}
use Rattle.rh_model.specs.declared.settings.Dep.{Dep}
use Rattle.rh_model.specs.ClusterView.{ClusterView, sync_wait_of}
use Rattle.rh_file_lint.specs.declared.finding.FileFinding.TheVariants.{NoDistributedApplication, NoLists, OneSidedLists, IncompleteLists, ListsWithoutTimeout, SyncTimeoutZero, SyncTimeoutTooLarge, FailoverTimeoutTooLarge, TupleNotInOrder, TwoTuples, BootBeforeDependency, CrossedBootLists, NotBootedAtListedNode, PermanentDistributed, LocalAtSeveralNodes, DependencyCircle, LostTogether}
use Rattle.rh_file_lint.specs.Cluster.{some_app, is_distributed}
use Rattle.rh_file_lint.specs.SyncLists.{has_no_lists, is_one_sided, is_incomplete}
use Rattle.rh_file_lint.specs.Timeouts.{lacks_timeout, is_zero, is_too_large, fails_over_too_late}
use Rattle.rh_file_lint.specs.NodeLists.{has_unsorted_tuple, has_two_tuples}
use Rattle.rh_file_lint.specs.BootLists.{unmet_dep, first_booting, is_distributed_pair, isnt_booted, is_permanent_somewhere, runs_several_times}
use Rattle.rh_file_lint.specs.Circles.{is_in_circle}
use Rattle.rh_file_lint.specs.Losses.{are_lost_together}
use Rattle.rh_file_lint.specs.Findings.{finding_if, crossed_orders, crossed_with, at_nodes, at_apps, no_distributed_application, no_lists, one_sided_lists, incomplete_lists, lists_without_timeout, sync_timeout_zero, sync_timeout_too_large, failover_timeout_too_large, tuple_not_in_order, two_tuples, boot_before_dependency, crossed_boot_lists, not_booted_at_listed_node, permanent_distributed, local_at_several_nodes, dependency_circle, lost_together, of_sync_lists, of_timeouts, of_node_lists, of_boot_lists, of_several_apps, file_findings_of}
use Rattle.rh_file_lint.specs.Laws.{IsNode, IsApp}
use Rattle.rh_file_lint.proofs.Parts.{Sound, none_sound, one_sound, told_sound, both_sound, nodes_sound, apps_sound}

denied : (b : Bool) → not b ≡ true → b ≡ false
denied true h = cc
denied false h = refl

none_distributed : (c : ClusterView) → Sound c (no_distributed_application c)
unfolding no_distributed_application
none_distributed c = told_sound c NoDistributedApplication (not (some_app c (is_distributed c))) (denied (some_app c (is_distributed c)))

all_no_lists : (c : ClusterView) → Sound c (at_nodes c (no_lists c))
unfolding no_lists
all_no_lists c = nodes_sound c (no_lists c) (λ n lt. told_sound c (NoLists n) (has_no_lists c n) (λ h. (lt, h)))

all_one_sided_lists : (c : ClusterView) → Sound c (at_nodes c (one_sided_lists c))
unfolding one_sided_lists
all_one_sided_lists c = nodes_sound c (one_sided_lists c) (λ n lt.
    nodes_sound c (λ (m : Node). finding_if (OneSidedLists n m) (is_one_sided c n m)) (λ m less. told_sound c (OneSidedLists n m) (is_one_sided c n m) (λ h. (lt, less, h))))

all_incomplete_lists : (c : ClusterView) → Sound c (at_nodes c (incomplete_lists c))
unfolding incomplete_lists
all_incomplete_lists c = nodes_sound c (incomplete_lists c) (λ n lt.
    nodes_sound c (λ (m : Node). finding_if (IncompleteLists n m) (is_incomplete c n m)) (λ m less. told_sound c (IncompleteLists n m) (is_incomplete c n m) (λ h. (lt, less, h))))

all_lists_without_timeout : (c : ClusterView) → Sound c (at_nodes c (lists_without_timeout c))
unfolding lists_without_timeout
all_lists_without_timeout c = nodes_sound c (lists_without_timeout c) (λ n lt. told_sound c (ListsWithoutTimeout n) (lacks_timeout c n) (λ h. (lt, h)))

all_sync_timeout_zero : (c : ClusterView) → Sound c (at_nodes c (sync_timeout_zero c))
unfolding sync_timeout_zero
all_sync_timeout_zero c = nodes_sound c (sync_timeout_zero c) (λ n lt. told_sound c (SyncTimeoutZero n) (is_zero (sync_wait_of c n)) (λ h. (lt, h)))

all_sync_timeout_too_large : (c : ClusterView) → Sound c (at_nodes c (sync_timeout_too_large c))
unfolding sync_timeout_too_large
all_sync_timeout_too_large c = nodes_sound c (sync_timeout_too_large c) (λ n lt. told_sound c (SyncTimeoutTooLarge n) (is_too_large (sync_wait_of c n)) (λ h. (lt, h)))

all_failover_timeout_too_large : (c : ClusterView) → Sound c (at_apps c (failover_timeout_too_large c))
unfolding failover_timeout_too_large
all_failover_timeout_too_large c = apps_sound c (failover_timeout_too_large c) (λ a lt. told_sound c (FailoverTimeoutTooLarge a) (fails_over_too_late c a) (λ h. (lt, h)))

all_tuple_not_in_order : (c : ClusterView) → Sound c (at_apps c (tuple_not_in_order c))
unfolding tuple_not_in_order
all_tuple_not_in_order c = apps_sound c (tuple_not_in_order c) (λ a lt. told_sound c (TupleNotInOrder a) (has_unsorted_tuple c a) (λ h. (lt, h)))

all_two_tuples : (c : ClusterView) → Sound c (at_apps c (two_tuples c))
unfolding two_tuples
all_two_tuples c = apps_sound c (two_tuples c) (λ a lt. told_sound c (TwoTuples a) (has_two_tuples c a) (λ h. (lt, h)))

-- a dependency that isn't met
unmet : (c : ClusterView) (n : Node) (a : App) → IsNode c n → IsApp c a → (o : Option Dep) → unmet_dep c n a ≡ o → Sound c (option_to_list (option_map (BootBeforeDependency n a) o))
unmet c n a lt less None is = none_sound c
unmet c n a lt less (Some d) is = one_sound c (BootBeforeDependency n a d) (lt, less, is)

all_boot_before_dependency : (c : ClusterView) → Sound c (at_nodes c (boot_before_dependency c))
unfolding boot_before_dependency
all_boot_before_dependency c = nodes_sound c (boot_before_dependency c) (λ n lt.
    apps_sound c (λ (a : App). option_to_list (option_map (BootBeforeDependency n a) (unmet_dep c n a))) (λ a less. unmet c n a lt less (unmet_dep c n a) refl))

-- two nodes that boot two applications in opposite orders
orders : (c : ClusterView) (a b : App) → IsApp c a → IsApp c b → is_distributed_pair c a b ≡ true → (o p : Option Node) → first_booting c a b ≡ o → first_booting c b a ≡ p
    → Sound c (crossed_orders a b o p)
orders c a b lt less pair (Some n) (Some m) one other = one_sound c (CrossedBootLists a b n m) (lt, less, pair, one, other)
orders c a b lt less pair (Some n) None one other = none_sound c
orders c a b lt less pair None p one other = none_sound c

crossing : (c : ClusterView) (a b : App) → IsApp c a → IsApp c b → Sound c (crossed_with c a b)
unfolding crossed_with
crossing c a b lt less = by (is_distributed_pair c a b) refl
  where
    by : (pair : Bool) → is_distributed_pair c a b ≡ pair → Sound c (cond pair (crossed_orders a b (first_booting c a b) (first_booting c b a)) [])
    by true is = orders c a b lt less is (first_booting c a b) (first_booting c b a) refl refl
    by false is = none_sound c

all_crossed_boot_lists : (c : ClusterView) → Sound c (at_apps c (crossed_boot_lists c))
unfolding crossed_boot_lists
all_crossed_boot_lists c = apps_sound c (crossed_boot_lists c) (λ a lt. apps_sound c (crossed_with c a) (λ b less. crossing c a b lt less))

all_not_booted_at_listed_node : (c : ClusterView) → Sound c (at_nodes c (not_booted_at_listed_node c))
unfolding not_booted_at_listed_node
all_not_booted_at_listed_node c = nodes_sound c (not_booted_at_listed_node c) (λ n lt.
    apps_sound c (λ (a : App). finding_if (NotBootedAtListedNode n a) (isnt_booted c n a)) (λ a less. told_sound c (NotBootedAtListedNode n a) (isnt_booted c n a) (λ h. (lt, less, h))))

all_permanent_distributed : (c : ClusterView) → Sound c (at_apps c (permanent_distributed c))
unfolding permanent_distributed
all_permanent_distributed c = apps_sound c (permanent_distributed c) (λ a lt. told_sound c (PermanentDistributed a) (is_permanent_somewhere c a) (λ h. (lt, h)))

all_local_at_several_nodes : (c : ClusterView) → Sound c (at_apps c (local_at_several_nodes c))
unfolding local_at_several_nodes
all_local_at_several_nodes c = apps_sound c (local_at_several_nodes c) (λ a lt. told_sound c (LocalAtSeveralNodes a) (runs_several_times c a) (λ h. (lt, h)))

all_dependency_circle : (c : ClusterView) → Sound c (at_apps c (dependency_circle c))
unfolding dependency_circle
all_dependency_circle c = apps_sound c (dependency_circle c) (λ a lt. told_sound c (DependencyCircle a) (is_in_circle c a) (λ h. (lt, h)))

all_lost_together : (c : ClusterView) → Sound c (at_apps c (lost_together c))
unfolding lost_together
all_lost_together c = apps_sound c (lost_together c) (λ a lt.
    apps_sound c (λ (b : App). finding_if (LostTogether a b) (are_lost_together c a b)) (λ b less. told_sound c (LostTogether a b) (are_lost_together c a b) (λ h. (lt, less, h))))

-- ---- all of them
all_of_sync_lists : (c : ClusterView) → Sound c (of_sync_lists c)
unfolding of_sync_lists
all_of_sync_lists c = both_sound c _ _ (both_sound c _ _ (all_no_lists c) (all_one_sided_lists c)) (all_incomplete_lists c)

all_of_timeouts : (c : ClusterView) → Sound c (of_timeouts c)
unfolding of_timeouts
all_of_timeouts c = both_sound c _ _ (both_sound c _ _ (both_sound c _ _ (all_lists_without_timeout c) (all_sync_timeout_zero c)) (all_sync_timeout_too_large c)) (all_failover_timeout_too_large c)

all_of_node_lists : (c : ClusterView) → Sound c (of_node_lists c)
unfolding of_node_lists
all_of_node_lists c = both_sound c _ _ (all_tuple_not_in_order c) (all_two_tuples c)

all_of_boot_lists : (c : ClusterView) → Sound c (of_boot_lists c)
unfolding of_boot_lists
all_of_boot_lists c = both_sound c _ _ (both_sound c _ _ (both_sound c _ _ (both_sound c _ _ (all_boot_before_dependency c) (all_crossed_boot_lists c)) (all_not_booted_at_listed_node c)) (all_permanent_distributed c)) (all_local_at_several_nodes c)

all_of_several_apps : (c : ClusterView) → Sound c (of_several_apps c)
unfolding of_several_apps
all_of_several_apps c = both_sound c _ _ (all_dependency_circle c) (all_lost_together c)

pub all_sound : (c : ClusterView) → Sound c (file_findings_of c)
unfolding file_findings_of
all_sound c = both_sound c _ _ (both_sound c _ _ (both_sound c _ _ (both_sound c _ _ (both_sound c _ _ (none_distributed c) (all_of_sync_lists c)) (all_of_timeouts c)) (all_of_node_lists c)) (all_of_boot_lists c)) (all_of_several_apps c)
