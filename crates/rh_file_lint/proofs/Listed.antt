-- Each finding is listed exactly if it is so.
use Rattle.std.proofs.Common.{◌≡◌, ◌↔◌, false, not, ap, Contains}
use Rattle.std.proofs.lemmas.List.Elements.{All-contains}
use Rattle.rh_model.specs.ClusterView.{ClusterView}
use Rattle.rh_file_lint.specs.declared.finding.FileFinding.{FileFinding}
use Rattle.rh_file_lint.specs.declared.finding.FileFinding.TheVariants.{NoDistributedApplication, NoLists, OneSidedLists, IncompleteLists, ListsWithoutTimeout, SyncTimeoutZero, SyncTimeoutTooLarge, FailoverTimeoutTooLarge, TupleNotInOrder, TwoTuples, BootBeforeDependency, CrossedBootLists, NotBootedAtListedNode, PermanentDistributed, LocalAtSeveralNodes, DependencyCircle, LostTogether}
use Rattle.rh_file_lint.specs.Cluster.{some_app, is_distributed}
use Rattle.rh_file_lint.specs.Findings.{no_distributed_application, of_sync_lists, of_timeouts, of_node_lists, of_boot_lists, of_several_apps, file_findings_of}
use Rattle.rh_file_lint.specs.Laws.{IsSo}
use Rattle.rh_file_lint.proofs.Parts.{Has, told_if, left, right}
use Rattle.rh_file_lint.proofs.AllSound.{all_sound}
use Rattle.rh_file_lint.proofs.EachTold.{tells_no_lists, tells_one_sided_lists, tells_incomplete_lists, tells_lists_without_timeout, tells_sync_timeout_zero, tells_sync_timeout_too_large, tells_failover_timeout_too_large, tells_tuple_not_in_order, tells_two_tuples, tells_boot_before_dependency, tells_crossed_boot_lists, tells_not_booted_at_listed_node, tells_permanent_distributed, tells_local_at_several_nodes, tells_dependency_circle, tells_lost_together}

-- ---- from a part of the list to the whole
from_none : (c : ClusterView) (f : FileFinding) → Has (no_distributed_application c) f → Has (file_findings_of c) f
unfolding file_findings_of
from_none c f h = left _ _ f (left _ _ f (left _ _ f (left _ _ f (left _ _ f h))))

from_of_sync_lists : (c : ClusterView) (f : FileFinding) → Has (of_sync_lists c) f → Has (file_findings_of c) f
unfolding file_findings_of
from_of_sync_lists c f h = left _ _ f (left _ _ f (left _ _ f (left _ _ f (right _ _ f h))))

from_of_timeouts : (c : ClusterView) (f : FileFinding) → Has (of_timeouts c) f → Has (file_findings_of c) f
unfolding file_findings_of
from_of_timeouts c f h = left _ _ f (left _ _ f (left _ _ f (right _ _ f h)))

from_of_node_lists : (c : ClusterView) (f : FileFinding) → Has (of_node_lists c) f → Has (file_findings_of c) f
unfolding file_findings_of
from_of_node_lists c f h = left _ _ f (left _ _ f (right _ _ f h))

from_of_boot_lists : (c : ClusterView) (f : FileFinding) → Has (of_boot_lists c) f → Has (file_findings_of c) f
unfolding file_findings_of
from_of_boot_lists c f h = left _ _ f (right _ _ f h)

from_of_several_apps : (c : ClusterView) (f : FileFinding) → Has (of_several_apps c) f → Has (file_findings_of c) f
unfolding file_findings_of
from_of_several_apps c f h = right _ _ f h

none_distributed : (c : ClusterView) → some_app c (is_distributed c) ≡ false → Has (no_distributed_application c) NoDistributedApplication
unfolding no_distributed_application
none_distributed c none = told_if NoDistributedApplication (not (some_app c (is_distributed c))) (ap not none)

told_if_so : (c : ClusterView) (f : FileFinding) → IsSo c f → Has (file_findings_of c) f
told_if_so c NoDistributedApplication so = from_none c NoDistributedApplication (none_distributed c so)
told_if_so c (NoLists n) so = from_of_sync_lists c (NoLists n) (tells_no_lists c n so.0 so.1)
told_if_so c (OneSidedLists n m) so = from_of_sync_lists c (OneSidedLists n m) (tells_one_sided_lists c n m so.0 so.1 so.2)
told_if_so c (IncompleteLists n m) so = from_of_sync_lists c (IncompleteLists n m) (tells_incomplete_lists c n m so.0 so.1 so.2)
told_if_so c (ListsWithoutTimeout n) so = from_of_timeouts c (ListsWithoutTimeout n) (tells_lists_without_timeout c n so.0 so.1)
told_if_so c (SyncTimeoutZero n) so = from_of_timeouts c (SyncTimeoutZero n) (tells_sync_timeout_zero c n so.0 so.1)
told_if_so c (SyncTimeoutTooLarge n) so = from_of_timeouts c (SyncTimeoutTooLarge n) (tells_sync_timeout_too_large c n so.0 so.1)
told_if_so c (FailoverTimeoutTooLarge a) so = from_of_timeouts c (FailoverTimeoutTooLarge a) (tells_failover_timeout_too_large c a so.0 so.1)
told_if_so c (TupleNotInOrder a) so = from_of_node_lists c (TupleNotInOrder a) (tells_tuple_not_in_order c a so.0 so.1)
told_if_so c (TwoTuples a) so = from_of_node_lists c (TwoTuples a) (tells_two_tuples c a so.0 so.1)
told_if_so c (BootBeforeDependency n a d) so = from_of_boot_lists c (BootBeforeDependency n a d) (tells_boot_before_dependency c n a d so.0 so.1 so.2)
told_if_so c (CrossedBootLists a b n m) so = from_of_boot_lists c (CrossedBootLists a b n m) (tells_crossed_boot_lists c a b n m so.0 so.1 so.2 so.3 so.4)
told_if_so c (NotBootedAtListedNode n a) so = from_of_boot_lists c (NotBootedAtListedNode n a) (tells_not_booted_at_listed_node c n a so.0 so.1 so.2)
told_if_so c (PermanentDistributed a) so = from_of_boot_lists c (PermanentDistributed a) (tells_permanent_distributed c a so.0 so.1)
told_if_so c (LocalAtSeveralNodes a) so = from_of_boot_lists c (LocalAtSeveralNodes a) (tells_local_at_several_nodes c a so.0 so.1)
told_if_so c (DependencyCircle a) so = from_of_several_apps c (DependencyCircle a) (tells_dependency_circle c a so.0 so.1)
told_if_so c (LostTogether a b) so = from_of_several_apps c (LostTogether a b) (tells_lost_together c a b so.0 so.1 so.2)

pub findings_are_so : (c : ClusterView) (f : FileFinding) → Contains (file_findings_of c) f ↔ IsSo c f
findings_are_so c f = (λ h. All-contains (IsSo c) (file_findings_of c) f (all_sound c).all h, λ so. (told_if_so c f so).there)
