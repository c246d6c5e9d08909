-- What each finding says, and that the list has exactly the findings that are so.
use Rattle.std.specs.Prelude.{◌≡◌, ◌<◌, ◌↔◌, true, false, Some, Contains}
use Rattle.rh_model.specs.ClusterView.{ClusterView, node_count, app_count, sync_wait_of}
use Rattle.rh_model.specs.declared.node.Node.{Node}
use Rattle.rh_model.specs.declared.node.App.{App}
use Rattle.rh_file_lint.specs.declared.finding.FileFinding.{FileFinding}
use Rattle.rh_file_lint.specs.declared.finding.FileFinding.TheVariants.{NoDistributedApplication, NoLists, OneSidedLists, IncompleteLists, ListsWithoutTimeout, SyncTimeoutZero, SyncTimeoutTooLarge, FailoverTimeoutTooLarge, TupleNotInOrder, TwoTuples, BootBeforeDependency, CrossedBootLists, NotBootedAtListedNode, PermanentDistributed, LocalAtSeveralNodes, DependencyCircle, LostTogether}
use Rattle.rh_file_lint.specs.Cluster.{some_app, is_distributed}
use Rattle.rh_file_lint.specs.SyncLists.{has_no_lists, is_one_sided, is_incomplete}
use Rattle.rh_file_lint.specs.Timeouts.{lacks_timeout, is_zero, is_too_large, fails_over_too_late}
use Rattle.rh_file_lint.specs.NodeLists.{has_unsorted_tuple, has_two_tuples}
use Rattle.rh_file_lint.specs.BootLists.{unmet_dep, first_booting, is_distributed_pair, isnt_booted, is_permanent_somewhere, runs_several_times}
use Rattle.rh_file_lint.specs.Circles.{is_in_circle}
use Rattle.rh_file_lint.specs.Losses.{are_lost_together}
use Rattle.rh_file_lint.specs.Findings.{file_findings_of}

-- a number is that of a node of the cluster, or of an application
abbrev pub IsNode : ClusterView → Node → Type 0
IsNode c n = n.0 < node_count c

abbrev pub IsApp : ClusterView → App → Type 0
IsApp c a = a.0 < app_count c

-- what a finding says of a cluster
abbrev pub IsSo : ClusterView → FileFinding → Type 0
IsSo c NoDistributedApplication = some_app c (is_distributed c) ≡ false
IsSo c (NoLists n) = IsNode c n × (has_no_lists c n ≡ true)
IsSo c (OneSidedLists n m) = IsNode c n × IsNode c m × (is_one_sided c n m ≡ true)
IsSo c (IncompleteLists n m) = IsNode c n × IsNode c m × (is_incomplete c n m ≡ true)
IsSo c (ListsWithoutTimeout n) = IsNode c n × (lacks_timeout c n ≡ true)
IsSo c (SyncTimeoutZero n) = IsNode c n × (is_zero (sync_wait_of c n) ≡ true)
IsSo c (SyncTimeoutTooLarge n) = IsNode c n × (is_too_large (sync_wait_of c n) ≡ true)
IsSo c (FailoverTimeoutTooLarge a) = IsApp c a × (fails_over_too_late c a ≡ true)
IsSo c (TupleNotInOrder a) = IsApp c a × (has_unsorted_tuple c a ≡ true)
IsSo c (TwoTuples a) = IsApp c a × (has_two_tuples c a ≡ true)
IsSo c (BootBeforeDependency n a d) = IsNode c n × IsApp c a × (unmet_dep c n a ≡ Some d)
IsSo c (CrossedBootLists a b n m) =
    IsApp c a × IsApp c b × (is_distributed_pair c a b ≡ true) × (first_booting c a b ≡ Some n) × (first_booting c b a ≡ Some m)
IsSo c (NotBootedAtListedNode n a) = IsNode c n × IsApp c a × (isnt_booted c n a ≡ true)
IsSo c (PermanentDistributed a) = IsApp c a × (is_permanent_somewhere c a ≡ true)
IsSo c (LocalAtSeveralNodes a) = IsApp c a × (runs_several_times c a ≡ true)
IsSo c (DependencyCircle a) = IsApp c a × (is_in_circle c a ≡ true)
IsSo c (LostTogether a b) = IsApp c a × IsApp c b × (are_lost_together c a b ≡ true)

-- each finding is listed exactly if it is so, and nothing else is listed
abbrev pub FindingsAreSo : Type 0
FindingsAreSo = (c : ClusterView) (f : FileFinding) → Contains (file_findings_of c) f ↔ IsSo c f
