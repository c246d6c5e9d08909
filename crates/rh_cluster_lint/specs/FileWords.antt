-- How the findings of a file are told (ours).
use Rattle.std.specs.Prelude.{ℕ, List, [], codes, Bool, true, false, Option, None}
use Rattle.rh_model.specs.ClusterView.{ClusterView}
use Rattle.rh_calls.specs.Report.{node_word, app_word, dep_word}
use Rattle.rh_file_lint.specs.declared.finding.FileFinding.{FileFinding}
use Rattle.rh_file_lint.specs.declared.finding.FileFinding.TheVariants.{NoDistributedApplication, NoLists, OneSidedLists, IncompleteLists, ListsWithoutTimeout, SyncTimeoutZero, SyncTimeoutTooLarge, FailoverTimeoutTooLarge, TupleNotInOrder, TwoTuples, BootBeforeDependency, CrossedBootLists, NotBootedAtListedNode, PermanentDistributed, LocalAtSeveralNodes, DependencyCircle, LostTogether}
use Rattle.rh_findings.specs.Sentences.{WordsView, NamesView}
use Rattle.rh_cluster_lint.specs.Lines.{LinesView, node_line, app_line}

abbrev pub words : List ℕ → List ℕ → List ℕ → List ℕ → WordsView
words begin first second third = record { begin = begin; first = first; second = second; third = third }

abbrev pub names : List ℕ → List ℕ → List ℕ → NamesView
names first second third = record { first = first; second = second; third = third }

-- ---- the code and the words, in which names stand
abbrev pub words_of : FileFinding → WordsView
words_of NoDistributedApplication = words (codes "no_distributed_application: no application is distributed, so none fails over") [] [] []
words_of (NoLists n) = words (codes "no_lists: ") (codes " names no other node that it waits for: live it connects to nobody, and may run an instance of its own") [] []
words_of (OneSidedLists n m) = words (codes "one_sided_lists: ") (codes " lists ") (codes ", but isn't in its lists") []
words_of (IncompleteLists n m) = words (codes "incomplete_lists: ") (codes " and ") (codes " share a distributed application, but neither lists the other") []
words_of (ListsWithoutTimeout n) = words (codes "lists_without_timeout: ") (codes " has lists and no sync_nodes_timeout: it waits for nobody, and may run an instance of its own") [] []
words_of (SyncTimeoutZero n) = words (codes "sync_timeout_zero: sync_nodes_timeout of ") (codes " is 0, which ends a live node") [] []
words_of (SyncTimeoutTooLarge n) = words (codes "sync_timeout_too_large: sync_nodes_timeout of ") (codes " is above 4294967295, and no live timer takes more") [] []
words_of (FailoverTimeoutTooLarge a) = words (codes "failover_timeout_too_large: the timeout of ") (codes " is above 4294967295, and no live timer takes more") [] []
words_of (TupleNotInOrder a) = words (codes "tuple_not_in_order: a tuple of ") (codes " isn't in the order of names, by which live nodes go") [] []
words_of (TwoTuples a) = words (codes "two_tuples: the list of ") (codes " has two tuples, for which live nodes can send messages for ever") [] []
words_of (BootBeforeDependency n a d) = words (codes "boot_before_dependency: ") (codes " boots ") (codes " before ") (codes ", on which it depends")
words_of (CrossedBootLists a b n x) = words (codes "crossed_boot_lists: ") (codes " boots ") (codes " before ") (codes ", and another node the other way round: live both boots can hang")
words_of (NotBootedAtListedNode n a) = words (codes "not_booted_at_listed_node: ") (codes " may run ") (codes ", but doesn't boot it") []
words_of (PermanentDistributed a) = words (codes "permanent_distributed: ") (codes " is distributed and booted as permanent: its end takes the node down, and live it fails over nowhere") [] []
words_of (LocalAtSeveralNodes a) = words (codes "local_at_several_nodes: several nodes boot ") (codes ", which isn't distributed: each runs an instance of its own") [] []
words_of (DependencyCircle a) = words (codes "dependency_circle: ") (codes " depends on itself by way of others, and never starts") [] []
words_of (LostTogether a b) = words (codes "lost_together: ") (codes " and ") (codes " may be lost with one node, and then can wait for one another for ever") []

-- ---- the names
abbrev pub names_of : ClusterView → FileFinding → NamesView
names_of c NoDistributedApplication = names [] [] []
names_of c (NoLists n) = names (node_word c n) [] []
names_of c (OneSidedLists n m) = names (node_word c n) (node_word c m) []
names_of c (IncompleteLists n m) = names (node_word c n) (node_word c m) []
names_of c (ListsWithoutTimeout n) = names (node_word c n) [] []
names_of c (SyncTimeoutZero n) = names (node_word c n) [] []
names_of c (SyncTimeoutTooLarge n) = names (node_word c n) [] []
names_of c (FailoverTimeoutTooLarge a) = names (app_word c a) [] []
names_of c (TupleNotInOrder a) = names (app_word c a) [] []
names_of c (TwoTuples a) = names (app_word c a) [] []
names_of c (BootBeforeDependency n a d) = names (node_word c n) (app_word c a) (dep_word c d)
names_of c (CrossedBootLists a b n x) = names (node_word c n) (app_word c a) (app_word c b)
names_of c (NotBootedAtListedNode n a) = names (node_word c n) (app_word c a) []
names_of c (PermanentDistributed a) = names (app_word c a) [] []
names_of c (LocalAtSeveralNodes a) = names (app_word c a) [] []
names_of c (DependencyCircle a) = names (app_word c a) [] []
names_of c (LostTogether a b) = names (app_word c a) (app_word c b) []

-- ---- what it is worth
-- A warning can't be meant, or by it live nodes end, hang, start an application twice or run it elsewhere: an operator has to act. These
-- are hints: live nodes often agreed where a file had them.
abbrev pub is_warning : FileFinding → Bool
is_warning (TwoTuples a) = false
is_warning (NotBootedAtListedNode n a) = false
is_warning (PermanentDistributed a) = false
is_warning (LocalAtSeveralNodes a) = false
is_warning (LostTogether a b) = false
is_warning _ = true

-- ---- its line: that of the node of which it speaks, and else of the application
abbrev pub file_line : LinesView → FileFinding → Option ℕ
file_line l NoDistributedApplication = None
file_line l (NoLists n) = node_line l n
file_line l (OneSidedLists n m) = node_line l n
file_line l (IncompleteLists n m) = node_line l n
file_line l (ListsWithoutTimeout n) = node_line l n
file_line l (SyncTimeoutZero n) = node_line l n
file_line l (SyncTimeoutTooLarge n) = node_line l n
file_line l (FailoverTimeoutTooLarge a) = app_line l a
file_line l (TupleNotInOrder a) = app_line l a
file_line l (TwoTuples a) = app_line l a
file_line l (BootBeforeDependency n a d) = node_line l n
file_line l (CrossedBootLists a b n x) = node_line l n
file_line l (NotBootedAtListedNode n a) = node_line l n
file_line l (PermanentDistributed a) = app_line l a
file_line l (LocalAtSeveralNodes a) = app_line l a
file_line l (DependencyCircle a) = app_line l a
file_line l (LostTogether a b) = app_line l a
