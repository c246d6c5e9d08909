-- Worked rows of lists of nodes for which nodes wait.
use Rattle.std.proofs.Common.{◌≡◌, [], ◌∷◌, None, refl}
use Rattle.rh_state.specs.Numbers.{nodes_of, apps_of}
use Rattle.rh_file_lint.specs.declared.finding.FileFinding.TheVariants.{NoDistributedApplication, NoLists, OneSidedLists, IncompleteLists}
use Rattle.rh_file_lint.specs.Cluster.{some_node, some_app}
use Rattle.rh_file_lint.specs.SyncLists.{names, has_lists, share_app, has_no_lists, is_one_sided, is_incomplete}
use Rattle.rh_file_lint.specs.Findings.{no_distributed_application, no_lists, one_sided_lists, incomplete_lists, of_sync_lists}
use Rattle.rh_file_lint.proofs.Samples.{n1, n2, n3, app, at, plain, cluster, first_node, second_node, third_node, with_lists, with_apps}

-- ---- no application is distributed
none_distributed : no_distributed_application (with_apps (app [] None ∷ app [] None ∷ app [] None ∷ [])) ≡ NoDistributedApplication ∷ []
unfolding no_distributed_application some_app apps_of
none_distributed = refl

-- one is enough, the last one too
one_distributed : no_distributed_application (with_apps (app [] None ∷ app [] None ∷ app [] (at 0 plain) ∷ [])) ≡ []
unfolding no_distributed_application some_app apps_of
one_distributed = refl

-- ---- lists
-- each node names the two others, in one of its lists or the other
complete : of_sync_lists (with_apps (app [] (at 0 plain) ∷ app [] None ∷ app [] None ∷ [])) ≡ []
unfolding of_sync_lists no_lists one_sided_lists incomplete_lists has_no_lists is_one_sided is_incomplete names has_lists share_app some_node some_app nodes_of apps_of
complete = refl

-- a node without lists, which the others name: that is told of it alone
without_lists : of_sync_lists (with_lists (n2 ∷ n3 ∷ []) [] (n1 ∷ n2 ∷ [])) ≡ NoLists n2 ∷ []
unfolding of_sync_lists no_lists one_sided_lists incomplete_lists has_no_lists is_one_sided is_incomplete names has_lists share_app some_node some_app nodes_of apps_of
without_lists = refl

-- a list of itself is none
names_itself : of_sync_lists (with_lists (n2 ∷ n3 ∷ []) (n2 ∷ []) (n1 ∷ n2 ∷ [])) ≡ NoLists n2 ∷ []
unfolding of_sync_lists no_lists one_sided_lists incomplete_lists has_no_lists is_one_sided is_incomplete names has_lists share_app some_node some_app nodes_of apps_of
names_itself = refl

-- no node has lists
nobody_has : of_sync_lists (with_lists [] [] []) ≡ NoLists n1 ∷ NoLists n2 ∷ NoLists n3 ∷ []
unfolding of_sync_lists no_lists one_sided_lists incomplete_lists has_no_lists is_one_sided is_incomplete names has_lists share_app some_node some_app nodes_of apps_of
nobody_has = refl

-- one that shares no application with another one needs none, nor need others name it
alone : of_sync_lists (cluster
    (record first_node { mandatory = n2 ∷ [] } ∷ record second_node { optional = [] } ∷ record third_node { optional = [] } ∷ [])
    (app [] (at 0 ((n1 ∷ []) ∷ (n2 ∷ []) ∷ [])) ∷ app [] (at 0 ((n3 ∷ []) ∷ [])) ∷ app [] None ∷ [])) ≡ []
unfolding of_sync_lists no_lists one_sided_lists incomplete_lists has_no_lists is_one_sided is_incomplete names has_lists share_app some_node some_app nodes_of apps_of
alone = refl

-- a node names one that has lists without it
one_sided : of_sync_lists (with_lists (n2 ∷ n3 ∷ []) (n1 ∷ n3 ∷ []) (n1 ∷ [])) ≡ OneSidedLists n2 n3 ∷ []
unfolding of_sync_lists no_lists one_sided_lists incomplete_lists has_no_lists is_one_sided is_incomplete names has_lists share_app some_node some_app nodes_of apps_of
one_sided = refl

-- neither names the other one, and both have lists: it is told of both
incomplete : of_sync_lists (with_lists (n2 ∷ n3 ∷ []) (n1 ∷ []) (n1 ∷ [])) ≡ IncompleteLists n2 n3 ∷ IncompleteLists n3 n2 ∷ []
unfolding of_sync_lists no_lists one_sided_lists incomplete_lists has_no_lists is_one_sided is_incomplete names has_lists share_app some_node some_app nodes_of apps_of
incomplete = refl

-- a node's lists lack one that has none
lacks_one_without : of_sync_lists (with_lists (n2 ∷ []) (n1 ∷ []) []) ≡ NoLists n3 ∷ IncompleteLists n1 n3 ∷ IncompleteLists n2 n3 ∷ []
unfolding of_sync_lists no_lists one_sided_lists incomplete_lists has_no_lists is_one_sided is_incomplete names has_lists share_app some_node some_app nodes_of apps_of
lacks_one_without = refl
