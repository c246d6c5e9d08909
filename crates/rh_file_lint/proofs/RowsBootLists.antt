-- Worked rows of boot lists.
use Rattle.std.proofs.Common.{◌≡◌, [], ◌∷◌, false, None, refl}
use Rattle.rh_model.specs.declared.settings.Dep.TheVariants.{Listed, Platform}
use Rattle.rh_model.specs.declared.settings.Restart.TheVariants.{Permanent, Transient, Temporary}
use Rattle.rh_state.specs.Numbers.{nodes_of, apps_of}
use Rattle.rh_file_lint.specs.declared.finding.FileFinding.TheVariants.{BootBeforeDependency, CrossedBootLists, NotBootedAtListedNode, PermanentDistributed, LocalAtSeveralNodes}
use Rattle.rh_file_lint.specs.Cluster.{some_node}
use Rattle.rh_file_lint.specs.BootLists.{first_unmet, unmet_dep, isnt_booted, is_permanent_somewhere, runs_several_times, first_booting}
use Rattle.rh_file_lint.specs.Findings.{boot_before_dependency, crossed_with, crossed_boot_lists, not_booted_at_listed_node, permanent_distributed, local_at_several_nodes, of_boot_lists}
use Rattle.rh_file_lint.proofs.Samples.{n1, n2, n3, a, b, c, app, at, plain, both, first_node, second_node, third_node, with_boots, with_apps, cluster}

-- ---- dependencies
-- each application behind what it needs, and a platform name that all nodes have
dependencies_first : of_boot_lists (with_apps (app [] (at 0 plain) ∷ app (Listed a ∷ Platform 0 ∷ []) (at 1000 plain) ∷ app (Listed b ∷ Listed a ∷ []) None ∷ [])) ≡ []
unfolding of_boot_lists boot_before_dependency crossed_boot_lists crossed_with not_booted_at_listed_node permanent_distributed local_at_several_nodes first_unmet unmet_dep first_booting isnt_booted is_permanent_somewhere runs_several_times some_node nodes_of apps_of
dependencies_first = refl

-- a stands before b at each node; the first one that isn't met is told
before_dependency : of_boot_lists (with_apps (app (Platform 0 ∷ Listed b ∷ Listed c ∷ []) (at 0 plain) ∷ app [] (at 1000 plain) ∷ app [] None ∷ []))
    ≡ BootBeforeDependency n1 a (Listed b) ∷ BootBeforeDependency n2 a (Listed b) ∷ BootBeforeDependency n3 a (Listed b) ∷ []
unfolding of_boot_lists boot_before_dependency crossed_boot_lists crossed_with not_booted_at_listed_node permanent_distributed local_at_several_nodes first_unmet unmet_dep first_booting isnt_booted is_permanent_somewhere runs_several_times some_node nodes_of apps_of
before_dependency = refl

-- n2 and n3 don't boot what b needs
not_there : of_boot_lists (with_boots ((c, Temporary) ∷ (a, Temporary) ∷ (b, Temporary) ∷ []) both both (app [] (at 0 plain) ∷ app (Listed c ∷ []) (at 1000 plain) ∷ app [] None ∷ []))
    ≡ BootBeforeDependency n2 b (Listed c) ∷ BootBeforeDependency n3 b (Listed c) ∷ []
unfolding of_boot_lists boot_before_dependency crossed_boot_lists crossed_with not_booted_at_listed_node permanent_distributed local_at_several_nodes first_unmet unmet_dep first_booting isnt_booted is_permanent_somewhere runs_several_times some_node nodes_of apps_of
not_there = refl

-- a platform name that n2 doesn't have
no_platform : of_boot_lists (cluster (first_node ∷ record second_node { platforms = false ∷ [] } ∷ third_node ∷ [])
    (app [] (at 0 plain) ∷ app (Platform 0 ∷ []) (at 1000 plain) ∷ app [] None ∷ [])) ≡ BootBeforeDependency n2 b (Platform 0) ∷ []
unfolding of_boot_lists boot_before_dependency crossed_boot_lists crossed_with not_booted_at_listed_node permanent_distributed local_at_several_nodes first_unmet unmet_dep first_booting isnt_booted is_permanent_somewhere runs_several_times some_node nodes_of apps_of
no_platform = refl

-- ---- opposite orders
-- n1 and n2 boot a before b, n3 the other way round
opposite : of_boot_lists (with_boots both both ((b, Temporary) ∷ (a, Temporary) ∷ []) (app [] (at 0 plain) ∷ app [] (at 1000 plain) ∷ app [] None ∷ []))
    ≡ CrossedBootLists a b n1 n3 ∷ []
unfolding of_boot_lists boot_before_dependency crossed_boot_lists crossed_with not_booted_at_listed_node permanent_distributed local_at_several_nodes first_unmet unmet_dep first_booting isnt_booted is_permanent_somewhere runs_several_times some_node nodes_of apps_of
opposite = refl

-- one of the two isn't distributed
one_is_local : of_boot_lists (with_boots ((a, Temporary) ∷ (c, Temporary) ∷ []) ((b, Temporary) ∷ (a, Temporary) ∷ []) ((a, Temporary) ∷ (b, Temporary) ∷ [])
    (app [] (at 0 plain) ∷ app [] None ∷ app [] None ∷ [])) ≡ LocalAtSeveralNodes b ∷ []
unfolding of_boot_lists boot_before_dependency crossed_boot_lists crossed_with not_booted_at_listed_node permanent_distributed local_at_several_nodes first_unmet unmet_dep first_booting isnt_booted is_permanent_somewhere runs_several_times some_node nodes_of apps_of
one_is_local = refl

-- ---- where nodes boot
-- b lists n3, which doesn't boot it; a doesn't list n3
not_booted : of_boot_lists (with_boots both both [] (app [] (at 0 ((n1 ∷ []) ∷ (n2 ∷ []) ∷ [])) ∷ app [] (at 1000 plain) ∷ app [] None ∷ []))
    ≡ NotBootedAtListedNode n3 b ∷ []
unfolding of_boot_lists boot_before_dependency crossed_boot_lists crossed_with not_booted_at_listed_node permanent_distributed local_at_several_nodes first_unmet unmet_dep first_booting isnt_booted is_permanent_somewhere runs_several_times some_node nodes_of apps_of
not_booted = refl

-- one node boots b as permanent; transient is in order, and so is a local one that is permanent
permanent : of_boot_lists (with_boots ((a, Transient) ∷ (b, Temporary) ∷ (c, Permanent) ∷ []) both ((a, Temporary) ∷ (b, Permanent) ∷ [])
    (app [] (at 0 plain) ∷ app [] (at 1000 plain) ∷ app [] None ∷ [])) ≡ PermanentDistributed b ∷ []
unfolding of_boot_lists boot_before_dependency crossed_boot_lists crossed_with not_booted_at_listed_node permanent_distributed local_at_several_nodes first_unmet unmet_dep first_booting isnt_booted is_permanent_somewhere runs_several_times some_node nodes_of apps_of
permanent = refl

-- n1 boots c alone, and two nodes boot b, which isn't distributed either
several : of_boot_lists (with_boots ((a, Temporary) ∷ (c, Temporary) ∷ []) both both (app [] (at 0 plain) ∷ app [] None ∷ app [] None ∷ [])) ≡ LocalAtSeveralNodes b ∷ []
unfolding of_boot_lists boot_before_dependency crossed_boot_lists crossed_with not_booted_at_listed_node permanent_distributed local_at_several_nodes first_unmet unmet_dep first_booting isnt_booted is_permanent_somewhere runs_several_times some_node nodes_of apps_of
several = refl
