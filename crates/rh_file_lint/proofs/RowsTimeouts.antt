-- Worked rows of timeouts.
use Rattle.std.proofs.Common.{◌≡◌, [], ◌∷◌, None, refl}
use Rattle.rh_model.specs.declared.settings.SyncWait.TheVariants.{Unset, After, Forever}
use Rattle.rh_state.specs.Numbers.{nodes_of, apps_of}
use Rattle.rh_file_lint.specs.declared.finding.FileFinding.TheVariants.{ListsWithoutTimeout, SyncTimeoutZero, SyncTimeoutTooLarge, FailoverTimeoutTooLarge}
use Rattle.rh_file_lint.specs.SyncLists.{has_lists}
use Rattle.rh_file_lint.specs.Timeouts.{lacks_timeout}
use Rattle.rh_file_lint.specs.Findings.{lists_without_timeout, sync_timeout_zero, sync_timeout_too_large, failover_timeout_too_large, of_timeouts}
use Rattle.rh_file_lint.proofs.Samples.{n1, n2, n3, b, node, app, at, plain, both, cluster, first_node, second_node, with_waits, with_apps}

-- the shortest one, the longest one that a live timer takes, and one without an end
in_order : of_timeouts (with_waits (After 1) (After 4294967295) Forever) ≡ []
unfolding of_timeouts lists_without_timeout sync_timeout_zero sync_timeout_too_large failover_timeout_too_large lacks_timeout has_lists nodes_of apps_of
in_order = refl

without_timeout : of_timeouts (with_waits (After 5000) Unset Forever) ≡ ListsWithoutTimeout n2 ∷ []
unfolding of_timeouts lists_without_timeout sync_timeout_zero sync_timeout_too_large failover_timeout_too_large lacks_timeout has_lists nodes_of apps_of
without_timeout = refl

-- a node without lists needs none, nor one that lists itself
nothing_to_wait_for : of_timeouts (cluster (first_node ∷ node [] [] Unset both ∷ node (n3 ∷ []) [] Unset both ∷ []) (app [] (at 0 plain) ∷ app [] None ∷ app [] None ∷ [])) ≡ []
unfolding of_timeouts lists_without_timeout sync_timeout_zero sync_timeout_too_large failover_timeout_too_large lacks_timeout has_lists nodes_of apps_of
nothing_to_wait_for = refl

-- a timeout of 0, also without lists
zero_wait : of_timeouts (cluster (first_node ∷ second_node ∷ node [] [] (After 0) both ∷ []) (app [] (at 0 plain) ∷ app [] None ∷ app [] None ∷ [])) ≡ SyncTimeoutZero n3 ∷ []
unfolding of_timeouts lists_without_timeout sync_timeout_zero sync_timeout_too_large failover_timeout_too_large lacks_timeout has_lists nodes_of apps_of
zero_wait = refl

too_long : of_timeouts (with_waits (After 4294967296) (After 5000) (After 5000)) ≡ SyncTimeoutTooLarge n1 ∷ []
unfolding of_timeouts lists_without_timeout sync_timeout_zero sync_timeout_too_large failover_timeout_too_large lacks_timeout has_lists nodes_of apps_of
too_long = refl

-- of applications, one at the limit and one above it; a failover timeout of 0 is in order
fails_over_late : of_timeouts (with_apps (app [] (at 4294967295 plain) ∷ app [] (at 4294967296 plain) ∷ app [] (at 0 plain) ∷ [])) ≡ FailoverTimeoutTooLarge b ∷ []
unfolding of_timeouts lists_without_timeout sync_timeout_zero sync_timeout_too_large failover_timeout_too_large lacks_timeout has_lists nodes_of apps_of
fails_over_late = refl
