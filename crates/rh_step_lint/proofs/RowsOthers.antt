-- Permissions, dependencies, losses and ends, computed from the definitions: each kind where it holds, and where it just doesn't.
use Rattle.std.proofs.Common.{◌≡◌, [], ◌∷◌, true, false, Some, None, refl}
use Rattle.rh_model.specs.Needs.{needed_apps}
use Rattle.rh_model.specs.declared.settings.Dep.TheVariants.{Listed}
use Rattle.rh_model.specs.declared.settings.Restart.TheVariants.{Permanent, Transient, Temporary}
use Rattle.rh_model.specs.declared.settings.SyncWait.TheVariants.{Unset}
use Rattle.rh_state.specs.Numbers.{nodes_of, apps_of}
use Rattle.rh_state.specs.declared.status.Mode.TheVariants.{Up, Down}
use Rattle.rh_state.specs.declared.status.Standing.TheVariants.{Quiet, Wanted, Running, Lost}
use Rattle.rh_state.specs.declared.status.Timer.TheVariants.{Failover}
use Rattle.rh_rules.specs.declared.event.Event.TheVariants.{Boot, Tick, Start, Stop, Permit, Takeover, Exit, StartAll}
use Rattle.rh_step_findings.specs.After.{comes_up, ends, is_up_after, starts_now, is_started_after, is_permitted_after}
use Rattle.rh_step_findings.specs.Candidates.{is_in_tuple, takes_part, is_available, is_outranked, is_best, asks_all, is_idle, holds_up}
use Rattle.rh_step_findings.specs.Tries.{runner, fails_over, is_called, is_permitted_by, tries, stays, asks_others}
use Rattle.rh_step_findings.specs.Others.{stands_so, other_so}
use Rattle.rh_step_findings.specs.Lacks.{boots_before, lacks_so, lacking_so}
use Rattle.rh_step_findings.specs.Pairs.{found, is_behind, is_served, is_regained, starts_forbidden, starts_below, takes_back, starts_quiet, is_behind_tuple, is_placed_behind_tuple, permits_quiet, forbids, forbids_runner, forbids_last, forbids_twice, stops_forbidden, boots_now, boots_to_run, awaited, given_up, lost_with, is_helped, is_booted_with_phases, goes_to, ends_with, moves_unready}
use Rattle.rh_step_findings.specs.declared.code.Code.TheVariants as code
use Rattle.rh_step_findings.specs.declared.finding.StepFinding.TheVariants.{PermitStartsQuiet, DependencyForbiddenAtStart, BeforeDependency, ForbidMoves, ForbidOtherNotStarted, StartWithinTime, NobodySawTheLoss, OwnEnd, KindAfterLoss, DependencyGone, NeedsADistributedOne, ForbidWithUnlistedNodes, TakeoverNotStarted, LocalForbiddenTwice, LocalStopWhileForbidden}
use Rattle.rh_step_lint.proofs.Scene.{n1, n2, n3, n4, db, web, shop, site, node, apps, plain, cluster, db_needs, site_needs, all_up, none, all_quiet, web_at, shop_at, scene, forbidden_at_n1, within}

-- ---- permissions
-- permitted where it is held ready and stopped, or where it runs elsewhere
permitted_quiet : found (scene all_up none ([] ∷ (web ∷ []) ∷ [] ∷ [] ∷ []) all_quiet) (Permit n2 web true) code.PermitStartsQuiet n2 web ≡ Some (PermitStartsQuiet n2 web)
unfolding found asks_others tries starts_now is_available is_up_after comes_up ends is_permitted_after is_started_after runner is_best is_outranked asks_all is_in_tuple is_idle holds_up stands_so other_so nodes_of apps_of fails_over is_called is_permitted_by starts_forbidden starts_below is_behind is_served is_regained takes_back starts_quiet is_behind_tuple is_placed_behind_tuple permits_quiet forbids forbids_runner forbids_last stays takes_part forbids_twice stops_forbidden boots_now boots_to_run awaited given_up lost_with is_helped is_booted_with_phases goes_to ends_with moves_unready boots_before lacks_so lacking_so needed_apps
permitted_quiet = refl

permitted_standby : found (scene all_up ((web ∷ []) ∷ [] ∷ [] ∷ [] ∷ []) ([] ∷ (web ∷ []) ∷ [] ∷ [] ∷ []) (web_at (Running n1))) (Permit n2 web true) code.PermitStartsQuiet n2 web ≡ None
unfolding found asks_others tries starts_now is_available is_up_after comes_up ends is_permitted_after is_started_after runner is_best is_outranked asks_all is_in_tuple is_idle holds_up stands_so other_so nodes_of apps_of fails_over is_called is_permitted_by starts_forbidden starts_below is_behind is_served is_regained takes_back starts_quiet is_behind_tuple is_placed_behind_tuple permits_quiet forbids forbids_runner forbids_last stays takes_part forbids_twice stops_forbidden boots_now boots_to_run awaited given_up lost_with is_helped is_booted_with_phases goes_to ends_with moves_unready boots_before lacks_so lacking_so needed_apps
permitted_standby = refl

-- forbidden where it runs: both others hold it ready, or n3 doesn't
forbid_with_all_ready : found (scene all_up ((web ∷ []) ∷ [] ∷ [] ∷ [] ∷ []) ([] ∷ (web ∷ []) ∷ (web ∷ []) ∷ [] ∷ []) (web_at (Running n1))) (Permit n1 web false) code.ForbidMoves n1 web ≡ Some (ForbidMoves n1 web n2)
unfolding found asks_others tries starts_now is_available is_up_after comes_up ends is_permitted_after is_started_after runner is_best is_outranked asks_all is_in_tuple is_idle holds_up stands_so other_so nodes_of apps_of fails_over is_called is_permitted_by starts_forbidden starts_below is_behind is_served is_regained takes_back starts_quiet is_behind_tuple is_placed_behind_tuple permits_quiet forbids forbids_runner forbids_last stays takes_part forbids_twice stops_forbidden boots_now boots_to_run awaited given_up lost_with is_helped is_booted_with_phases goes_to ends_with moves_unready boots_before lacks_so lacking_so needed_apps
forbid_with_all_ready = refl

forbid_with_one_idle : found (scene all_up ((web ∷ []) ∷ [] ∷ [] ∷ [] ∷ []) ([] ∷ (web ∷ []) ∷ [] ∷ [] ∷ []) (web_at (Running n1))) (Permit n1 web false) code.ForbidMoves n1 web ≡ None
unfolding found asks_others tries starts_now is_available is_up_after comes_up ends is_permitted_after is_started_after runner is_best is_outranked asks_all is_in_tuple is_idle holds_up stands_so other_so nodes_of apps_of fails_over is_called is_permitted_by starts_forbidden starts_below is_behind is_served is_regained takes_back starts_quiet is_behind_tuple is_placed_behind_tuple permits_quiet forbids forbids_runner forbids_last stays takes_part forbids_twice stops_forbidden boots_now boots_to_run awaited given_up lost_with is_helped is_booted_with_phases goes_to ends_with moves_unready boots_before lacks_so lacking_so needed_apps
forbid_with_one_idle = refl

forbid_beside_an_idle_one : found (scene all_up ((web ∷ []) ∷ [] ∷ [] ∷ [] ∷ []) ([] ∷ (web ∷ []) ∷ [] ∷ [] ∷ []) (web_at (Running n1))) (Permit n1 web false) code.ForbidOtherNotStarted n1 web ≡ Some (ForbidOtherNotStarted n1 web n3)
unfolding found asks_others tries starts_now is_available is_up_after comes_up ends is_permitted_after is_started_after runner is_best is_outranked asks_all is_in_tuple is_idle holds_up stands_so other_so nodes_of apps_of fails_over is_called is_permitted_by starts_forbidden starts_below is_behind is_served is_regained takes_back starts_quiet is_behind_tuple is_placed_behind_tuple permits_quiet forbids forbids_runner forbids_last stays takes_part forbids_twice stops_forbidden boots_now boots_to_run awaited given_up lost_with is_helped is_booted_with_phases goes_to ends_with moves_unready boots_before lacks_so lacking_so needed_apps
forbid_beside_an_idle_one = refl

forbid_beside_ready_ones : found (scene all_up ((web ∷ []) ∷ [] ∷ [] ∷ [] ∷ []) ([] ∷ (web ∷ []) ∷ (web ∷ []) ∷ [] ∷ []) (web_at (Running n1))) (Permit n1 web false) code.ForbidOtherNotStarted n1 web ≡ None
unfolding found asks_others tries starts_now is_available is_up_after comes_up ends is_permitted_after is_started_after runner is_best is_outranked asks_all is_in_tuple is_idle holds_up stands_so other_so nodes_of apps_of fails_over is_called is_permitted_by starts_forbidden starts_below is_behind is_served is_regained takes_back starts_quiet is_behind_tuple is_placed_behind_tuple permits_quiet forbids forbids_runner forbids_last stays takes_part forbids_twice stops_forbidden boots_now boots_to_run awaited given_up lost_with is_helped is_booted_with_phases goes_to ends_with moves_unready boots_before lacks_so lacking_so needed_apps
forbid_beside_ready_ones = refl

forbid_a_standby : found (scene all_up ((web ∷ []) ∷ [] ∷ [] ∷ [] ∷ []) ([] ∷ (web ∷ []) ∷ [] ∷ [] ∷ []) (web_at (Running n1))) (Permit n2 web false) code.ForbidOtherNotStarted n2 web ≡ None
unfolding found asks_others tries starts_now is_available is_up_after comes_up ends is_permitted_after is_started_after runner is_best is_outranked asks_all is_in_tuple is_idle holds_up stands_so other_so nodes_of apps_of fails_over is_called is_permitted_by starts_forbidden starts_below is_behind is_served is_regained takes_back starts_quiet is_behind_tuple is_placed_behind_tuple permits_quiet forbids forbids_runner forbids_last stays takes_part forbids_twice stops_forbidden boots_now boots_to_run awaited given_up lost_with is_helped is_booted_with_phases goes_to ends_with moves_unready boots_before lacks_so lacking_so needed_apps
forbid_a_standby = refl

-- no other node of the list is up, and n4 takes part; n4 is down; n2 may run it
forbid_with_unlisted : found (scene (Up ∷ Down ∷ Down ∷ Up ∷ []) ((web ∷ []) ∷ [] ∷ [] ∷ [] ∷ []) none (web_at (Running n1))) (Permit n1 web false) code.ForbidWithUnlistedNodes n1 web ≡ Some (ForbidWithUnlistedNodes n1 web n4)
unfolding found asks_others tries starts_now is_available is_up_after comes_up ends is_permitted_after is_started_after runner is_best is_outranked asks_all is_in_tuple is_idle holds_up stands_so other_so nodes_of apps_of fails_over is_called is_permitted_by starts_forbidden starts_below is_behind is_served is_regained takes_back starts_quiet is_behind_tuple is_placed_behind_tuple permits_quiet forbids forbids_runner forbids_last stays takes_part forbids_twice stops_forbidden boots_now boots_to_run awaited given_up lost_with is_helped is_booted_with_phases goes_to ends_with moves_unready boots_before lacks_so lacking_so needed_apps
forbid_with_unlisted = refl

forbid_alone : found (scene (Up ∷ Down ∷ Down ∷ Down ∷ []) ((web ∷ []) ∷ [] ∷ [] ∷ [] ∷ []) none (web_at (Running n1))) (Permit n1 web false) code.ForbidWithUnlistedNodes n1 web ≡ None
unfolding found asks_others tries starts_now is_available is_up_after comes_up ends is_permitted_after is_started_after runner is_best is_outranked asks_all is_in_tuple is_idle holds_up stands_so other_so nodes_of apps_of fails_over is_called is_permitted_by starts_forbidden starts_below is_behind is_served is_regained takes_back starts_quiet is_behind_tuple is_placed_behind_tuple permits_quiet forbids forbids_runner forbids_last stays takes_part forbids_twice stops_forbidden boots_now boots_to_run awaited given_up lost_with is_helped is_booted_with_phases goes_to ends_with moves_unready boots_before lacks_so lacking_so needed_apps
forbid_alone = refl

forbid_beside_a_listed_one : found (scene (Up ∷ Up ∷ Down ∷ Up ∷ []) ((web ∷ []) ∷ [] ∷ [] ∷ [] ∷ []) none (web_at (Running n1))) (Permit n1 web false) code.ForbidWithUnlistedNodes n1 web ≡ None
unfolding found asks_others tries starts_now is_available is_up_after comes_up ends is_permitted_after is_started_after runner is_best is_outranked asks_all is_in_tuple is_idle holds_up stands_so other_so nodes_of apps_of fails_over is_called is_permitted_by starts_forbidden starts_below is_behind is_served is_regained takes_back starts_quiet is_behind_tuple is_placed_behind_tuple permits_quiet forbids forbids_runner forbids_last stays takes_part forbids_twice stops_forbidden boots_now boots_to_run awaited given_up lost_with is_helped is_booted_with_phases goes_to ends_with moves_unready boots_before lacks_so lacking_so needed_apps
forbid_beside_a_listed_one = refl

-- a local one that waits since it is forbidden is forbidden once more; one that is permitted
local_twice : found (forbidden_at_n1 false true (scene all_up none ((db ∷ []) ∷ [] ∷ [] ∷ [] ∷ []) all_quiet)) (Permit n1 db false) code.LocalForbiddenTwice n1 db ≡ Some (LocalForbiddenTwice n1 db)
unfolding found asks_others tries starts_now is_available is_up_after comes_up ends is_permitted_after is_started_after runner is_best is_outranked asks_all is_in_tuple is_idle holds_up stands_so other_so nodes_of apps_of fails_over is_called is_permitted_by starts_forbidden starts_below is_behind is_served is_regained takes_back starts_quiet is_behind_tuple is_placed_behind_tuple permits_quiet forbids forbids_runner forbids_last stays takes_part forbids_twice stops_forbidden boots_now boots_to_run awaited given_up lost_with is_helped is_booted_with_phases goes_to ends_with moves_unready boots_before lacks_so lacking_so needed_apps
local_twice = refl

local_once : found (forbidden_at_n1 true true (scene all_up none ((db ∷ []) ∷ [] ∷ [] ∷ [] ∷ []) all_quiet)) (Permit n1 db false) code.LocalForbiddenTwice n1 db ≡ None
unfolding found asks_others tries starts_now is_available is_up_after comes_up ends is_permitted_after is_started_after runner is_best is_outranked asks_all is_in_tuple is_idle holds_up stands_so other_so nodes_of apps_of fails_over is_called is_permitted_by starts_forbidden starts_below is_behind is_served is_regained takes_back starts_quiet is_behind_tuple is_placed_behind_tuple permits_quiet forbids forbids_runner forbids_last stays takes_part forbids_twice stops_forbidden boots_now boots_to_run awaited given_up lost_with is_helped is_booted_with_phases goes_to ends_with moves_unready boots_before lacks_so lacking_so needed_apps
local_once = refl

-- or is stopped
local_stopped : found (forbidden_at_n1 false true (scene all_up none ((db ∷ []) ∷ [] ∷ [] ∷ [] ∷ []) all_quiet)) (Stop n1 db) code.LocalStopWhileForbidden n1 db ≡ Some (LocalStopWhileForbidden n1 db)
unfolding found asks_others tries starts_now is_available is_up_after comes_up ends is_permitted_after is_started_after runner is_best is_outranked asks_all is_in_tuple is_idle holds_up stands_so other_so nodes_of apps_of fails_over is_called is_permitted_by starts_forbidden starts_below is_behind is_served is_regained takes_back starts_quiet is_behind_tuple is_placed_behind_tuple permits_quiet forbids forbids_runner forbids_last stays takes_part forbids_twice stops_forbidden boots_now boots_to_run awaited given_up lost_with is_helped is_booted_with_phases goes_to ends_with moves_unready boots_before lacks_so lacking_so needed_apps
local_stopped = refl

local_stopped_elsewhere : found (forbidden_at_n1 false true (scene all_up none ((db ∷ []) ∷ [] ∷ [] ∷ [] ∷ []) all_quiet)) (Stop n2 db) code.LocalStopWhileForbidden n1 db ≡ None
unfolding found asks_others tries starts_now is_available is_up_after comes_up ends is_permitted_after is_started_after runner is_best is_outranked asks_all is_in_tuple is_idle holds_up stands_so other_so nodes_of apps_of fails_over is_called is_permitted_by starts_forbidden starts_below is_behind is_served is_regained takes_back starts_quiet is_behind_tuple is_placed_behind_tuple permits_quiet forbids forbids_runner forbids_last stays takes_part forbids_twice stops_forbidden boots_now boots_to_run awaited given_up lost_with is_helped is_booted_with_phases goes_to ends_with moves_unready boots_before lacks_so lacking_so needed_apps
local_stopped_elsewhere = refl

-- ---- dependencies
-- db is booted before web, and is forbidden, or permitted
forbidden_dependency : found (forbidden_at_n1 false true (scene (Down ∷ Up ∷ Up ∷ Up ∷ []) none none all_quiet)) (Boot n1) code.DependencyForbiddenAtStart n1 web ≡ Some (DependencyForbiddenAtStart n1 web db)
unfolding found asks_others tries starts_now is_available is_up_after comes_up ends is_permitted_after is_started_after runner is_best is_outranked asks_all is_in_tuple is_idle holds_up stands_so other_so nodes_of apps_of fails_over is_called is_permitted_by starts_forbidden starts_below is_behind is_served is_regained takes_back starts_quiet is_behind_tuple is_placed_behind_tuple permits_quiet forbids forbids_runner forbids_last stays takes_part forbids_twice stops_forbidden boots_now boots_to_run awaited given_up lost_with is_helped is_booted_with_phases goes_to ends_with moves_unready boots_before lacks_so lacking_so needed_apps
forbidden_dependency = refl

permitted_dependency : found (scene (Down ∷ Up ∷ Up ∷ Up ∷ []) none none all_quiet) (Boot n1) code.DependencyForbiddenAtStart n1 web ≡ None
unfolding found asks_others tries starts_now is_available is_up_after comes_up ends is_permitted_after is_started_after runner is_best is_outranked asks_all is_in_tuple is_idle holds_up stands_so other_so nodes_of apps_of fails_over is_called is_permitted_by starts_forbidden starts_below is_behind is_served is_regained takes_back starts_quiet is_behind_tuple is_placed_behind_tuple permits_quiet forbids forbids_runner forbids_last stays takes_part forbids_twice stops_forbidden boots_now boots_to_run awaited given_up lost_with is_helped is_booted_with_phases goes_to ends_with moves_unready boots_before lacks_so lacking_so needed_apps
permitted_dependency = refl

-- a distributed one that is forbidden counts as started
distributed_dependency : found (forbidden_at_n1 true false (within (record (cluster (node Unset [] ((web, Permanent) ∷ (site, Permanent) ∷ [])) plain) { apps = apps [] (Listed web ∷ []) }) (scene (Down ∷ Up ∷ Up ∷ Up ∷ []) none none all_quiet))) (Boot n1) code.DependencyForbiddenAtStart n1 site ≡ None
unfolding found asks_others tries starts_now is_available is_up_after comes_up ends is_permitted_after is_started_after runner is_best is_outranked asks_all is_in_tuple is_idle holds_up stands_so other_so nodes_of apps_of fails_over is_called is_permitted_by starts_forbidden starts_below is_behind is_served is_regained takes_back starts_quiet is_behind_tuple is_placed_behind_tuple permits_quiet forbids forbids_runner forbids_last stays takes_part forbids_twice stops_forbidden boots_now boots_to_run awaited given_up lost_with is_helped is_booted_with_phases goes_to ends_with moves_unready boots_before lacks_so lacking_so needed_apps
distributed_dependency = refl

-- it is booted behind web, or before it
late_dependency : found (within (cluster (node Unset [] ((web, Permanent) ∷ (db, Permanent) ∷ [])) plain) (scene (Down ∷ Up ∷ Up ∷ Up ∷ []) none none all_quiet)) (Boot n1) code.BeforeDependency n1 web ≡ Some (BeforeDependency n1 web db)
unfolding found asks_others tries starts_now is_available is_up_after comes_up ends is_permitted_after is_started_after runner is_best is_outranked asks_all is_in_tuple is_idle holds_up stands_so other_so nodes_of apps_of fails_over is_called is_permitted_by starts_forbidden starts_below is_behind is_served is_regained takes_back starts_quiet is_behind_tuple is_placed_behind_tuple permits_quiet forbids forbids_runner forbids_last stays takes_part forbids_twice stops_forbidden boots_now boots_to_run awaited given_up lost_with is_helped is_booted_with_phases goes_to ends_with moves_unready boots_before lacks_so lacking_so needed_apps
late_dependency = refl

early_dependency : found (scene (Down ∷ Up ∷ Up ∷ Up ∷ []) none none all_quiet) (Boot n1) code.BeforeDependency n1 web ≡ None
unfolding found asks_others tries starts_now is_available is_up_after comes_up ends is_permitted_after is_started_after runner is_best is_outranked asks_all is_in_tuple is_idle holds_up stands_so other_so nodes_of apps_of fails_over is_called is_permitted_by starts_forbidden starts_below is_behind is_served is_regained takes_back starts_quiet is_behind_tuple is_placed_behind_tuple permits_quiet forbids forbids_runner forbids_last stays takes_part forbids_twice stops_forbidden boots_now boots_to_run awaited given_up lost_with is_helped is_booted_with_phases goes_to ends_with moves_unready boots_before lacks_so lacking_so needed_apps
early_dependency = refl

-- db needs shop, which is to run at n1; or at n3, which alone is up
needs_one_elsewhere : found (within (db_needs (Listed shop ∷ [])) (scene (Up ∷ Up ∷ Down ∷ Up ∷ []) none none all_quiet)) (Boot n3) code.NeedsADistributedOne n3 db ≡ Some (NeedsADistributedOne n3 db shop)
unfolding found asks_others tries starts_now is_available is_up_after comes_up ends is_permitted_after is_started_after runner is_best is_outranked asks_all is_in_tuple is_idle holds_up stands_so other_so nodes_of apps_of fails_over is_called is_permitted_by starts_forbidden starts_below is_behind is_served is_regained takes_back starts_quiet is_behind_tuple is_placed_behind_tuple permits_quiet forbids forbids_runner forbids_last stays takes_part forbids_twice stops_forbidden boots_now boots_to_run awaited given_up lost_with is_helped is_booted_with_phases goes_to ends_with moves_unready boots_before lacks_so lacking_so needed_apps
needs_one_elsewhere = refl

needs_one_here : found (within (db_needs (Listed shop ∷ [])) (scene (Down ∷ Down ∷ Down ∷ Up ∷ []) none none all_quiet)) (Boot n3) code.NeedsADistributedOne n3 db ≡ None
unfolding found asks_others tries starts_now is_available is_up_after comes_up ends is_permitted_after is_started_after runner is_best is_outranked asks_all is_in_tuple is_idle holds_up stands_so other_so nodes_of apps_of fails_over is_called is_permitted_by starts_forbidden starts_below is_behind is_served is_regained takes_back starts_quiet is_behind_tuple is_placed_behind_tuple permits_quiet forbids forbids_runner forbids_last stays takes_part forbids_twice stops_forbidden boots_now boots_to_run awaited given_up lost_with is_helped is_booted_with_phases goes_to ends_with moves_unready boots_before lacks_so lacking_so needed_apps
needs_one_here = refl

-- it runs at n2, of the same tuple
needs_one_beside : found (within (db_needs (Listed shop ∷ [])) (scene (Down ∷ Up ∷ Up ∷ Up ∷ []) ([] ∷ (shop ∷ []) ∷ [] ∷ [] ∷ []) none (shop_at (Running n2)))) (Boot n1) code.NeedsADistributedOne n1 db ≡ Some (NeedsADistributedOne n1 db shop)
unfolding found asks_others tries starts_now is_available is_up_after comes_up ends is_permitted_after is_started_after runner is_best is_outranked asks_all is_in_tuple is_idle holds_up stands_so other_so nodes_of apps_of fails_over is_called is_permitted_by starts_forbidden starts_below is_behind is_served is_regained takes_back starts_quiet is_behind_tuple is_placed_behind_tuple permits_quiet forbids forbids_runner forbids_last stays takes_part forbids_twice stops_forbidden boots_now boots_to_run awaited given_up lost_with is_helped is_booted_with_phases goes_to ends_with moves_unready boots_before lacks_so lacking_so needed_apps
needs_one_beside = refl

-- db is forbidden at n1, so it doesn't start
needs_one_where_forbidden : found (forbidden_at_n1 false true (within (db_needs (Listed shop ∷ [])) (scene (Down ∷ Up ∷ Up ∷ Up ∷ []) ([] ∷ (shop ∷ []) ∷ [] ∷ [] ∷ []) none (shop_at (Running n2))))) (Boot n1) code.NeedsADistributedOne n1 db ≡ None
unfolding found asks_others tries starts_now is_available is_up_after comes_up ends is_permitted_after is_started_after runner is_best is_outranked asks_all is_in_tuple is_idle holds_up stands_so other_so nodes_of apps_of fails_over is_called is_permitted_by starts_forbidden starts_below is_behind is_served is_regained takes_back starts_quiet is_behind_tuple is_placed_behind_tuple permits_quiet forbids forbids_runner forbids_last stays takes_part forbids_twice stops_forbidden boots_now boots_to_run awaited given_up lost_with is_helped is_booted_with_phases goes_to ends_with moves_unready boots_before lacks_so lacking_so needed_apps
needs_one_where_forbidden = refl

-- site needs shop, which runs at n2; site runs nowhere, or at n2, too
needs_one_for_a_distributed : found (within (site_needs (Listed shop ∷ [])) (scene (Down ∷ Up ∷ Up ∷ Up ∷ []) ([] ∷ (shop ∷ []) ∷ [] ∷ [] ∷ []) none (Quiet ∷ Quiet ∷ Running n2 ∷ Quiet ∷ []))) (Boot n1) code.NeedsADistributedOne n1 site ≡ Some (NeedsADistributedOne n1 site shop)
unfolding found asks_others tries starts_now is_available is_up_after comes_up ends is_permitted_after is_started_after runner is_best is_outranked asks_all is_in_tuple is_idle holds_up stands_so other_so nodes_of apps_of fails_over is_called is_permitted_by starts_forbidden starts_below is_behind is_served is_regained takes_back starts_quiet is_behind_tuple is_placed_behind_tuple permits_quiet forbids forbids_runner forbids_last stays takes_part forbids_twice stops_forbidden boots_now boots_to_run awaited given_up lost_with is_helped is_booted_with_phases goes_to ends_with moves_unready boots_before lacks_so lacking_so needed_apps
needs_one_for_a_distributed = refl

needs_none_at_a_standby : found (within (site_needs (Listed shop ∷ [])) (scene (Down ∷ Up ∷ Up ∷ Up ∷ []) ([] ∷ (shop ∷ site ∷ []) ∷ [] ∷ [] ∷ []) none (Quiet ∷ Quiet ∷ Running n2 ∷ Running n2 ∷ []))) (Boot n1) code.NeedsADistributedOne n1 site ≡ None
unfolding found asks_others tries starts_now is_available is_up_after comes_up ends is_permitted_after is_started_after runner is_best is_outranked asks_all is_in_tuple is_idle holds_up stands_so other_so nodes_of apps_of fails_over is_called is_permitted_by starts_forbidden starts_below is_behind is_served is_regained takes_back starts_quiet is_behind_tuple is_placed_behind_tuple permits_quiet forbids forbids_runner forbids_last stays takes_part forbids_twice stops_forbidden boots_now boots_to_run awaited given_up lost_with is_helped is_booted_with_phases goes_to ends_with moves_unready boots_before lacks_so lacking_so needed_apps
needs_none_at_a_standby = refl

-- at the failover db doesn't run at n2, or does
dependency_gone : found (record (scene (Down ∷ Up ∷ Up ∷ Up ∷ []) ([] ∷ [] ∷ [] ∷ [] ∷ []) ([] ∷ (web ∷ []) ∷ [] ∷ [] ∷ []) (web_at (Lost n1))) { timers = (1500, Failover web) ∷ [] }) (Tick 500) code.DependencyGone n2 web ≡ Some (DependencyGone n2 web db)
unfolding found asks_others tries starts_now is_available is_up_after comes_up ends is_permitted_after is_started_after runner is_best is_outranked asks_all is_in_tuple is_idle holds_up stands_so other_so nodes_of apps_of fails_over is_called is_permitted_by starts_forbidden starts_below is_behind is_served is_regained takes_back starts_quiet is_behind_tuple is_placed_behind_tuple permits_quiet forbids forbids_runner forbids_last stays takes_part forbids_twice stops_forbidden boots_now boots_to_run awaited given_up lost_with is_helped is_booted_with_phases goes_to ends_with moves_unready boots_before lacks_so lacking_so needed_apps
dependency_gone = refl

dependency_there : found (record (scene (Down ∷ Up ∷ Up ∷ Up ∷ []) ([] ∷ (db ∷ []) ∷ [] ∷ [] ∷ []) ([] ∷ (web ∷ []) ∷ [] ∷ [] ∷ []) (web_at (Lost n1))) { timers = (1500, Failover web) ∷ [] }) (Tick 500) code.DependencyGone n2 web ≡ None
unfolding found asks_others tries starts_now is_available is_up_after comes_up ends is_permitted_after is_started_after runner is_best is_outranked asks_all is_in_tuple is_idle holds_up stands_so other_so nodes_of apps_of fails_over is_called is_permitted_by starts_forbidden starts_below is_behind is_served is_regained takes_back starts_quiet is_behind_tuple is_placed_behind_tuple permits_quiet forbids forbids_runner forbids_last stays takes_part forbids_twice stops_forbidden boots_now boots_to_run awaited given_up lost_with is_helped is_booted_with_phases goes_to ends_with moves_unready boots_before lacks_so lacking_so needed_apps
dependency_there = refl

-- ---- losses
-- within its time it is started at another node, or at the one with which it was lost
start_within_time : found (scene all_up none none (web_at (Lost n1))) (Start n2 web Permanent) code.StartWithinTime n2 web ≡ Some (StartWithinTime n2 web n1)
unfolding found asks_others tries starts_now is_available is_up_after comes_up ends is_permitted_after is_started_after runner is_best is_outranked asks_all is_in_tuple is_idle holds_up stands_so other_so nodes_of apps_of fails_over is_called is_permitted_by starts_forbidden starts_below is_behind is_served is_regained takes_back starts_quiet is_behind_tuple is_placed_behind_tuple permits_quiet forbids forbids_runner forbids_last stays takes_part forbids_twice stops_forbidden boots_now boots_to_run awaited given_up lost_with is_helped is_booted_with_phases goes_to ends_with moves_unready boots_before lacks_so lacking_so needed_apps
start_within_time = refl

start_back : found (scene all_up none none (web_at (Lost n1))) (Start n1 web Permanent) code.StartWithinTime n1 web ≡ None
unfolding found asks_others tries starts_now is_available is_up_after comes_up ends is_permitted_after is_started_after runner is_best is_outranked asks_all is_in_tuple is_idle holds_up stands_so other_so nodes_of apps_of fails_over is_called is_permitted_by starts_forbidden starts_below is_behind is_served is_regained takes_back starts_quiet is_behind_tuple is_placed_behind_tuple permits_quiet forbids forbids_runner forbids_last stays takes_part forbids_twice stops_forbidden boots_now boots_to_run awaited given_up lost_with is_helped is_booted_with_phases goes_to ends_with moves_unready boots_before lacks_so lacking_so needed_apps
start_back = refl

-- the lost node starts it, too
start_at_both : found (scene all_up none none (web_at (Lost n1))) (StartAll web Permanent) code.StartWithinTime n2 web ≡ None
unfolding found asks_others tries starts_now is_available is_up_after comes_up ends is_permitted_after is_started_after runner is_best is_outranked asks_all is_in_tuple is_idle holds_up stands_so other_so nodes_of apps_of fails_over is_called is_permitted_by starts_forbidden starts_below is_behind is_served is_regained takes_back starts_quiet is_behind_tuple is_placed_behind_tuple permits_quiet forbids forbids_runner forbids_last stays takes_part forbids_twice stops_forbidden boots_now boots_to_run awaited given_up lost_with is_helped is_booted_with_phases goes_to ends_with moves_unready boots_before lacks_so lacking_so needed_apps
start_at_both = refl

start_behind_time : found (scene all_up none none (web_at (Wanted (Some n1)))) (Start n2 web Permanent) code.StartWithinTime n2 web ≡ None
unfolding found asks_others tries starts_now is_available is_up_after comes_up ends is_permitted_after is_started_after runner is_best is_outranked asks_all is_in_tuple is_idle holds_up stands_so other_so nodes_of apps_of fails_over is_called is_permitted_by starts_forbidden starts_below is_behind is_served is_regained takes_back starts_quiet is_behind_tuple is_placed_behind_tuple permits_quiet forbids forbids_runner forbids_last stays takes_part forbids_twice stops_forbidden boots_now boots_to_run awaited given_up lost_with is_helped is_booted_with_phases goes_to ends_with moves_unready boots_before lacks_so lacking_so needed_apps
start_behind_time = refl

-- behind its time n2 boots it; n1 does, with which it was lost; its time isn't over
nobody_saw : found (within (cluster plain plain) (scene (Down ∷ Down ∷ Up ∷ Up ∷ []) none none (web_at (Wanted (Some n1))))) (Boot n2) code.NobodySawTheLoss n2 web ≡ Some (NobodySawTheLoss n2 web n1)
unfolding found asks_others tries starts_now is_available is_up_after comes_up ends is_permitted_after is_started_after runner is_best is_outranked asks_all is_in_tuple is_idle holds_up stands_so other_so nodes_of apps_of fails_over is_called is_permitted_by starts_forbidden starts_below is_behind is_served is_regained takes_back starts_quiet is_behind_tuple is_placed_behind_tuple permits_quiet forbids forbids_runner forbids_last stays takes_part forbids_twice stops_forbidden boots_now boots_to_run awaited given_up lost_with is_helped is_booted_with_phases goes_to ends_with moves_unready boots_before lacks_so lacking_so needed_apps
nobody_saw = refl

came_back : found (within (cluster plain plain) (scene (Down ∷ Down ∷ Up ∷ Up ∷ []) none none (web_at (Wanted (Some n1))))) (Boot n1) code.NobodySawTheLoss n1 web ≡ None
unfolding found asks_others tries starts_now is_available is_up_after comes_up ends is_permitted_after is_started_after runner is_best is_outranked asks_all is_in_tuple is_idle holds_up stands_so other_so nodes_of apps_of fails_over is_called is_permitted_by starts_forbidden starts_below is_behind is_served is_regained takes_back starts_quiet is_behind_tuple is_placed_behind_tuple permits_quiet forbids forbids_runner forbids_last stays takes_part forbids_twice stops_forbidden boots_now boots_to_run awaited given_up lost_with is_helped is_booted_with_phases goes_to ends_with moves_unready boots_before lacks_so lacking_so needed_apps
came_back = refl

is_awaited : found (within (cluster plain plain) (scene (Down ∷ Down ∷ Up ∷ Up ∷ []) none none (web_at (Lost n1)))) (Boot n2) code.NobodySawTheLoss n2 web ≡ None
unfolding found asks_others tries starts_now is_available is_up_after comes_up ends is_permitted_after is_started_after runner is_best is_outranked asks_all is_in_tuple is_idle holds_up stands_so other_so nodes_of apps_of fails_over is_called is_permitted_by starts_forbidden starts_below is_behind is_served is_regained takes_back starts_quiet is_behind_tuple is_placed_behind_tuple permits_quiet forbids forbids_runner forbids_last stays takes_part forbids_twice stops_forbidden boots_now boots_to_run awaited given_up lost_with is_helped is_booted_with_phases goes_to ends_with moves_unready boots_before lacks_so lacking_so needed_apps
is_awaited = refl

-- permitted by hand behind the loss; one without start phases
helped_by_hand : found (scene (Down ∷ Up ∷ Up ∷ Up ∷ []) none ([] ∷ (web ∷ []) ∷ [] ∷ [] ∷ []) (web_at (Wanted (Some n1)))) (Permit n2 web true) code.KindAfterLoss n2 web ≡ Some (KindAfterLoss n2 web n1)
unfolding found asks_others tries starts_now is_available is_up_after comes_up ends is_permitted_after is_started_after runner is_best is_outranked asks_all is_in_tuple is_idle holds_up stands_so other_so nodes_of apps_of fails_over is_called is_permitted_by starts_forbidden starts_below is_behind is_served is_regained takes_back starts_quiet is_behind_tuple is_placed_behind_tuple permits_quiet forbids forbids_runner forbids_last stays takes_part forbids_twice stops_forbidden boots_now boots_to_run awaited given_up lost_with is_helped is_booted_with_phases goes_to ends_with moves_unready boots_before lacks_so lacking_so needed_apps
helped_by_hand = refl

helped_without_phases : found (scene (Down ∷ Up ∷ Up ∷ Up ∷ []) none ([] ∷ (shop ∷ []) ∷ [] ∷ [] ∷ []) (shop_at (Wanted (Some n1)))) (Permit n2 shop true) code.KindAfterLoss n2 shop ≡ None
unfolding found asks_others tries starts_now is_available is_up_after comes_up ends is_permitted_after is_started_after runner is_best is_outranked asks_all is_in_tuple is_idle holds_up stands_so other_so nodes_of apps_of fails_over is_called is_permitted_by starts_forbidden starts_below is_behind is_served is_regained takes_back starts_quiet is_behind_tuple is_placed_behind_tuple permits_quiet forbids forbids_runner forbids_last stays takes_part forbids_twice stops_forbidden boots_now boots_to_run awaited given_up lost_with is_helped is_booted_with_phases goes_to ends_with moves_unready boots_before lacks_so lacking_so needed_apps
helped_without_phases = refl

-- it ends with its node, or alone
ends_with_node : found (record (scene all_up ((web ∷ []) ∷ [] ∷ [] ∷ [] ∷ []) ([] ∷ (web ∷ []) ∷ [] ∷ [] ∷ []) (web_at (Running n1))) { restarts = (Permanent ∷ Permanent ∷ Permanent ∷ Permanent ∷ []) ∷ [] ∷ [] ∷ [] ∷ [] }) (Exit n1 web true) code.OwnEnd n1 web ≡ Some (OwnEnd n1 web)
unfolding found asks_others tries starts_now is_available is_up_after comes_up ends is_permitted_after is_started_after runner is_best is_outranked asks_all is_in_tuple is_idle holds_up stands_so other_so nodes_of apps_of fails_over is_called is_permitted_by starts_forbidden starts_below is_behind is_served is_regained takes_back starts_quiet is_behind_tuple is_placed_behind_tuple permits_quiet forbids forbids_runner forbids_last stays takes_part forbids_twice stops_forbidden boots_now boots_to_run awaited given_up lost_with is_helped is_booted_with_phases goes_to ends_with moves_unready boots_before lacks_so lacking_so needed_apps
ends_with_node = refl

-- where no other node holds it ready, nothing is to fail over
ends_without_standby : found (record (scene all_up ((web ∷ []) ∷ [] ∷ [] ∷ [] ∷ []) none (web_at (Running n1))) { restarts = (Permanent ∷ Permanent ∷ Permanent ∷ Permanent ∷ []) ∷ [] ∷ [] ∷ [] ∷ [] }) (Exit n1 web true) code.OwnEnd n1 web ≡ None
unfolding found asks_others tries starts_now is_available is_up_after comes_up ends is_permitted_after is_started_after runner is_best is_outranked asks_all is_in_tuple is_idle holds_up stands_so other_so nodes_of apps_of fails_over is_called is_permitted_by starts_forbidden starts_below is_behind is_served is_regained takes_back starts_quiet is_behind_tuple is_placed_behind_tuple permits_quiet forbids forbids_runner forbids_last stays takes_part forbids_twice stops_forbidden boots_now boots_to_run awaited given_up lost_with is_helped is_booted_with_phases goes_to ends_with moves_unready boots_before lacks_so lacking_so needed_apps
ends_without_standby = refl

ends_alone : found (record (scene all_up ((web ∷ []) ∷ [] ∷ [] ∷ [] ∷ []) ([] ∷ (web ∷ []) ∷ [] ∷ [] ∷ []) (web_at (Running n1))) { restarts = (Temporary ∷ Temporary ∷ Temporary ∷ Temporary ∷ []) ∷ [] ∷ [] ∷ [] ∷ [] }) (Exit n1 web true) code.OwnEnd n1 web ≡ None
unfolding found asks_others tries starts_now is_available is_up_after comes_up ends is_permitted_after is_started_after runner is_best is_outranked asks_all is_in_tuple is_idle holds_up stands_so other_so nodes_of apps_of fails_over is_called is_permitted_by starts_forbidden starts_below is_behind is_served is_regained takes_back starts_quiet is_behind_tuple is_placed_behind_tuple permits_quiet forbids forbids_runner forbids_last stays takes_part forbids_twice stops_forbidden boots_now boots_to_run awaited given_up lost_with is_helped is_booted_with_phases goes_to ends_with moves_unready boots_before lacks_so lacking_so needed_apps
ends_alone = refl

ends_alone_normally : found (record (scene all_up ((web ∷ []) ∷ [] ∷ [] ∷ [] ∷ []) ([] ∷ (web ∷ []) ∷ [] ∷ [] ∷ []) (web_at (Running n1))) { restarts = (Transient ∷ Transient ∷ Transient ∷ Transient ∷ []) ∷ [] ∷ [] ∷ [] ∷ [] }) (Exit n1 web true) code.OwnEnd n1 web ≡ None
unfolding found asks_others tries starts_now is_available is_up_after comes_up ends is_permitted_after is_started_after runner is_best is_outranked asks_all is_in_tuple is_idle holds_up stands_so other_so nodes_of apps_of fails_over is_called is_permitted_by starts_forbidden starts_below is_behind is_served is_regained takes_back starts_quiet is_behind_tuple is_placed_behind_tuple permits_quiet forbids forbids_runner forbids_last stays takes_part forbids_twice stops_forbidden boots_now boots_to_run awaited given_up lost_with is_helped is_booted_with_phases goes_to ends_with moves_unready boots_before lacks_so lacking_so needed_apps
ends_alone_normally = refl

-- moved to a node that hasn't started it, or has
moved_unready : found (scene all_up ((web ∷ []) ∷ [] ∷ [] ∷ [] ∷ []) none (web_at (Running n1))) (Takeover n2 web Permanent) code.TakeoverNotStarted n2 web ≡ Some (TakeoverNotStarted n2 web)
unfolding found asks_others tries starts_now is_available is_up_after comes_up ends is_permitted_after is_started_after runner is_best is_outranked asks_all is_in_tuple is_idle holds_up stands_so other_so nodes_of apps_of fails_over is_called is_permitted_by starts_forbidden starts_below is_behind is_served is_regained takes_back starts_quiet is_behind_tuple is_placed_behind_tuple permits_quiet forbids forbids_runner forbids_last stays takes_part forbids_twice stops_forbidden boots_now boots_to_run awaited given_up lost_with is_helped is_booted_with_phases goes_to ends_with moves_unready boots_before lacks_so lacking_so needed_apps
moved_unready = refl

moved_ready : found (scene all_up ((web ∷ []) ∷ [] ∷ [] ∷ [] ∷ []) ([] ∷ (web ∷ []) ∷ [] ∷ [] ∷ []) (web_at (Running n1))) (Takeover n2 web Permanent) code.TakeoverNotStarted n2 web ≡ None
unfolding found asks_others tries starts_now is_available is_up_after comes_up ends is_permitted_after is_started_after runner is_best is_outranked asks_all is_in_tuple is_idle holds_up stands_so other_so nodes_of apps_of fails_over is_called is_permitted_by starts_forbidden starts_below is_behind is_served is_regained takes_back starts_quiet is_behind_tuple is_placed_behind_tuple permits_quiet forbids forbids_runner forbids_last stays takes_part forbids_twice stops_forbidden boots_now boots_to_run awaited given_up lost_with is_helped is_booted_with_phases goes_to ends_with moves_unready boots_before lacks_so lacking_so needed_apps
moved_ready = refl
