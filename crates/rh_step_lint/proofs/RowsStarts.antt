-- Starts that wait for another node, computed from the definitions: each kind where it holds, and where it just doesn't.
use Rattle.std.proofs.Common.{◌≡◌, [], ◌∷◌, true, false, Some, None, refl}
use Rattle.rh_model.specs.Needs.{needed_apps}
use Rattle.rh_model.specs.declared.settings.Restart.TheVariants.{Permanent}
use Rattle.rh_state.specs.Numbers.{nodes_of, apps_of}
use Rattle.rh_state.specs.declared.status.Mode.TheVariants.{Up, Down}
use Rattle.rh_state.specs.declared.status.Standing.TheVariants.{Wanted, Running, Lost}
use Rattle.rh_state.specs.declared.status.Timer.TheVariants.{Failover}
use Rattle.rh_rules.specs.declared.event.Event.TheVariants.{Boot, Crash, Tick, Start, StartAll}
use Rattle.rh_step_findings.specs.After.{comes_up, ends, is_up_after, starts_now, is_started_after, is_permitted_after}
use Rattle.rh_step_findings.specs.Candidates.{is_in_tuple, takes_part, is_available, is_outranked, is_best, asks_all, is_idle, holds_up}
use Rattle.rh_step_findings.specs.Tries.{runner, fails_over, is_called, is_permitted_by, tries, stays, asks_others}
use Rattle.rh_step_findings.specs.Others.{stands_so, other_so}
use Rattle.rh_step_findings.specs.Lacks.{boots_before, lacks_so, lacking_so}
use Rattle.rh_step_findings.specs.Pairs.{found, is_behind, is_served, is_regained, starts_forbidden, starts_below, takes_back, starts_quiet, is_behind_tuple, is_placed_behind_tuple, permits_quiet, forbids, forbids_runner, forbids_last, forbids_twice, stops_forbidden, boots_now, boots_to_run, awaited, given_up, lost_with, is_helped, is_booted_with_phases, goes_to, ends_with, moves_unready}
use Rattle.rh_step_findings.specs.declared.code.Code.TheVariants as code
use Rattle.rh_step_findings.specs.declared.finding.StepFinding.TheVariants.{BetterNodeNotStarted, TupleMemberNotStarted, WorseNodeNotStarted, ForbiddenStartWaits, RunsAtAWorseNode, TupleTakeover, BetterNodeWaitsQuiet, WeightsForEver}
use Rattle.rh_step_lint.proofs.Scene.{n1, n2, n3, n4, db, web, shop, site, plain, cluster, all_up, none, all_quiet, web_at, shop_at, site_at, scene, forbidden_at_n1, within}

-- ---- a start waits for another node
-- n1 is better, up, and hasn't started it
better_node : found (scene all_up none none all_quiet) (Start n2 web Permanent) code.BetterNodeNotStarted n2 web ≡ Some (BetterNodeNotStarted n2 web n1)
unfolding found asks_others tries starts_now is_available is_up_after comes_up ends is_permitted_after is_started_after runner is_best is_outranked asks_all is_in_tuple is_idle holds_up stands_so other_so nodes_of apps_of fails_over is_called is_permitted_by starts_forbidden starts_below is_behind is_served is_regained takes_back starts_quiet is_behind_tuple is_placed_behind_tuple permits_quiet forbids forbids_runner forbids_last stays takes_part forbids_twice stops_forbidden boots_now boots_to_run awaited given_up lost_with is_helped is_booted_with_phases goes_to ends_with moves_unready boots_before lacks_so lacking_so needed_apps
better_node = refl

-- neither node has the other in its lists
better_node_unseen : found (within (cluster plain plain) (scene all_up none none all_quiet)) (Start n2 web Permanent) code.BetterNodeNotStarted n2 web ≡ None
unfolding found asks_others tries starts_now is_available is_up_after comes_up ends is_permitted_after is_started_after runner is_best is_outranked asks_all is_in_tuple is_idle holds_up stands_so other_so nodes_of apps_of fails_over is_called is_permitted_by starts_forbidden starts_below is_behind is_served is_regained takes_back starts_quiet is_behind_tuple is_placed_behind_tuple permits_quiet forbids forbids_runner forbids_last stays takes_part forbids_twice stops_forbidden boots_now boots_to_run awaited given_up lost_with is_helped is_booted_with_phases goes_to ends_with moves_unready boots_before lacks_so lacking_so needed_apps
better_node_unseen = refl

-- it has, or is down, or may not run it
better_node_started : found (scene all_up none ((web ∷ []) ∷ [] ∷ [] ∷ [] ∷ []) (web_at (Wanted None))) (Start n2 web Permanent) code.BetterNodeNotStarted n2 web ≡ None
unfolding found asks_others tries starts_now is_available is_up_after comes_up ends is_permitted_after is_started_after runner is_best is_outranked asks_all is_in_tuple is_idle holds_up stands_so other_so nodes_of apps_of fails_over is_called is_permitted_by starts_forbidden starts_below is_behind is_served is_regained takes_back starts_quiet is_behind_tuple is_placed_behind_tuple permits_quiet forbids forbids_runner forbids_last stays takes_part forbids_twice stops_forbidden boots_now boots_to_run awaited given_up lost_with is_helped is_booted_with_phases goes_to ends_with moves_unready boots_before lacks_so lacking_so needed_apps
better_node_started = refl

better_node_down : found (scene (Down ∷ Up ∷ Up ∷ Up ∷ []) none none all_quiet) (Start n2 web Permanent) code.BetterNodeNotStarted n2 web ≡ None
unfolding found asks_others tries starts_now is_available is_up_after comes_up ends is_permitted_after is_started_after runner is_best is_outranked asks_all is_in_tuple is_idle holds_up stands_so other_so nodes_of apps_of fails_over is_called is_permitted_by starts_forbidden starts_below is_behind is_served is_regained takes_back starts_quiet is_behind_tuple is_placed_behind_tuple permits_quiet forbids forbids_runner forbids_last stays takes_part forbids_twice stops_forbidden boots_now boots_to_run awaited given_up lost_with is_helped is_booted_with_phases goes_to ends_with moves_unready boots_before lacks_so lacking_so needed_apps
better_node_down = refl

better_node_forbidden : found (forbidden_at_n1 true false (scene all_up none none all_quiet)) (Start n2 web Permanent) code.BetterNodeNotStarted n2 web ≡ None
unfolding found asks_others tries starts_now is_available is_up_after comes_up ends is_permitted_after is_started_after runner is_best is_outranked asks_all is_in_tuple is_idle holds_up stands_so other_so nodes_of apps_of fails_over is_called is_permitted_by starts_forbidden starts_below is_behind is_served is_regained takes_back starts_quiet is_behind_tuple is_placed_behind_tuple permits_quiet forbids forbids_runner forbids_last stays takes_part forbids_twice stops_forbidden boots_now boots_to_run awaited given_up lost_with is_helped is_booted_with_phases goes_to ends_with moves_unready boots_before lacks_so lacking_so needed_apps
better_node_forbidden = refl

-- it is started at all at once
better_node_starts_too : found (scene all_up none none all_quiet) (StartAll web Permanent) code.BetterNodeNotStarted n2 web ≡ None
unfolding found asks_others tries starts_now is_available is_up_after comes_up ends is_permitted_after is_started_after runner is_best is_outranked asks_all is_in_tuple is_idle holds_up stands_so other_so nodes_of apps_of fails_over is_called is_permitted_by starts_forbidden starts_below is_behind is_served is_regained takes_back starts_quiet is_behind_tuple is_placed_behind_tuple permits_quiet forbids forbids_runner forbids_last stays takes_part forbids_twice stops_forbidden boots_now boots_to_run awaited given_up lost_with is_helped is_booted_with_phases goes_to ends_with moves_unready boots_before lacks_so lacking_so needed_apps
better_node_starts_too = refl

-- a failover within a tick, and one whose time isn't over
better_node_at_failover : found (record (scene (Up ∷ Up ∷ Down ∷ Up ∷ []) none ([] ∷ (web ∷ []) ∷ [] ∷ [] ∷ []) (web_at (Lost n3))) { timers = (6000, Failover web) ∷ [] }) (Tick 5000) code.BetterNodeNotStarted n2 web ≡ Some (BetterNodeNotStarted n2 web n1)
unfolding found asks_others tries starts_now is_available is_up_after comes_up ends is_permitted_after is_started_after runner is_best is_outranked asks_all is_in_tuple is_idle holds_up stands_so other_so nodes_of apps_of fails_over is_called is_permitted_by starts_forbidden starts_below is_behind is_served is_regained takes_back starts_quiet is_behind_tuple is_placed_behind_tuple permits_quiet forbids forbids_runner forbids_last stays takes_part forbids_twice stops_forbidden boots_now boots_to_run awaited given_up lost_with is_helped is_booted_with_phases goes_to ends_with moves_unready boots_before lacks_so lacking_so needed_apps
better_node_at_failover = refl

better_node_before_failover : found (record (scene (Up ∷ Up ∷ Down ∷ Up ∷ []) none ([] ∷ (web ∷ []) ∷ [] ∷ [] ∷ []) (web_at (Lost n3))) { timers = (6000, Failover web) ∷ [] }) (Tick 4999) code.BetterNodeNotStarted n2 web ≡ None
unfolding found asks_others tries starts_now is_available is_up_after comes_up ends is_permitted_after is_started_after runner is_best is_outranked asks_all is_in_tuple is_idle holds_up stands_so other_so nodes_of apps_of fails_over is_called is_permitted_by starts_forbidden starts_below is_behind is_served is_regained takes_back starts_quiet is_behind_tuple is_placed_behind_tuple permits_quiet forbids forbids_runner forbids_last stays takes_part forbids_twice stops_forbidden boots_now boots_to_run awaited given_up lost_with is_helped is_booted_with_phases goes_to ends_with moves_unready boots_before lacks_so lacking_so needed_apps
better_node_before_failover = refl

-- n2 boots while n1 is up
better_node_at_boot : found (scene (Up ∷ Down ∷ Up ∷ Up ∷ []) none none all_quiet) (Boot n2) code.BetterNodeNotStarted n2 web ≡ Some (BetterNodeNotStarted n2 web n1)
unfolding found asks_others tries starts_now is_available is_up_after comes_up ends is_permitted_after is_started_after runner is_best is_outranked asks_all is_in_tuple is_idle holds_up stands_so other_so nodes_of apps_of fails_over is_called is_permitted_by starts_forbidden starts_below is_behind is_served is_regained takes_back starts_quiet is_behind_tuple is_placed_behind_tuple permits_quiet forbids forbids_runner forbids_last stays takes_part forbids_twice stops_forbidden boots_now boots_to_run awaited given_up lost_with is_helped is_booted_with_phases goes_to ends_with moves_unready boots_before lacks_so lacking_so needed_apps
better_node_at_boot = refl

-- the other node of the tuple is up, or is down
tuple_member : found (scene all_up none none all_quiet) (Start n1 shop Permanent) code.TupleMemberNotStarted n1 shop ≡ Some (TupleMemberNotStarted n1 shop n2)
unfolding found asks_others tries starts_now is_available is_up_after comes_up ends is_permitted_after is_started_after runner is_best is_outranked asks_all is_in_tuple is_idle holds_up stands_so other_so nodes_of apps_of fails_over is_called is_permitted_by starts_forbidden starts_below is_behind is_served is_regained takes_back starts_quiet is_behind_tuple is_placed_behind_tuple permits_quiet forbids forbids_runner forbids_last stays takes_part forbids_twice stops_forbidden boots_now boots_to_run awaited given_up lost_with is_helped is_booted_with_phases goes_to ends_with moves_unready boots_before lacks_so lacking_so needed_apps
tuple_member = refl

tuple_member_down : found (scene (Up ∷ Down ∷ Up ∷ Up ∷ []) none none all_quiet) (Start n1 shop Permanent) code.TupleMemberNotStarted n1 shop ≡ None
unfolding found asks_others tries starts_now is_available is_up_after comes_up ends is_permitted_after is_started_after runner is_best is_outranked asks_all is_in_tuple is_idle holds_up stands_so other_so nodes_of apps_of fails_over is_called is_permitted_by starts_forbidden starts_below is_behind is_served is_regained takes_back starts_quiet is_behind_tuple is_placed_behind_tuple permits_quiet forbids forbids_runner forbids_last stays takes_part forbids_twice stops_forbidden boots_now boots_to_run awaited given_up lost_with is_helped is_booted_with_phases goes_to ends_with moves_unready boots_before lacks_so lacking_so needed_apps
tuple_member_down = refl

-- lost without a timeout, it fails over as n3 crashes
tuple_member_at_loss : found (scene all_up ([] ∷ [] ∷ (shop ∷ []) ∷ [] ∷ []) ((shop ∷ []) ∷ [] ∷ [] ∷ [] ∷ []) (shop_at (Running n3))) (Crash n3) code.TupleMemberNotStarted n1 shop ≡ Some (TupleMemberNotStarted n1 shop n2)
unfolding found asks_others tries starts_now is_available is_up_after comes_up ends is_permitted_after is_started_after runner is_best is_outranked asks_all is_in_tuple is_idle holds_up stands_so other_so nodes_of apps_of fails_over is_called is_permitted_by starts_forbidden starts_below is_behind is_served is_regained takes_back starts_quiet is_behind_tuple is_placed_behind_tuple permits_quiet forbids forbids_runner forbids_last stays takes_part forbids_twice stops_forbidden boots_now boots_to_run awaited given_up lost_with is_helped is_booted_with_phases goes_to ends_with moves_unready boots_before lacks_so lacking_so needed_apps
tuple_member_at_loss = refl

-- behind a tuple all are asked, and without one the best alone
worse_node : found (scene all_up none none all_quiet) (Start n1 shop Permanent) code.WorseNodeNotStarted n1 shop ≡ Some (WorseNodeNotStarted n1 shop n3)
unfolding found asks_others tries starts_now is_available is_up_after comes_up ends is_permitted_after is_started_after runner is_best is_outranked asks_all is_in_tuple is_idle holds_up stands_so other_so nodes_of apps_of fails_over is_called is_permitted_by starts_forbidden starts_below is_behind is_served is_regained takes_back starts_quiet is_behind_tuple is_placed_behind_tuple permits_quiet forbids forbids_runner forbids_last stays takes_part forbids_twice stops_forbidden boots_now boots_to_run awaited given_up lost_with is_helped is_booted_with_phases goes_to ends_with moves_unready boots_before lacks_so lacking_so needed_apps
worse_node = refl

worse_node_without_tuple : found (scene all_up none none all_quiet) (Start n1 web Permanent) code.WorseNodeNotStarted n1 web ≡ None
unfolding found asks_others tries starts_now is_available is_up_after comes_up ends is_permitted_after is_started_after runner is_best is_outranked asks_all is_in_tuple is_idle holds_up stands_so other_so nodes_of apps_of fails_over is_called is_permitted_by starts_forbidden starts_below is_behind is_served is_regained takes_back starts_quiet is_behind_tuple is_placed_behind_tuple permits_quiet forbids forbids_runner forbids_last stays takes_part forbids_twice stops_forbidden boots_now boots_to_run awaited given_up lost_with is_helped is_booted_with_phases goes_to ends_with moves_unready boots_before lacks_so lacking_so needed_apps
worse_node_without_tuple = refl

-- forbidden where it is started, it waits for n2, but not where it runs
forbidden_start : found (forbidden_at_n1 true false (scene all_up none none all_quiet)) (Start n1 web Permanent) code.ForbiddenStartWaits n1 web ≡ Some (ForbiddenStartWaits n1 web n2)
unfolding found asks_others tries starts_now is_available is_up_after comes_up ends is_permitted_after is_started_after runner is_best is_outranked asks_all is_in_tuple is_idle holds_up stands_so other_so nodes_of apps_of fails_over is_called is_permitted_by starts_forbidden starts_below is_behind is_served is_regained takes_back starts_quiet is_behind_tuple is_placed_behind_tuple permits_quiet forbids forbids_runner forbids_last stays takes_part forbids_twice stops_forbidden boots_now boots_to_run awaited given_up lost_with is_helped is_booted_with_phases goes_to ends_with moves_unready boots_before lacks_so lacking_so needed_apps
forbidden_start = refl

forbidden_start_where_it_runs : found (forbidden_at_n1 true false (scene all_up ([] ∷ (db ∷ web ∷ []) ∷ [] ∷ [] ∷ []) none (web_at (Running n2)))) (Start n1 web Permanent) code.ForbiddenStartWaits n1 web ≡ None
unfolding found asks_others tries starts_now is_available is_up_after comes_up ends is_permitted_after is_started_after runner is_best is_outranked asks_all is_in_tuple is_idle holds_up stands_so other_so nodes_of apps_of fails_over is_called is_permitted_by starts_forbidden starts_below is_behind is_served is_regained takes_back starts_quiet is_behind_tuple is_placed_behind_tuple permits_quiet forbids forbids_runner forbids_last stays takes_part forbids_twice stops_forbidden boots_now boots_to_run awaited given_up lost_with is_helped is_booted_with_phases goes_to ends_with moves_unready boots_before lacks_so lacking_so needed_apps
forbidden_start_where_it_runs = refl

-- n2 starts it at the same moment
forbidden_start_beside_another : found (forbidden_at_n1 true false (scene all_up none none all_quiet)) (StartAll web Permanent) code.ForbiddenStartWaits n1 web ≡ None
unfolding found asks_others tries starts_now is_available is_up_after comes_up ends is_permitted_after is_started_after runner is_best is_outranked asks_all is_in_tuple is_idle holds_up stands_so other_so nodes_of apps_of fails_over is_called is_permitted_by starts_forbidden starts_below is_behind is_served is_regained takes_back starts_quiet is_behind_tuple is_placed_behind_tuple permits_quiet forbids forbids_runner forbids_last stays takes_part forbids_twice stops_forbidden boots_now boots_to_run awaited given_up lost_with is_helped is_booted_with_phases goes_to ends_with moves_unready boots_before lacks_so lacking_so needed_apps
forbidden_start_beside_another = refl

-- it fails over, and no node that may not run it takes part in that
forbidden_at_failover : found (record (forbidden_at_n1 true false (scene (Up ∷ Up ∷ Down ∷ Up ∷ []) none ((web ∷ []) ∷ [] ∷ [] ∷ [] ∷ []) (web_at (Lost n3)))) { timers = (6000, Failover web) ∷ [] }) (Tick 5000) code.ForbiddenStartWaits n1 web ≡ None
unfolding found asks_others tries starts_now is_available is_up_after comes_up ends is_permitted_after is_started_after runner is_best is_outranked asks_all is_in_tuple is_idle holds_up stands_so other_so nodes_of apps_of fails_over is_called is_permitted_by starts_forbidden starts_below is_behind is_served is_regained takes_back starts_quiet is_behind_tuple is_placed_behind_tuple permits_quiet forbids forbids_runner forbids_last stays takes_part forbids_twice stops_forbidden boots_now boots_to_run awaited given_up lost_with is_helped is_booted_with_phases goes_to ends_with moves_unready boots_before lacks_so lacking_so needed_apps
forbidden_at_failover = refl

-- it was moved to n2, and n3 starts it; it runs at n1, the best
worse_runner : found (scene all_up ([] ∷ (web ∷ []) ∷ [] ∷ [] ∷ []) ((web ∷ []) ∷ [] ∷ [] ∷ [] ∷ []) (web_at (Running n2))) (Start n3 web Permanent) code.RunsAtAWorseNode n3 web ≡ Some (RunsAtAWorseNode n3 web n2)
unfolding found asks_others tries starts_now is_available is_up_after comes_up ends is_permitted_after is_started_after runner is_best is_outranked asks_all is_in_tuple is_idle holds_up stands_so other_so nodes_of apps_of fails_over is_called is_permitted_by starts_forbidden starts_below is_behind is_served is_regained takes_back starts_quiet is_behind_tuple is_placed_behind_tuple permits_quiet forbids forbids_runner forbids_last stays takes_part forbids_twice stops_forbidden boots_now boots_to_run awaited given_up lost_with is_helped is_booted_with_phases goes_to ends_with moves_unready boots_before lacks_so lacking_so needed_apps
worse_runner = refl

best_runner : found (scene all_up ((web ∷ []) ∷ [] ∷ [] ∷ [] ∷ []) ([] ∷ (web ∷ []) ∷ [] ∷ [] ∷ []) (web_at (Running n1))) (Start n3 web Permanent) code.RunsAtAWorseNode n3 web ≡ None
unfolding found asks_others tries starts_now is_available is_up_after comes_up ends is_permitted_after is_started_after runner is_best is_outranked asks_all is_in_tuple is_idle holds_up stands_so other_so nodes_of apps_of fails_over is_called is_permitted_by starts_forbidden starts_below is_behind is_served is_regained takes_back starts_quiet is_behind_tuple is_placed_behind_tuple permits_quiet forbids forbids_runner forbids_last stays takes_part forbids_twice stops_forbidden boots_now boots_to_run awaited given_up lost_with is_helped is_booted_with_phases goes_to ends_with moves_unready boots_before lacks_so lacking_so needed_apps
best_runner = refl

-- n1, the best, starts it at the same moment
regained_runner : found (scene all_up ([] ∷ (web ∷ []) ∷ [] ∷ [] ∷ []) none (web_at (Running n2))) (StartAll web Permanent) code.RunsAtAWorseNode n3 web ≡ None
unfolding found asks_others tries starts_now is_available is_up_after comes_up ends is_permitted_after is_started_after runner is_best is_outranked asks_all is_in_tuple is_idle holds_up stands_so other_so nodes_of apps_of fails_over is_called is_permitted_by starts_forbidden starts_below is_behind is_served is_regained takes_back starts_quiet is_behind_tuple is_placed_behind_tuple permits_quiet forbids forbids_runner forbids_last stays takes_part forbids_twice stops_forbidden boots_now boots_to_run awaited given_up lost_with is_helped is_booted_with_phases goes_to ends_with moves_unready boots_before lacks_so lacking_so needed_apps
regained_runner = refl

-- a tuple takes it back from n3, of two nodes or of one
takes_back_beside_another : found (scene all_up ([] ∷ [] ∷ (shop ∷ []) ∷ [] ∷ []) none (shop_at (Running n3))) (Start n1 shop Permanent) code.TupleTakeover n1 shop ≡ Some (TupleTakeover n1 shop n2)
unfolding found asks_others tries starts_now is_available is_up_after comes_up ends is_permitted_after is_started_after runner is_best is_outranked asks_all is_in_tuple is_idle holds_up stands_so other_so nodes_of apps_of fails_over is_called is_permitted_by starts_forbidden starts_below is_behind is_served is_regained takes_back starts_quiet is_behind_tuple is_placed_behind_tuple permits_quiet forbids forbids_runner forbids_last stays takes_part forbids_twice stops_forbidden boots_now boots_to_run awaited given_up lost_with is_helped is_booted_with_phases goes_to ends_with moves_unready boots_before lacks_so lacking_so needed_apps
takes_back_beside_another = refl

takes_back_alone : found (scene (Up ∷ Down ∷ Up ∷ Up ∷ []) ([] ∷ [] ∷ (shop ∷ []) ∷ [] ∷ []) none (shop_at (Running n3))) (Start n1 shop Permanent) code.TupleTakeover n1 shop ≡ None
unfolding found asks_others tries starts_now is_available is_up_after comes_up ends is_permitted_after is_started_after runner is_best is_outranked asks_all is_in_tuple is_idle holds_up stands_so other_so nodes_of apps_of fails_over is_called is_permitted_by starts_forbidden starts_below is_behind is_served is_regained takes_back starts_quiet is_behind_tuple is_placed_behind_tuple permits_quiet forbids forbids_runner forbids_last stays takes_part forbids_twice stops_forbidden boots_now boots_to_run awaited given_up lost_with is_helped is_booted_with_phases goes_to ends_with moves_unready boots_before lacks_so lacking_so needed_apps
takes_back_alone = refl

-- both nodes of the tuple start it
takes_back_together : found (scene all_up ([] ∷ [] ∷ (shop ∷ []) ∷ [] ∷ []) none (shop_at (Running n3))) (StartAll shop Permanent) code.TupleTakeover n1 shop ≡ None
unfolding found asks_others tries starts_now is_available is_up_after comes_up ends is_permitted_after is_started_after runner is_best is_outranked asks_all is_in_tuple is_idle holds_up stands_so other_so nodes_of apps_of fails_over is_called is_permitted_by starts_forbidden starts_below is_behind is_served is_regained takes_back starts_quiet is_behind_tuple is_placed_behind_tuple permits_quiet forbids forbids_runner forbids_last stays takes_part forbids_twice stops_forbidden boots_now boots_to_run awaited given_up lost_with is_helped is_booted_with_phases goes_to ends_with moves_unready boots_before lacks_so lacking_so needed_apps
takes_back_together = refl

-- it is quiet, n1 holds it ready, and n2 starts it; or n2 holds it, and n1 starts it
better_holder : found (scene all_up none ((web ∷ []) ∷ [] ∷ [] ∷ [] ∷ []) all_quiet) (Start n2 web Permanent) code.BetterNodeWaitsQuiet n2 web ≡ Some (BetterNodeWaitsQuiet n2 web n1)
unfolding found asks_others tries starts_now is_available is_up_after comes_up ends is_permitted_after is_started_after runner is_best is_outranked asks_all is_in_tuple is_idle holds_up stands_so other_so nodes_of apps_of fails_over is_called is_permitted_by starts_forbidden starts_below is_behind is_served is_regained takes_back starts_quiet is_behind_tuple is_placed_behind_tuple permits_quiet forbids forbids_runner forbids_last stays takes_part forbids_twice stops_forbidden boots_now boots_to_run awaited given_up lost_with is_helped is_booted_with_phases goes_to ends_with moves_unready boots_before lacks_so lacking_so needed_apps
better_holder = refl

worse_holder : found (scene all_up none ([] ∷ (web ∷ []) ∷ [] ∷ [] ∷ []) all_quiet) (Start n1 web Permanent) code.BetterNodeWaitsQuiet n1 web ≡ None
unfolding found asks_others tries starts_now is_available is_up_after comes_up ends is_permitted_after is_started_after runner is_best is_outranked asks_all is_in_tuple is_idle holds_up stands_so other_so nodes_of apps_of fails_over is_called is_permitted_by starts_forbidden starts_below is_behind is_served is_regained takes_back starts_quiet is_behind_tuple is_placed_behind_tuple permits_quiet forbids forbids_runner forbids_last stays takes_part forbids_twice stops_forbidden boots_now boots_to_run awaited given_up lost_with is_helped is_booted_with_phases goes_to ends_with moves_unready boots_before lacks_so lacking_so needed_apps
worse_holder = refl

-- placed at one of two nodes behind a tuple that is lost; n2 is up; n4 is down
behind_a_lost_tuple : found (record (scene (Down ∷ Down ∷ Up ∷ Up ∷ []) none ([] ∷ [] ∷ (site ∷ []) ∷ (site ∷ []) ∷ []) (site_at (Lost n1))) { timers = (1500, Failover site) ∷ [] }) (Tick 500) code.WeightsForEver n3 site ≡ Some (WeightsForEver n3 site n4)
unfolding found asks_others tries starts_now is_available is_up_after comes_up ends is_permitted_after is_started_after runner is_best is_outranked asks_all is_in_tuple is_idle holds_up stands_so other_so nodes_of apps_of fails_over is_called is_permitted_by starts_forbidden starts_below is_behind is_served is_regained takes_back starts_quiet is_behind_tuple is_placed_behind_tuple permits_quiet forbids forbids_runner forbids_last stays takes_part forbids_twice stops_forbidden boots_now boots_to_run awaited given_up lost_with is_helped is_booted_with_phases goes_to ends_with moves_unready boots_before lacks_so lacking_so needed_apps
behind_a_lost_tuple = refl

within_the_first_tuple : found (record (scene (Down ∷ Up ∷ Up ∷ Up ∷ []) none ([] ∷ (site ∷ []) ∷ (site ∷ []) ∷ (site ∷ []) ∷ []) (site_at (Lost n1))) { timers = (1500, Failover site) ∷ [] }) (Tick 500) code.WeightsForEver n3 site ≡ None
unfolding found asks_others tries starts_now is_available is_up_after comes_up ends is_permitted_after is_started_after runner is_best is_outranked asks_all is_in_tuple is_idle holds_up stands_so other_so nodes_of apps_of fails_over is_called is_permitted_by starts_forbidden starts_below is_behind is_served is_regained takes_back starts_quiet is_behind_tuple is_placed_behind_tuple permits_quiet forbids forbids_runner forbids_last stays takes_part forbids_twice stops_forbidden boots_now boots_to_run awaited given_up lost_with is_helped is_booted_with_phases goes_to ends_with moves_unready boots_before lacks_so lacking_so needed_apps
within_the_first_tuple = refl

alone_behind_a_tuple : found (record (scene (Down ∷ Down ∷ Up ∷ Down ∷ []) none ([] ∷ [] ∷ (site ∷ []) ∷ (site ∷ []) ∷ []) (site_at (Lost n1))) { timers = (1500, Failover site) ∷ [] }) (Tick 500) code.WeightsForEver n3 site ≡ None
unfolding found asks_others tries starts_now is_available is_up_after comes_up ends is_permitted_after is_started_after runner is_best is_outranked asks_all is_in_tuple is_idle holds_up stands_so other_so nodes_of apps_of fails_over is_called is_permitted_by starts_forbidden starts_below is_behind is_served is_regained takes_back starts_quiet is_behind_tuple is_placed_behind_tuple permits_quiet forbids forbids_runner forbids_last stays takes_part forbids_twice stops_forbidden boots_now boots_to_run awaited given_up lost_with is_helped is_booted_with_phases goes_to ends_with moves_unready boots_before lacks_so lacking_so needed_apps
alone_behind_a_tuple = refl
