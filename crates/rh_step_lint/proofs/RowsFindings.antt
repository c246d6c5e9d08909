-- Nodes that come up, events that are refused, and all findings of an event, computed from the definitions.
use Rattle.std.proofs.Common.{◌≡◌, [], ◌∷◌, true, false, Some, None, refl}
use Rattle.rh_model.specs.ClusterView.{numbered}
use Rattle.rh_model.specs.Needs.{needed_apps}
use Rattle.rh_model.specs.declared.settings.Restart.TheVariants.{Permanent}
use Rattle.rh_model.specs.declared.settings.SyncWait.TheVariants.{Unset, After, Forever}
use Rattle.rh_state.specs.Numbers.{nodes_of, apps_of}
use Rattle.rh_state.specs.declared.status.Mode.TheVariants.{Up, Down, Waiting}
use Rattle.rh_state.specs.declared.status.Standing.TheVariants.{Wanted, Running}
use Rattle.rh_state.specs.declared.status.Timer.TheVariants.{Sync}
use Rattle.rh_rules.specs.Everywhere.{has_host, has_target, missing_at_targets, targets}
use Rattle.rh_rules.specs.NodesStart.{all_alive}
use Rattle.rh_rules.specs.Placing.{missing_dep}
use Rattle.rh_rules.specs.Refusals.{refused}
use Rattle.rh_rules.specs.declared.event.Event.TheVariants.{Boot, Crash, Tick, Start, Takeover, StartAll}
use Rattle.rh_step_findings.specs.After.{comes_up, ends, is_up_after, starts_now, is_started_after, is_permitted_after}
use Rattle.rh_step_findings.specs.Candidates.{is_in_tuple, takes_part, is_available, is_outranked, is_best, asks_all, is_idle, holds_up}
use Rattle.rh_step_findings.specs.Tries.{runner, fails_over, is_called, is_permitted_by, tries, stays, asks_others}
use Rattle.rh_step_findings.specs.Others.{stands_so, other_so}
use Rattle.rh_step_findings.specs.Lacks.{boots_before, lacks_so, lacking_so}
use Rattle.rh_step_findings.specs.Pairs.{found, is_behind, is_served, is_regained, starts_forbidden, starts_below, takes_back, starts_quiet, is_behind_tuple, is_placed_behind_tuple, permits_quiet, forbids, forbids_runner, forbids_last, forbids_twice, stops_forbidden, boots_now, boots_to_run, awaited, given_up, lost_with, is_helped, is_booted_with_phases, goes_to, ends_with, moves_unready}
use Rattle.rh_step_findings.specs.Nodes.{boots_spread, may_get, boots_beside, waits_meanwhile, is_left_waiting, other_node_waits, is_overlooked, boots_up, not_in_its_lists}
use Rattle.rh_step_findings.specs.Findings.{found_at, found_of, findings_made, findings_refused, step_findings_of}
use Rattle.rh_step_findings.specs.declared.finding.StepFinding.TheVariants.{TupleMemberNotStarted, WorseNodeNotStarted, StartWhereNotListed, TakeoverWhereForbidden, StartOfAWaitingLocal, OtherNodeWaits, NotInItsLists}
use Rattle.rh_step_lint.proofs.Scene.{n1, n2, n3, n4, db, web, shop, site, node, plain, cluster, all_up, none, all_quiet, web_at, scene, forbidden_at_n1, within}

-- ---- a node comes up
-- n2 waits for n3 as n1 comes up; or comes up too, since it waited for n1 alone
waits_for_a_third : other_node_waits (within (cluster plain (node Forever (n1 ∷ n3 ∷ []) [])) (scene (Down ∷ Waiting ∷ Down ∷ Up ∷ []) none none all_quiet)) (Boot n1) n1 ≡ Some (OtherNodeWaits n1 n2)
unfolding found found_at found_of findings_made step_findings_of findings_refused refused missing_dep has_host has_target missing_at_targets targets asks_others tries starts_now is_available is_up_after comes_up ends is_permitted_after is_started_after runner is_best is_outranked asks_all is_in_tuple is_idle holds_up stands_so other_so nodes_of apps_of fails_over is_called is_permitted_by starts_forbidden starts_below is_behind is_served is_regained takes_back starts_quiet is_behind_tuple is_placed_behind_tuple permits_quiet forbids forbids_runner forbids_last stays takes_part forbids_twice stops_forbidden boots_now boots_to_run awaited given_up lost_with is_helped is_booted_with_phases goes_to ends_with moves_unready boots_before lacks_so lacking_so needed_apps all_alive boots_spread may_get boots_beside waits_meanwhile is_left_waiting other_node_waits is_overlooked boots_up not_in_its_lists
waits_for_a_third = refl

comes_up_too : other_node_waits (within (cluster plain (node Forever (n1 ∷ []) [])) (scene (Down ∷ Waiting ∷ Down ∷ Up ∷ []) none none all_quiet)) (Boot n1) n1 ≡ None
unfolding found found_at found_of findings_made step_findings_of findings_refused refused missing_dep has_host has_target missing_at_targets targets asks_others tries starts_now is_available is_up_after comes_up ends is_permitted_after is_started_after runner is_best is_outranked asks_all is_in_tuple is_idle holds_up stands_so other_so nodes_of apps_of fails_over is_called is_permitted_by starts_forbidden starts_below is_behind is_served is_regained takes_back starts_quiet is_behind_tuple is_placed_behind_tuple permits_quiet forbids forbids_runner forbids_last stays takes_part forbids_twice stops_forbidden boots_now boots_to_run awaited given_up lost_with is_helped is_booted_with_phases goes_to ends_with moves_unready boots_before lacks_so lacking_so needed_apps all_alive boots_spread may_get boots_beside waits_meanwhile is_left_waiting other_node_waits is_overlooked boots_up not_in_its_lists
comes_up_too = refl

-- n1 waits itself
waits_itself : other_node_waits (within (cluster (node Forever (n3 ∷ []) []) plain) (scene (Down ∷ Waiting ∷ Down ∷ Up ∷ []) none none all_quiet)) (Boot n1) n1 ≡ None
unfolding found found_at found_of findings_made step_findings_of findings_refused refused missing_dep has_host has_target missing_at_targets targets asks_others tries starts_now is_available is_up_after comes_up ends is_permitted_after is_started_after runner is_best is_outranked asks_all is_in_tuple is_idle holds_up stands_so other_so nodes_of apps_of fails_over is_called is_permitted_by starts_forbidden starts_below is_behind is_served is_regained takes_back starts_quiet is_behind_tuple is_placed_behind_tuple permits_quiet forbids forbids_runner forbids_last stays takes_part forbids_twice stops_forbidden boots_now boots_to_run awaited given_up lost_with is_helped is_booted_with_phases goes_to ends_with moves_unready boots_before lacks_so lacking_so needed_apps all_alive boots_spread may_get boots_beside waits_meanwhile is_left_waiting other_node_waits is_overlooked boots_up not_in_its_lists
waits_itself = refl

-- within a tick n1's wait ends, and n2 waits still; the wait ends later
wait_ends : other_node_waits (record (within (cluster (node (After 5000) (n2 ∷ []) ((web, Permanent) ∷ [])) plain) (scene (Waiting ∷ Waiting ∷ Down ∷ Up ∷ []) none none all_quiet)) { timers = (5000, Sync n1) ∷ [] }) (Tick 4000) n1 ≡ Some (OtherNodeWaits n1 n2)
unfolding found found_at found_of findings_made step_findings_of findings_refused refused missing_dep has_host has_target missing_at_targets targets asks_others tries starts_now is_available is_up_after comes_up ends is_permitted_after is_started_after runner is_best is_outranked asks_all is_in_tuple is_idle holds_up stands_so other_so nodes_of apps_of fails_over is_called is_permitted_by starts_forbidden starts_below is_behind is_served is_regained takes_back starts_quiet is_behind_tuple is_placed_behind_tuple permits_quiet forbids forbids_runner forbids_last stays takes_part forbids_twice stops_forbidden boots_now boots_to_run awaited given_up lost_with is_helped is_booted_with_phases goes_to ends_with moves_unready boots_before lacks_so lacking_so needed_apps all_alive boots_spread may_get boots_beside waits_meanwhile is_left_waiting other_node_waits is_overlooked boots_up not_in_its_lists
wait_ends = refl

wait_goes_on : other_node_waits (record (within (cluster (node (After 5000) (n2 ∷ []) ((web, Permanent) ∷ [])) plain) (scene (Waiting ∷ Waiting ∷ Down ∷ Up ∷ []) none none all_quiet)) { timers = (5000, Sync n1) ∷ [] }) (Tick 3999) n1 ≡ None
unfolding found found_at found_of findings_made step_findings_of findings_refused refused missing_dep has_host has_target missing_at_targets targets asks_others tries starts_now is_available is_up_after comes_up ends is_permitted_after is_started_after runner is_best is_outranked asks_all is_in_tuple is_idle holds_up stands_so other_so nodes_of apps_of fails_over is_called is_permitted_by starts_forbidden starts_below is_behind is_served is_regained takes_back starts_quiet is_behind_tuple is_placed_behind_tuple permits_quiet forbids forbids_runner forbids_last stays takes_part forbids_twice stops_forbidden boots_now boots_to_run awaited given_up lost_with is_helped is_booted_with_phases goes_to ends_with moves_unready boots_before lacks_so lacking_so needed_apps all_alive boots_spread may_get boots_beside waits_meanwhile is_left_waiting other_node_waits is_overlooked boots_up not_in_its_lists
wait_goes_on = refl

-- both waits end: n1, which ranks before n2, keeps web, and n2 may lose it to n1
waits_end_together : other_node_waits (record (within (cluster (node (After 5000) (n2 ∷ []) ((web, Permanent) ∷ [])) plain) (scene (Waiting ∷ Waiting ∷ Down ∷ Up ∷ []) none none all_quiet)) { timers = (5000, Sync n1) ∷ (5000, Sync n2) ∷ [] }) (Tick 4000) n1 ≡ None
unfolding found found_at found_of findings_made step_findings_of findings_refused refused missing_dep has_host has_target missing_at_targets targets asks_others tries starts_now is_available is_up_after comes_up ends is_permitted_after is_started_after runner is_best is_outranked asks_all is_in_tuple is_idle holds_up stands_so other_so nodes_of apps_of fails_over is_called is_permitted_by starts_forbidden starts_below is_behind is_served is_regained takes_back starts_quiet is_behind_tuple is_placed_behind_tuple permits_quiet forbids forbids_runner forbids_last stays takes_part forbids_twice stops_forbidden boots_now boots_to_run awaited given_up lost_with is_helped is_booted_with_phases goes_to ends_with moves_unready boots_before lacks_so lacking_so needed_apps all_alive boots_spread may_get boots_beside waits_meanwhile is_left_waiting other_node_waits is_overlooked boots_up not_in_its_lists
waits_end_together = refl

waits_end_for_the_better : other_node_waits (record (within (cluster (node (After 5000) (n2 ∷ []) ((web, Permanent) ∷ [])) plain) (scene (Waiting ∷ Waiting ∷ Down ∷ Up ∷ []) none none all_quiet)) { timers = (5000, Sync n1) ∷ (5000, Sync n2) ∷ [] }) (Tick 4000) n2 ≡ Some (OtherNodeWaits n2 n1)
unfolding found found_at found_of findings_made step_findings_of findings_refused refused missing_dep has_host has_target missing_at_targets targets asks_others tries starts_now is_available is_up_after comes_up ends is_permitted_after is_started_after runner is_best is_outranked asks_all is_in_tuple is_idle holds_up stands_so other_so nodes_of apps_of fails_over is_called is_permitted_by starts_forbidden starts_below is_behind is_served is_regained takes_back starts_quiet is_behind_tuple is_placed_behind_tuple permits_quiet forbids forbids_runner forbids_last stays takes_part forbids_twice stops_forbidden boots_now boots_to_run awaited given_up lost_with is_helped is_booted_with_phases goes_to ends_with moves_unready boots_before lacks_so lacking_so needed_apps all_alive boots_spread may_get boots_beside waits_meanwhile is_left_waiting other_node_waits is_overlooked boots_up not_in_its_lists
waits_end_for_the_better = refl

-- neither has the other in its lists
waits_unseen : other_node_waits (record (within (cluster (node (After 5000) (n3 ∷ []) ((web, Permanent) ∷ [])) plain) (scene (Waiting ∷ Waiting ∷ Down ∷ Up ∷ []) none none all_quiet)) { timers = (5000, Sync n1) ∷ [] }) (Tick 4000) n1 ≡ None
unfolding found found_at found_of findings_made step_findings_of findings_refused refused missing_dep has_host has_target missing_at_targets targets asks_others tries starts_now is_available is_up_after comes_up ends is_permitted_after is_started_after runner is_best is_outranked asks_all is_in_tuple is_idle holds_up stands_so other_so nodes_of apps_of fails_over is_called is_permitted_by starts_forbidden starts_below is_behind is_served is_regained takes_back starts_quiet is_behind_tuple is_placed_behind_tuple permits_quiet forbids forbids_runner forbids_last stays takes_part forbids_twice stops_forbidden boots_now boots_to_run awaited given_up lost_with is_helped is_booted_with_phases goes_to ends_with moves_unready boots_before lacks_so lacking_so needed_apps all_alive boots_spread may_get boots_beside waits_meanwhile is_left_waiting other_node_waits is_overlooked boots_up not_in_its_lists
waits_unseen = refl

-- n1 boots what is local alone
boots_local_alone : other_node_waits (record (within (cluster (node (After 5000) (n2 ∷ []) ((db, Permanent) ∷ [])) plain) (scene (Waiting ∷ Waiting ∷ Down ∷ Up ∷ []) none none all_quiet)) { timers = (5000, Sync n1) ∷ [] }) (Tick 4000) n1 ≡ None
unfolding found found_at found_of findings_made step_findings_of findings_refused refused missing_dep has_host has_target missing_at_targets targets asks_others tries starts_now is_available is_up_after comes_up ends is_permitted_after is_started_after runner is_best is_outranked asks_all is_in_tuple is_idle holds_up stands_so other_so nodes_of apps_of fails_over is_called is_permitted_by starts_forbidden starts_below is_behind is_served is_regained takes_back starts_quiet is_behind_tuple is_placed_behind_tuple permits_quiet forbids forbids_runner forbids_last stays takes_part forbids_twice stops_forbidden boots_now boots_to_run awaited given_up lost_with is_helped is_booted_with_phases goes_to ends_with moves_unready boots_before lacks_so lacking_so needed_apps all_alive boots_spread may_get boots_beside waits_meanwhile is_left_waiting other_node_waits is_overlooked boots_up not_in_its_lists
boots_local_alone = refl

-- n1's own lists lack n4, or lack nobody that is alive
overlooks_n4 : not_in_its_lists (within (cluster (node Forever (n2 ∷ []) ((site, Permanent) ∷ [])) plain) (scene (Down ∷ Up ∷ Down ∷ Up ∷ []) none none all_quiet)) (Boot n1) n1 ≡ Some (NotInItsLists n1 n4)
unfolding found found_at found_of findings_made step_findings_of findings_refused refused missing_dep has_host has_target missing_at_targets targets asks_others tries starts_now is_available is_up_after comes_up ends is_permitted_after is_started_after runner is_best is_outranked asks_all is_in_tuple is_idle holds_up stands_so other_so nodes_of apps_of fails_over is_called is_permitted_by starts_forbidden starts_below is_behind is_served is_regained takes_back starts_quiet is_behind_tuple is_placed_behind_tuple permits_quiet forbids forbids_runner forbids_last stays takes_part forbids_twice stops_forbidden boots_now boots_to_run awaited given_up lost_with is_helped is_booted_with_phases goes_to ends_with moves_unready boots_before lacks_so lacking_so needed_apps all_alive boots_spread may_get boots_beside waits_meanwhile is_left_waiting other_node_waits is_overlooked boots_up not_in_its_lists
overlooks_n4 = refl

overlooks_none : not_in_its_lists (within (cluster (node Forever (n2 ∷ n4 ∷ []) ((site, Permanent) ∷ [])) plain) (scene (Down ∷ Up ∷ Down ∷ Up ∷ []) none none all_quiet)) (Boot n1) n1 ≡ None
unfolding found found_at found_of findings_made step_findings_of findings_refused refused missing_dep has_host has_target missing_at_targets targets asks_others tries starts_now is_available is_up_after comes_up ends is_permitted_after is_started_after runner is_best is_outranked asks_all is_in_tuple is_idle holds_up stands_so other_so nodes_of apps_of fails_over is_called is_permitted_by starts_forbidden starts_below is_behind is_served is_regained takes_back starts_quiet is_behind_tuple is_placed_behind_tuple permits_quiet forbids forbids_runner forbids_last stays takes_part forbids_twice stops_forbidden boots_now boots_to_run awaited given_up lost_with is_helped is_booted_with_phases goes_to ends_with moves_unready boots_before lacks_so lacking_so needed_apps all_alive boots_spread may_get boots_beside waits_meanwhile is_left_waiting other_node_waits is_overlooked boots_up not_in_its_lists
overlooks_none = refl

-- web can't run at n4
overlooks_unlisted : not_in_its_lists (within (cluster (node Forever (n2 ∷ []) ((web, Permanent) ∷ [])) plain) (scene (Down ∷ Up ∷ Down ∷ Up ∷ []) none none all_quiet)) (Boot n1) n1 ≡ None
unfolding found found_at found_of findings_made step_findings_of findings_refused refused missing_dep has_host has_target missing_at_targets targets asks_others tries starts_now is_available is_up_after comes_up ends is_permitted_after is_started_after runner is_best is_outranked asks_all is_in_tuple is_idle holds_up stands_so other_so nodes_of apps_of fails_over is_called is_permitted_by starts_forbidden starts_below is_behind is_served is_regained takes_back starts_quiet is_behind_tuple is_placed_behind_tuple permits_quiet forbids forbids_runner forbids_last stays takes_part forbids_twice stops_forbidden boots_now boots_to_run awaited given_up lost_with is_helped is_booted_with_phases goes_to ends_with moves_unready boots_before lacks_so lacking_so needed_apps all_alive boots_spread may_get boots_beside waits_meanwhile is_left_waiting other_node_waits is_overlooked boots_up not_in_its_lists
overlooks_unlisted = refl

-- without a timeout it has no lists
unset_lists : not_in_its_lists (within (cluster (node Unset (n2 ∷ n4 ∷ []) ((site, Permanent) ∷ [])) plain) (scene (Down ∷ Up ∷ Down ∷ Up ∷ []) none none all_quiet)) (Boot n1) n1 ≡ Some (NotInItsLists n1 n2)
unfolding found found_at found_of findings_made step_findings_of findings_refused refused missing_dep has_host has_target missing_at_targets targets asks_others tries starts_now is_available is_up_after comes_up ends is_permitted_after is_started_after runner is_best is_outranked asks_all is_in_tuple is_idle holds_up stands_so other_so nodes_of apps_of fails_over is_called is_permitted_by starts_forbidden starts_below is_behind is_served is_regained takes_back starts_quiet is_behind_tuple is_placed_behind_tuple permits_quiet forbids forbids_runner forbids_last stays takes_part forbids_twice stops_forbidden boots_now boots_to_run awaited given_up lost_with is_helped is_booted_with_phases goes_to ends_with moves_unready boots_before lacks_so lacking_so needed_apps all_alive boots_spread may_get boots_beside waits_meanwhile is_left_waiting other_node_waits is_overlooked boots_up not_in_its_lists
unset_lists = refl

-- ---- an event that is refused
-- a node that isn't in the list
not_listed : step_findings_of (scene all_up none none all_quiet) (Start n4 web Permanent) ≡ StartWhereNotListed n4 web ∷ []
unfolding found found_at found_of findings_made step_findings_of findings_refused refused missing_dep has_host has_target missing_at_targets targets asks_others tries starts_now is_available is_up_after comes_up ends is_permitted_after is_started_after runner is_best is_outranked asks_all is_in_tuple is_idle holds_up stands_so other_so nodes_of apps_of fails_over is_called is_permitted_by starts_forbidden starts_below is_behind is_served is_regained takes_back starts_quiet is_behind_tuple is_placed_behind_tuple permits_quiet forbids forbids_runner forbids_last stays takes_part forbids_twice stops_forbidden boots_now boots_to_run awaited given_up lost_with is_helped is_booted_with_phases goes_to ends_with moves_unready boots_before lacks_so lacking_so needed_apps all_alive boots_spread may_get boots_beside waits_meanwhile is_left_waiting other_node_waits is_overlooked boots_up not_in_its_lists
not_listed = refl

moved_where_not_listed : step_findings_of (scene all_up ((db ∷ []) ∷ (web ∷ []) ∷ [] ∷ [] ∷ []) none (web_at (Running n2))) (Takeover n4 web Permanent) ≡ StartWhereNotListed n4 web ∷ []
unfolding found found_at found_of findings_made step_findings_of findings_refused refused missing_dep has_host has_target missing_at_targets targets asks_others tries starts_now is_available is_up_after comes_up ends is_permitted_after is_started_after runner is_best is_outranked asks_all is_in_tuple is_idle holds_up stands_so other_so nodes_of apps_of fails_over is_called is_permitted_by starts_forbidden starts_below is_behind is_served is_regained takes_back starts_quiet is_behind_tuple is_placed_behind_tuple permits_quiet forbids forbids_runner forbids_last stays takes_part forbids_twice stops_forbidden boots_now boots_to_run awaited given_up lost_with is_helped is_booted_with_phases goes_to ends_with moves_unready boots_before lacks_so lacking_so needed_apps all_alive boots_spread may_get boots_beside waits_meanwhile is_left_waiting other_node_waits is_overlooked boots_up not_in_its_lists
moved_where_not_listed = refl

-- one where it is forbidden
moved_where_forbidden : step_findings_of (forbidden_at_n1 true false (scene all_up ([] ∷ (db ∷ web ∷ []) ∷ [] ∷ [] ∷ []) none (web_at (Running n2)))) (Takeover n1 web Permanent) ≡ TakeoverWhereForbidden n1 web ∷ []
unfolding found found_at found_of findings_made step_findings_of findings_refused refused missing_dep has_host has_target missing_at_targets targets asks_others tries starts_now is_available is_up_after comes_up ends is_permitted_after is_started_after runner is_best is_outranked asks_all is_in_tuple is_idle holds_up stands_so other_so nodes_of apps_of fails_over is_called is_permitted_by starts_forbidden starts_below is_behind is_served is_regained takes_back starts_quiet is_behind_tuple is_placed_behind_tuple permits_quiet forbids forbids_runner forbids_last stays takes_part forbids_twice stops_forbidden boots_now boots_to_run awaited given_up lost_with is_helped is_booted_with_phases goes_to ends_with moves_unready boots_before lacks_so lacking_so needed_apps all_alive boots_spread may_get boots_beside waits_meanwhile is_left_waiting other_node_waits is_overlooked boots_up not_in_its_lists
moved_where_forbidden = refl

-- a local one that waits, and one that runs
waiting_local : step_findings_of (forbidden_at_n1 false true (scene all_up none ((db ∷ []) ∷ [] ∷ [] ∷ [] ∷ []) all_quiet)) (Start n1 db Permanent) ≡ StartOfAWaitingLocal n1 db ∷ []
unfolding found found_at found_of findings_made step_findings_of findings_refused refused missing_dep has_host has_target missing_at_targets targets asks_others tries starts_now is_available is_up_after comes_up ends is_permitted_after is_started_after runner is_best is_outranked asks_all is_in_tuple is_idle holds_up stands_so other_so nodes_of apps_of fails_over is_called is_permitted_by starts_forbidden starts_below is_behind is_served is_regained takes_back starts_quiet is_behind_tuple is_placed_behind_tuple permits_quiet forbids forbids_runner forbids_last stays takes_part forbids_twice stops_forbidden boots_now boots_to_run awaited given_up lost_with is_helped is_booted_with_phases goes_to ends_with moves_unready boots_before lacks_so lacking_so needed_apps all_alive boots_spread may_get boots_beside waits_meanwhile is_left_waiting other_node_waits is_overlooked boots_up not_in_its_lists
waiting_local = refl

running_local : step_findings_of (scene all_up ((db ∷ []) ∷ [] ∷ [] ∷ [] ∷ []) none all_quiet) (Start n1 db Permanent) ≡ []
unfolding found found_at found_of findings_made step_findings_of findings_refused refused missing_dep has_host has_target missing_at_targets targets asks_others tries starts_now is_available is_up_after comes_up ends is_permitted_after is_started_after runner is_best is_outranked asks_all is_in_tuple is_idle holds_up stands_so other_so nodes_of apps_of fails_over is_called is_permitted_by starts_forbidden starts_below is_behind is_served is_regained takes_back starts_quiet is_behind_tuple is_placed_behind_tuple permits_quiet forbids forbids_runner forbids_last stays takes_part forbids_twice stops_forbidden boots_now boots_to_run awaited given_up lost_with is_helped is_booted_with_phases goes_to ends_with moves_unready boots_before lacks_so lacking_so needed_apps all_alive boots_spread may_get boots_beside waits_meanwhile is_left_waiting other_node_waits is_overlooked boots_up not_in_its_lists
running_local = refl

-- a distributed one that waits
waiting_standby : step_findings_of (scene all_up none ((web ∷ []) ∷ [] ∷ [] ∷ [] ∷ []) (web_at (Wanted None))) (Start n1 web Permanent) ≡ []
unfolding found found_at found_of findings_made step_findings_of findings_refused refused missing_dep has_host has_target missing_at_targets targets asks_others tries starts_now is_available is_up_after comes_up ends is_permitted_after is_started_after runner is_best is_outranked asks_all is_in_tuple is_idle holds_up stands_so other_so nodes_of apps_of fails_over is_called is_permitted_by starts_forbidden starts_below is_behind is_served is_regained takes_back starts_quiet is_behind_tuple is_placed_behind_tuple permits_quiet forbids forbids_runner forbids_last stays takes_part forbids_twice stops_forbidden boots_now boots_to_run awaited given_up lost_with is_helped is_booted_with_phases goes_to ends_with moves_unready boots_before lacks_so lacking_so needed_apps all_alive boots_spread may_get boots_beside waits_meanwhile is_left_waiting other_node_waits is_overlooked boots_up not_in_its_lists
waiting_standby = refl

-- a node that isn't there
unknown_node : step_findings_of (scene all_up none none all_quiet) (Boot (numbered 4)) ≡ []
unfolding found found_at found_of findings_made step_findings_of findings_refused refused missing_dep has_host has_target missing_at_targets targets asks_others tries starts_now is_available is_up_after comes_up ends is_permitted_after is_started_after runner is_best is_outranked asks_all is_in_tuple is_idle holds_up stands_so other_so nodes_of apps_of fails_over is_called is_permitted_by starts_forbidden starts_below is_behind is_served is_regained takes_back starts_quiet is_behind_tuple is_placed_behind_tuple permits_quiet forbids forbids_runner forbids_last stays takes_part forbids_twice stops_forbidden boots_now boots_to_run awaited given_up lost_with is_helped is_booted_with_phases goes_to ends_with moves_unready boots_before lacks_so lacking_so needed_apps all_alive boots_spread may_get boots_beside waits_meanwhile is_left_waiting other_node_waits is_overlooked boots_up not_in_its_lists
unknown_node = refl

-- ---- all of an event
-- by kind
both_kinds : step_findings_of (scene all_up none none all_quiet) (Start n1 shop Permanent) ≡ TupleMemberNotStarted n1 shop n2 ∷ WorseNodeNotStarted n1 shop n3 ∷ []
unfolding found found_at found_of findings_made step_findings_of findings_refused refused missing_dep has_host has_target missing_at_targets targets asks_others tries starts_now is_available is_up_after comes_up ends is_permitted_after is_started_after runner is_best is_outranked asks_all is_in_tuple is_idle holds_up stands_so other_so nodes_of apps_of fails_over is_called is_permitted_by starts_forbidden starts_below is_behind is_served is_regained takes_back starts_quiet is_behind_tuple is_placed_behind_tuple permits_quiet forbids forbids_runner forbids_last stays takes_part forbids_twice stops_forbidden boots_now boots_to_run awaited given_up lost_with is_helped is_booted_with_phases goes_to ends_with moves_unready boots_before lacks_so lacking_so needed_apps all_alive boots_spread may_get boots_beside waits_meanwhile is_left_waiting other_node_waits is_overlooked boots_up not_in_its_lists
both_kinds = refl

-- started at all of its nodes
started_at_all : step_findings_of (scene all_up none none all_quiet) (StartAll shop Permanent) ≡ []
unfolding found found_at found_of findings_made step_findings_of findings_refused refused missing_dep has_host has_target missing_at_targets targets asks_others tries starts_now is_available is_up_after comes_up ends is_permitted_after is_started_after runner is_best is_outranked asks_all is_in_tuple is_idle holds_up stands_so other_so nodes_of apps_of fails_over is_called is_permitted_by starts_forbidden starts_below is_behind is_served is_regained takes_back starts_quiet is_behind_tuple is_placed_behind_tuple permits_quiet forbids forbids_runner forbids_last stays takes_part forbids_twice stops_forbidden boots_now boots_to_run awaited given_up lost_with is_helped is_booted_with_phases goes_to ends_with moves_unready boots_before lacks_so lacking_so needed_apps all_alive boots_spread may_get boots_beside waits_meanwhile is_left_waiting other_node_waits is_overlooked boots_up not_in_its_lists
started_at_all = refl

-- nothing is started, and a node ends
nothing_at_a_crash : step_findings_of (scene all_up none none all_quiet) (Crash n1) ≡ []
unfolding found found_at found_of findings_made step_findings_of findings_refused refused missing_dep has_host has_target missing_at_targets targets asks_others tries starts_now is_available is_up_after comes_up ends is_permitted_after is_started_after runner is_best is_outranked asks_all is_in_tuple is_idle holds_up stands_so other_so nodes_of apps_of fails_over is_called is_permitted_by starts_forbidden starts_below is_behind is_served is_regained takes_back starts_quiet is_behind_tuple is_placed_behind_tuple permits_quiet forbids forbids_runner forbids_last stays takes_part forbids_twice stops_forbidden boots_now boots_to_run awaited given_up lost_with is_helped is_booted_with_phases goes_to ends_with moves_unready boots_before lacks_so lacking_so needed_apps all_alive boots_spread may_get boots_beside waits_meanwhile is_left_waiting other_node_waits is_overlooked boots_up not_in_its_lists
nothing_at_a_crash = refl
