-- Calls that the laws are of. Of two nodes the first one runs an application that is distributed, and one that isn't, both permanent; it was
-- also to start one that it forbids, and hasn't started another one. The second node knows where the distributed one runs, and was to
-- start the one that is forbidden alone.
use Rattle.std.proofs.Common.{◌≡◌, ◌<◌, ◌==◌, ◌||◌, ℕ, zero, suc, true, false, List, [], ◌∷◌, Some, None, refl, sym, ap, subst, ◌∙◌, inl, arith}
use Rattle.std.specs.Prelude.{All}
use Rattle.std.proofs.lemmas.List.Elements.{All-nil, All-cons}
use Rattle.rh_model.specs.ClusterView.{ClusterView, NodeView, app_numbered}
use Rattle.rh_model.specs.declared.node.App.{App}
use Rattle.rh_model.specs.declared.node.Node.{Node}
use Rattle.rh_model.specs.declared.settings.Restart.{Restart}
use Rattle.rh_model.specs.declared.settings.Restart.TheVariants.{Permanent, Temporary}
use Rattle.rh_model.specs.declared.settings.SyncWait.TheVariants.{After}
use Rattle.rh_otp_model.specs.Own.{EntryView, controls}
use Rattle.rh_otp_model.specs.Rows.{keyfind, has_row}
use Rattle.rh_otp_controller.specs.Calls.{start as controller_start, stop as controller_stop, permit as controller_permit, top_ends as controller_top_ends, ends_with}
use Rattle.rh_otp_controller.specs.Changes.{do_start as controller_do_start, change as controller_change, received as controller_received}
use Rattle.rh_otp_controller.specs.Starting.{spawn_starter as controller_spawn_starter, reply_to_requester as controller_reply_to_requester, has_started as controller_has_started, start_reply as controller_start_reply}
use Rattle.rh_otp_dist.specs.Attempts.{finish as dist_finish, runs_elsewhere as dist_runs_elsewhere}
use Rattle.rh_otp_dist.specs.Calls.{take_over as dist_take_over, permit as dist_permit, get_nodes as dist_get_nodes}
use Rattle.rh_otp_dist.specs.Choosing.{start_here as dist_start_here, is_to_start as dist_is_to_start, find_start_node as dist_find_start_node, start_distributed as dist_start_distributed, start_appl as dist_start_appl}
use Rattle.rh_otp_dist.specs.Down.{check_waiting as dist_check_waiting, node_down as dist_node_down}
use Rattle.rh_otp_dist.specs.Outside.{introduced_to as dist_introduced_to}
use Rattle.rh_otp_dist.specs.Received.{handle_next as dist_handle_next}
use Rattle.rh_otp_dist.specs.Sending.{del_t_reqs as dist_del_t_reqs}
use Rattle.rh_otp_dist.specs.Told.{run as dist_run, answer_ends as dist_answer_ends, not_run as dist_not_run, stopped as dist_stopped, new_node as dist_new_node, answer_permits as dist_answer_permits, app_started as dist_app_started, app_stopped as dist_app_stopped, weight_told as dist_weight_told, restart as dist_restart, new_permission as dist_new_permission}
use Rattle.rh_otp_net.specs.Links.{to_connect as net_to_connect}
use Rattle.rh_otp_node.specs.Turns.{controlled_by as node_controlled_by, terminated_by as node_terminated_by, handled_by as node_handled_by, introduced_by as node_introduced_by}
use Rattle.rh_otp_system.specs.Calling.{lock_call as system_lock_call, wait_for_lock as system_wait_for_lock, behind_sync as system_behind_sync, go_on_call as system_go_on_call, call_received as system_call_received}
use Rattle.rh_otp_system.specs.Connecting.{connect as system_connect}
use Rattle.rh_otp_system.specs.Delivering.{delivered as system_delivered, slowed as system_slowed}
use Rattle.rh_otp_system.specs.Doing.{waited_for as system_waited_for, booted as system_booted, called as system_called, fired_next as system_fired_next, ticked as system_ticked, is_ticked as system_is_ticked}
use Rattle.rh_otp_system.specs.Ending.{down_told as system_down_told, taken_down as system_taken_down, ended as system_ended, stopped as system_stopped}
use Rattle.rh_otp_system.specs.Joining.{join as system_join, has_seen as system_has_seen, boot_next as system_boot_next}
use Rattle.rh_otp_system.specs.Moves.{made as system_made}
use Rattle.rh_otp_system.specs.Resting.{rested as system_rested, forgotten as system_forgotten}
use Rattle.rh_otp_system.specs.Sending.{told as system_told, after as system_after}
use Rattle.rh_otp_system.specs.Working.{take_lock as system_take_lock, gone as system_gone, handled as system_handled, work as system_work, mailed as system_mailed}
use Rattle.rh_otp_controller.specs.declared.state.Place.TheVariants as place_of
use Rattle.rh_otp_dist.specs.State.{DistView, is_among}
use Rattle.rh_otp_net.specs.declared.order.Order.TheVariants.{FirstComes}
use Rattle.rh_otp_net.specs.Links.{are_linked}
use Rattle.rh_otp_node.specs.Live.{never_begun}
use Rattle.rh_otp_system.specs.declared.cell.Cell.TheVariants as cell
use Rattle.rh_otp_system.specs.Doing.{booted}
use Rattle.rh_otp_system.specs.Moves.{IsSettled, is_settled_by}
use Rattle.rh_otp_system.specs.State.{SystemView, system_of, node_at, own_at}
use Rattle.rh_otp_system.proofs.Moving.{settles}
use Rattle.rh_otp_laws.specs.Acting.{IsReached, new}
use Rattle.rh_otp_crashes.specs.Crashes.{IsUnoccupied, AreAtRest, FailOverLater}
use Rattle.rh_otp_stops.specs.Stops.{CanEnd}
use Rattle.rh_otp_stops.proofs.Rows.{n1, n2, d1, l1, file, no_net, quiet, dist_of, IsThere, NoMore, begins_at, is_it, at_rest, of_both}
use Rattle.rh_otp_starts.specs.Elsewhere.{RunsElsewhere}
use Rattle.rh_otp_starts.specs.Starts.{IsOverBefore}

-- ---- the cluster

abbrev l2 : App
l2 = app_numbered 2

abbrev l3 : App
l3 = app_numbered 3

-- it waits for the other one, and is to start these applications
abbrev node_of : Node → List (App × Restart) → NodeView
node_of other boot = record {
  mandatory = [];
  optional = other ∷ [];
  sync_wait = After 12000;
  boot = boot;
  permissions = true ∷ false ∷ true ∷ true ∷ [];
  platforms = [];
}

abbrev cluster : ClusterView
cluster = record {
  profile = 1;
  node_names = (97 ∷ []) ∷ (98 ∷ []) ∷ [];
  app_names = (97 ∷ []) ∷ (98 ∷ []) ∷ (99 ∷ []) ∷ (100 ∷ []) ∷ [];
  platform_names = [];
  nodes = node_of n2 ((d1, Permanent) ∷ (l1, Temporary) ∷ (l3, Permanent) ∷ []) ∷ node_of n1 ((l1, Temporary) ∷ []) ∷ [];
  apps = record {
    deps = [];
    start_arg = None;
    phases = false;
    spread = Some (record { timeout = 5000; groups = (n1 ∷ []) ∷ (n2 ∷ []) ∷ [] });
  } ∷ record { deps = []; start_arg = None; phases = false; spread = None }
      ∷ record { deps = []; start_arg = None; phases = false; spread = None }
      ∷ record { deps = []; start_arg = None; phases = false; spread = None }
      ∷ [];
}

-- ---- what happens

abbrev none_begun : SystemView
none_begun = system_of cluster (file ∷ file ∷ []) (cell.Node never_begun ∷ cell.Node never_begun ∷ cell.Net no_net ∷ []) no_net false

abbrev one_up : SystemView
one_up = quiet (booted n1 none_begun)

abbrev both_up : SystemView
both_up = quiet (booted n2 one_up)

-- ---- what the prover computes of it

-- the first node forbids the second application and hasn't started the third one, neither of which is distributed
record Waits (s : SystemView) : Type 0 where
  unlisted : controls (own_at s n1) l1 ≡ false
  waits : keyfind l1 (node_at s n1).controller.start_p_false ≡ Some Temporary
  nobody : has_row l1 (node_at s n1).controller.start_req ≡ false
  unlisted_too : controls (own_at s n1) l2 ≡ false
  idle : keyfind l2 (node_at s n1).controller.running ≡ None
  runs : keyfind d1 (node_at s n1).controller.running ≡ Some place_of.Here
  calls : s.calls ≡ []
  locks : s.locks ≡ []
  over : IsOverBefore s

first_there : IsThere n1 both_up
unfolding controller_start controller_stop controller_permit controller_top_ends controller_do_start controller_change controller_received controller_spawn_starter controller_reply_to_requester controller_has_started controller_start_reply dist_finish dist_runs_elsewhere dist_take_over dist_permit dist_get_nodes dist_start_here dist_is_to_start dist_find_start_node dist_start_distributed dist_start_appl dist_check_waiting dist_node_down dist_introduced_to dist_handle_next dist_del_t_reqs dist_run dist_answer_ends dist_not_run dist_stopped dist_new_node dist_answer_permits dist_app_started dist_app_stopped dist_weight_told dist_restart dist_new_permission net_to_connect node_controlled_by node_terminated_by node_handled_by node_introduced_by system_lock_call system_wait_for_lock system_behind_sync system_go_on_call system_call_received system_connect system_delivered system_slowed system_waited_for system_booted system_called system_fired_next system_ticked system_is_ticked system_down_told system_taken_down system_ended system_stopped system_join system_has_seen system_boot_next system_made system_rested system_forgotten system_told system_after system_take_lock system_gone system_handled system_work system_mailed
first_there = record { alive = refl; has = refl; takes_all = refl; mail = refl; permits = refl; parked = refl }

second_there : IsThere n2 both_up
unfolding controller_start controller_stop controller_permit controller_top_ends controller_do_start controller_change controller_received controller_spawn_starter controller_reply_to_requester controller_has_started controller_start_reply dist_finish dist_runs_elsewhere dist_take_over dist_permit dist_get_nodes dist_start_here dist_is_to_start dist_find_start_node dist_start_distributed dist_start_appl dist_check_waiting dist_node_down dist_introduced_to dist_handle_next dist_del_t_reqs dist_run dist_answer_ends dist_not_run dist_stopped dist_new_node dist_answer_permits dist_app_started dist_app_stopped dist_weight_told dist_restart dist_new_permission net_to_connect node_controlled_by node_terminated_by node_handled_by node_introduced_by system_lock_call system_wait_for_lock system_behind_sync system_go_on_call system_call_received system_connect system_delivered system_slowed system_waited_for system_booted system_called system_fired_next system_ticked system_is_ticked system_down_told system_taken_down system_ended system_stopped system_join system_has_seen system_boot_next system_made system_rested system_forgotten system_told system_after system_take_lock system_gone system_handled system_work system_mailed
second_there = record { alive = refl; has = refl; takes_all = refl; mail = refl; permits = refl; parked = refl }

waits : Waits both_up
unfolding controller_start controller_stop controller_permit controller_top_ends controller_do_start controller_change controller_received controller_spawn_starter controller_reply_to_requester controller_has_started controller_start_reply dist_finish dist_runs_elsewhere dist_take_over dist_permit dist_get_nodes dist_start_here dist_is_to_start dist_find_start_node dist_start_distributed dist_start_appl dist_check_waiting dist_node_down dist_introduced_to dist_handle_next dist_del_t_reqs dist_run dist_answer_ends dist_not_run dist_stopped dist_new_node dist_answer_permits dist_app_started dist_app_stopped dist_weight_told dist_restart dist_new_permission net_to_connect node_controlled_by node_terminated_by node_handled_by node_introduced_by system_lock_call system_wait_for_lock system_behind_sync system_go_on_call system_call_received system_connect system_delivered system_slowed system_waited_for system_booted system_called system_fired_next system_ticked system_is_ticked system_down_told system_taken_down system_ended system_stopped system_join system_has_seen system_boot_next system_made system_rested system_forgotten system_told system_after system_take_lock system_gone system_handled system_work system_mailed
waits = record {
  unlisted = refl;
  waits = refl;
  nobody = refl;
  unlisted_too = refl;
  idle = refl;
  runs = refl;
  calls = refl;
  locks = refl;
  over = refl;
}

no_more : NoMore both_up
unfolding controller_start controller_stop controller_permit controller_top_ends controller_do_start controller_change controller_received controller_spawn_starter controller_reply_to_requester controller_has_started controller_start_reply dist_finish dist_runs_elsewhere dist_take_over dist_permit dist_get_nodes dist_start_here dist_is_to_start dist_find_start_node dist_start_distributed dist_start_appl dist_check_waiting dist_node_down dist_introduced_to dist_handle_next dist_del_t_reqs dist_run dist_answer_ends dist_not_run dist_stopped dist_new_node dist_answer_permits dist_app_started dist_app_stopped dist_weight_told dist_restart dist_new_permission net_to_connect node_controlled_by node_terminated_by node_handled_by node_introduced_by system_lock_call system_wait_for_lock system_behind_sync system_go_on_call system_call_received system_connect system_delivered system_slowed system_waited_for system_booted system_called system_fired_next system_ticked system_is_ticked system_down_told system_taken_down system_ended system_stopped system_join system_has_seen system_boot_next system_made system_rested system_forgotten system_told system_after system_take_lock system_gone system_handled system_work system_mailed
no_more zero = refl
no_more (suc k) = refl

is_quiet : is_settled_by 1000 FirstComes (booted n2 one_up) ≡ true
unfolding controller_start controller_stop controller_permit controller_top_ends controller_do_start controller_change controller_received controller_spawn_starter controller_reply_to_requester controller_has_started controller_start_reply dist_finish dist_runs_elsewhere dist_take_over dist_permit dist_get_nodes dist_start_here dist_is_to_start dist_find_start_node dist_start_distributed dist_start_appl dist_check_waiting dist_node_down dist_introduced_to dist_handle_next dist_del_t_reqs dist_run dist_answer_ends dist_not_run dist_stopped dist_new_node dist_answer_permits dist_app_started dist_app_stopped dist_weight_told dist_restart dist_new_permission net_to_connect node_controlled_by node_terminated_by node_handled_by node_introduced_by system_lock_call system_wait_for_lock system_behind_sync system_go_on_call system_call_received system_connect system_delivered system_slowed system_waited_for system_booted system_called system_fired_next system_ticked system_is_ticked system_down_told system_taken_down system_ended system_stopped system_join system_has_seen system_boot_next system_made system_rested system_forgotten system_told system_after system_take_lock system_gone system_handled system_work system_mailed
is_quiet = refl

nobody_yet : (k : ℕ) → node_at none_begun (record { 0 = k }) ≡ never_begun
nobody_yet zero = refl
nobody_yet (suc zero) = refl
nobody_yet (suc (suc zero)) = refl
nobody_yet (suc (suc (suc k))) = refl

first_reached : IsReached none_begun
first_reached = new none_begun (record {
  nodes = λ n. nobody_yet n.0;
  alive = refl;
  links = refl;
  locks = refl;
  timers = refl;
  calls = refl;
  messages = refl;
  slow = refl;
})

both_reached : IsReached both_up
unfolding controller_start controller_stop controller_permit controller_top_ends controller_do_start controller_change controller_received controller_spawn_starter controller_reply_to_requester controller_has_started controller_start_reply dist_finish dist_runs_elsewhere dist_take_over dist_permit dist_get_nodes dist_start_here dist_is_to_start dist_find_start_node dist_start_distributed dist_start_appl dist_check_waiting dist_node_down dist_introduced_to dist_handle_next dist_del_t_reqs dist_run dist_answer_ends dist_not_run dist_stopped dist_new_node dist_answer_permits dist_app_started dist_app_stopped dist_weight_told dist_restart dist_new_permission net_to_connect node_controlled_by node_terminated_by node_handled_by node_introduced_by system_lock_call system_wait_for_lock system_behind_sync system_go_on_call system_call_received system_connect system_delivered system_slowed system_waited_for system_booted system_called system_fired_next system_ticked system_is_ticked system_down_told system_taken_down system_ended system_stopped system_join system_has_seen system_boot_next system_made system_rested system_forgotten system_told system_after system_take_lock system_gone system_handled system_work system_mailed
both_reached = begins_at one_up n2 never_begun refl refl (begins_at none_begun n1 never_begun refl refl first_reached)

-- ---- so the laws are of it

are_at_rest : (s : SystemView) → IsThere n1 s → IsThere n2 s → Waits s → NoMore s → IsSettled s → AreAtRest s
are_at_rest s first second so none settled = record {
  settled = settled;
  calls = so.calls;
  dists = λ n d alive has.
      of_both (λ (m : Node). (e : DistView) → (node_at s m).dist ≡ Some e → IsUnoccupied e) s none
      (at_rest s n1 first) (at_rest s n2 second) n.0 alive d has;
}

-- the second node finds the first application at the first one
record Finds (s : SystemView) : Type 0 where
  listed : controls (own_at s n2) d1 ≡ true
  unknown : keyfind d1 (node_at s n2).controller.running ≡ None
  elsewhere : RunsElsewhere (own_at s n2) n2 d1 (dist_of s n2)

finds : Finds both_up
unfolding controller_start controller_stop controller_permit controller_top_ends controller_do_start controller_change controller_received controller_spawn_starter controller_reply_to_requester controller_has_started controller_start_reply dist_finish dist_runs_elsewhere dist_take_over dist_permit dist_get_nodes dist_start_here dist_is_to_start dist_find_start_node dist_start_distributed dist_start_appl dist_check_waiting dist_node_down dist_introduced_to dist_handle_next dist_del_t_reqs dist_run dist_answer_ends dist_not_run dist_stopped dist_new_node dist_answer_permits dist_app_started dist_app_stopped dist_weight_told dist_restart dist_new_permission net_to_connect node_controlled_by node_terminated_by node_handled_by node_introduced_by system_lock_call system_wait_for_lock system_behind_sync system_go_on_call system_call_received system_connect system_delivered system_slowed system_waited_for system_booted system_called system_fired_next system_ticked system_is_ticked system_down_told system_taken_down system_ended system_stopped system_join system_has_seen system_boot_next system_made system_rested system_forgotten system_told system_after system_take_lock system_gone system_handled system_work system_mailed
finds = record { listed = refl; unknown = refl; elsewhere = record { at = n1; found = inl (refl, refl, refl) } }

finds_it : (s : SystemView) → IsThere n2 s → Finds s → (d : DistView) → (node_at s n2).dist ≡ Some d
    → RunsElsewhere (own_at s n2) n2 d1 d
finds_it s there so d has = subst (RunsElsewhere (own_at s n2) n2 d1) (is_it s n2 d there has) so.elsewhere

-- the first one runs the permanent application, whose end would end the node
record IsFatal (s : SystemView) : Type 0 where
  unlisted : controls (own_at s n1) l3 ≡ false
  runs : keyfind l3 (node_at s n1).controller.running ≡ Some place_of.Here
  fatal : ends_with (keyfind l3 (node_at s n1).controller.started) false ≡ true

fatal : IsFatal both_up
unfolding controller_start controller_stop controller_permit controller_top_ends controller_do_start controller_change controller_received controller_spawn_starter controller_reply_to_requester controller_has_started controller_start_reply dist_finish dist_runs_elsewhere dist_take_over dist_permit dist_get_nodes dist_start_here dist_is_to_start dist_find_start_node dist_start_distributed dist_start_appl dist_check_waiting dist_node_down dist_introduced_to dist_handle_next dist_del_t_reqs dist_run dist_answer_ends dist_not_run dist_stopped dist_new_node dist_answer_permits dist_app_started dist_app_stopped dist_weight_told dist_restart dist_new_permission net_to_connect node_controlled_by node_terminated_by node_handled_by node_introduced_by system_lock_call system_wait_for_lock system_behind_sync system_go_on_call system_call_received system_connect system_delivered system_slowed system_waited_for system_booted system_called system_fired_next system_ticked system_is_ticked system_down_told system_taken_down system_ended system_stopped system_join system_has_seen system_boot_next system_made system_rested system_forgotten system_told system_after system_take_lock system_gone system_handled system_work system_mailed
fatal = record { unlisted = refl; runs = refl; fatal = refl }

-- so would that of the distributed one, and its dist_ac can tell the second node of it
record IsFatalToo (s : SystemView) : Type 0 where
  listed : controls (own_at s n1) d1 ≡ true
  runs : keyfind d1 (node_at s n1).controller.running ≡ Some place_of.Here
  fatal : ends_with (keyfind d1 (node_at s n1).controller.started) false ≡ true
  knows : is_among n2 (dist_of s n1).known ≡ true
  takeovers : (dist_of s n1).t_reqs ≡ []
  ends : (dist_of s n1).s_reqs ≡ []
  sees : are_linked n1 n2 s.links ≡ true

fatal_too : IsFatalToo both_up
unfolding controller_start controller_stop controller_permit controller_top_ends controller_do_start controller_change controller_received controller_spawn_starter controller_reply_to_requester controller_has_started controller_start_reply dist_finish dist_runs_elsewhere dist_take_over dist_permit dist_get_nodes dist_start_here dist_is_to_start dist_find_start_node dist_start_distributed dist_start_appl dist_check_waiting dist_node_down dist_introduced_to dist_handle_next dist_del_t_reqs dist_run dist_answer_ends dist_not_run dist_stopped dist_new_node dist_answer_permits dist_app_started dist_app_stopped dist_weight_told dist_restart dist_new_permission net_to_connect node_controlled_by node_terminated_by node_handled_by node_introduced_by system_lock_call system_wait_for_lock system_behind_sync system_go_on_call system_call_received system_connect system_delivered system_slowed system_waited_for system_booted system_called system_fired_next system_ticked system_is_ticked system_down_told system_taken_down system_ended system_stopped system_join system_has_seen system_boot_next system_made system_rested system_forgotten system_told system_after system_take_lock system_gone system_handled system_work system_mailed
fatal_too = record { listed = refl; runs = refl; fatal = refl; knows = refl; takeovers = refl; ends = refl; sees = refl }

can_end : (s : SystemView) → IsThere n1 s → Waits s → IsFatalToo s → NoMore s → CanEnd n1 d1 s
can_end s there so fatal none = record {
  tells = λ is. record {
    sees_all = record {
      takeovers = λ d has. ap (λ (x : DistView). x.t_reqs) (sym (is_it s n1 d there has)) ∙ fatal.takeovers;
      sees = λ d has m among alive.
          of_both (λ (k : Node). (n1.0 == k.0 || are_linked n1 k s.links) ≡ true) s none refl fatal.sees m.0 alive;
    };
    ends = λ d has. ap (λ (x : DistView). x.s_reqs) (sym (is_it s n1 d there has)) ∙ fatal.ends;
  };
}

later : (k : ℕ) → All (λ (e : EntryView). 0 < e.timeout) (own_at both_up (record { 0 = k })).entries
unfolding controller_start controller_stop controller_permit controller_top_ends controller_do_start controller_change controller_received controller_spawn_starter controller_reply_to_requester controller_has_started controller_start_reply dist_finish dist_runs_elsewhere dist_take_over dist_permit dist_get_nodes dist_start_here dist_is_to_start dist_find_start_node dist_start_distributed dist_start_appl dist_check_waiting dist_node_down dist_introduced_to dist_handle_next dist_del_t_reqs dist_run dist_answer_ends dist_not_run dist_stopped dist_new_node dist_answer_permits dist_app_started dist_app_stopped dist_weight_told dist_restart dist_new_permission net_to_connect node_controlled_by node_terminated_by node_handled_by node_introduced_by system_lock_call system_wait_for_lock system_behind_sync system_go_on_call system_call_received system_connect system_delivered system_slowed system_waited_for system_booted system_called system_fired_next system_ticked system_is_ticked system_down_told system_taken_down system_ended system_stopped system_join system_has_seen system_boot_next system_made system_rested system_forgotten system_told system_after system_take_lock system_gone system_handled system_work system_mailed
later zero = All-cons (λ (e : EntryView). 0 < e.timeout) _ [] (omega arith) (All-nil (λ (e : EntryView). 0 < e.timeout))
later (suc zero) = All-cons (λ (e : EntryView). 0 < e.timeout) _ [] (omega arith) (All-nil (λ (e : EntryView). 0 < e.timeout))
later (suc (suc k)) = All-nil (λ (e : EntryView). 0 < e.timeout)

-- There are such calls: starts of an application that doesn't run, and permits of one that waits for that, at the
-- first node; starts, at the second one, of the application that runs at the first; and exits that end the first node, of an application
-- that is distributed and of one that isn't.
record Row : Type 0 where
  is_reached : IsReached both_up
  is_at_rest : AreAtRest both_up
  waits : Waits both_up
  finds : Finds both_up
  finds_it : (d : DistView) → (node_at both_up n2).dist ≡ Some d → RunsElsewhere (own_at both_up n2) n2 d1 d
  fatal : IsFatal both_up
  fatal_too : IsFatalToo both_up
  can_end : CanEnd n1 d1 both_up
  later : FailOverLater both_up

row : Row
row = record {
  is_reached = both_reached;
  is_at_rest = are_at_rest both_up first_there second_there waits no_more ((settles 1000 FirstComes (booted n2 one_up)).1 is_quiet);
  waits = waits;
  finds = finds;
  finds_it = finds_it both_up second_there finds;
  fatal = fatal;
  fatal_too = fatal_too;
  can_end = can_end both_up first_there waits fatal_too no_more;
  later = λ n. later n.0;
}
