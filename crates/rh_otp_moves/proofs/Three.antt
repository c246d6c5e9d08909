-- A call that a law is of and by which two other nodes are told. All three have started a distributed application, which the first one
-- runs; the second one may run it, too, and the third one may not.
use Rattle.std.proofs.Common.{◌≡◌, ◌≢◌, ◌==◌, ◌||◌, ℕ, Bool, zero, suc, true, false, List, [], ◌∷◌, Some, None, refl, sym, ap, subst, ◌∙◌, inl, inr, arith}
use Rattle.std.specs.Prelude.{filter, map}
use Rattle.std.proofs.lemmas.Bool.{cases_eq, false≢true, ne_eqb}
use Rattle.rh_model.specs.ClusterView.{ClusterView, NodeView, numbered}
use Rattle.rh_model.specs.declared.node.Node.{Node}
use Rattle.rh_model.specs.declared.settings.Restart.TheVariants.{Temporary}
use Rattle.rh_model.specs.declared.settings.SyncWait.TheVariants.{After}
use Rattle.rh_otp_model.specs.declared.fault.Outcome.TheVariants.{Done}
use Rattle.rh_otp_model.specs.declared.wait.OwnFile.{OwnFile}
use Rattle.rh_otp_model.specs.declared.wait.Wait.TheVariants as wait
use Rattle.rh_otp_model.specs.Own.{controls}
use Rattle.rh_otp_model.specs.Rows.{keyfind}
use Rattle.rh_otp_controller.specs.declared.state.Place.TheVariants as place_of
use Rattle.rh_otp_dist.specs.State.{DistView, is_among, may_run}
use Rattle.rh_otp_net.specs.declared.order.Order.TheVariants.{FirstComes}
use Rattle.rh_otp_net.specs.Links.{are_linked}
use Rattle.rh_otp_node.specs.Live.{never_begun}
use Rattle.rh_otp_system.specs.declared.calls.Ask.TheVariants as ask
use Rattle.rh_otp_system.specs.declared.calls.Call.{Call}
use Rattle.rh_otp_system.specs.declared.calls.Stage.TheVariants as stage
use Rattle.rh_otp_system.specs.declared.cell.Cell.TheVariants as cell
use Rattle.rh_otp_system.specs.Calling.{is_synchronised_at}
use Rattle.rh_otp_system.specs.Doing.{booted, called}
use Rattle.rh_otp_system.specs.Moves.{IsSettled, is_settled_by}
use Rattle.rh_otp_system.specs.State.{SystemView, system_of, node_at, own_at, is_alive_at}
use Rattle.rh_otp_system.proofs.Moving.{settles}
use Rattle.rh_otp_laws.specs.Acting.{IsReached, new}
use Rattle.rh_otp_crashes.specs.Crashes.{IsUnoccupied, AreAtRest}
use Rattle.rh_otp_crashes.proofs.Crossing.{same_node}
use Rattle.rh_otp_stops.proofs.Rows.{n1, n2, d1, no_net, quiet, dist_of, IsThere, begins_at, is_it, at_rest}
use Rattle.rh_otp_starts.specs.Starts.{IsOverBefore}
use Rattle.rh_otp_permits.specs.Permits.{is_begun}
use Rattle.rh_otp_moves.specs.Moving.{LeavesIt, TakesIt, NotesIt, MovesBehind, told_of}
use Rattle.rh_otp_controller.specs.Calls.{start as controller_start, stop as controller_stop, permit as controller_permit, top_ends as controller_top_ends}
use Rattle.rh_otp_controller.specs.Changes.{do_start as controller_do_start, change as controller_change, received as controller_received}
use Rattle.rh_otp_controller.specs.Starting.{spawn_starter as controller_spawn_starter, reply_to_requester as controller_reply_to_requester, has_started as controller_has_started, start_reply as controller_start_reply}
use Rattle.rh_otp_dist.specs.Attempts.{finish as dist_finish, runs_elsewhere as dist_runs_elsewhere}
use Rattle.rh_otp_dist.specs.Calls.{take_over as dist_take_over, permit as dist_permit, get_nodes as dist_get_nodes}
use Rattle.rh_otp_dist.specs.Choosing.{start_here as dist_start_here, is_to_start as dist_is_to_start, find_start_node as dist_find_start_node, start_distributed as dist_start_distributed, start_appl as dist_start_appl}
use Rattle.rh_otp_dist.specs.Down.{check_waiting as dist_check_waiting, node_down as dist_node_down}
use Rattle.rh_otp_dist.specs.Outside.{introduced_to as dist_introduced_to}
use Rattle.rh_otp_dist.specs.Received.{handle_next as dist_handle_next}
use Rattle.rh_otp_dist.specs.Sending.{del_t_reqs as dist_del_t_reqs}
use Rattle.rh_otp_dist.specs.Told.{run as dist_run, answer_ends as dist_answer_ends, not_run as dist_not_run, stopped as dist_stopped, new_node as dist_new_node, answer_permits as dist_answer_permits, app_started as dist_app_started, app_stopped as dist_app_stopped, weight_told as dist_weight_told, restart as dist_restart, new_permission as dist_new_permission}
use Rattle.rh_otp_net.specs.Links.{to_connect as net_to_connect}
use Rattle.rh_otp_node.specs.Turns.{controlled_by as node_controlled_by, terminated_by as node_terminated_by, handled_by as node_handled_by, introduced_by as node_introduced_by}
use Rattle.rh_otp_system.specs.Calling.{lock_call as system_lock_call, wait_for_lock as system_wait_for_lock, behind_sync as system_behind_sync, go_on_call as system_go_on_call, call_received as system_call_received}
use Rattle.rh_otp_system.specs.Connecting.{connect as system_connect}
use Rattle.rh_otp_system.specs.Delivering.{delivered as system_delivered, slowed as system_slowed}
use Rattle.rh_otp_system.specs.Doing.{waited_for as system_waited_for, booted as system_booted, called as system_called, fired_next as system_fired_next, ticked as system_ticked, is_ticked as system_is_ticked}
use Rattle.rh_otp_system.specs.Ending.{down_told as system_down_told, taken_down as system_taken_down, ended as system_ended, stopped as system_stopped}
use Rattle.rh_otp_system.specs.Joining.{join as system_join, has_seen as system_has_seen, boot_next as system_boot_next}
use Rattle.rh_otp_system.specs.Moves.{made as system_made}
use Rattle.rh_otp_system.specs.Resting.{rested as system_rested, forgotten as system_forgotten}
use Rattle.rh_otp_system.specs.Sending.{told as system_told, after as system_after}
use Rattle.rh_otp_system.specs.Working.{take_lock as system_take_lock, gone as system_gone, handled as system_handled, work as system_work, mailed as system_mailed}

-- ---- the cluster

abbrev n3 : Node
n3 = numbered 2

-- it waits for the others, starts the application, and may run it or not
abbrev node_of : List Node → Bool → NodeView
node_of others may = record {
  mandatory = [];
  optional = others;
  sync_wait = After 12000;
  boot = (d1, Temporary) ∷ [];
  permissions = may ∷ [];
  platforms = [];
}

abbrev cluster : ClusterView
cluster = record {
  profile = 1;
  node_names = (97 ∷ []) ∷ (98 ∷ []) ∷ (99 ∷ []) ∷ [];
  app_names = (97 ∷ []) ∷ [];
  platform_names = [];
  nodes = node_of (n2 ∷ n3 ∷ []) true ∷ node_of (n1 ∷ n3 ∷ []) true ∷ node_of (n1 ∷ n2 ∷ []) false ∷ [];
  apps = record {
    deps = [];
    start_arg = None;
    phases = false;
    spread = Some (record { timeout = 5000; groups = (n1 ∷ []) ∷ (n2 ∷ []) ∷ (n3 ∷ []) ∷ [] });
  } ∷ [];
}

abbrev file : OwnFile
file = record {
  own = record {
    has_dist = true;
    entries = record {
      app = d1;
      timeout = 5000;
      places = record { is_tuple = false; nodes = n1 ∷ [] } ∷ record { is_tuple = false; nodes = n2 ∷ [] }
          ∷ record { is_tuple = false; nodes = n3 ∷ [] } ∷ [];
    } ∷ [];
  };
  wait = wait.After 12000;
}

-- ---- what happens

abbrev none_begun : SystemView
none_begun = system_of cluster (file ∷ file ∷ file ∷ [])
    (cell.Node never_begun ∷ cell.Node never_begun ∷ cell.Node never_begun ∷ cell.Net no_net ∷ []) no_net false

abbrev one_up : SystemView
one_up = quiet (booted n1 none_begun)

abbrev two_up : SystemView
two_up = quiet (booted n2 one_up)

abbrev all_up : SystemView
all_up = quiet (booted n3 two_up)

-- what comes of a forbid at the first node, in one order
abbrev forbidden : SystemView
forbidden = quiet (called (ask.Permit false) n1 d1 all_up)

-- ---- what the prover computes of it

-- the first node runs it and leaves it to the second one, which takes it, and the third one is told, too
record Runs (s : SystemView) : Type 0 where
  calls : s.calls ≡ []
  over : IsOverBefore s
  listed : controls (own_at s n1) d1 ≡ true
  listed_too : controls (own_at s n2) d1 ≡ true
  listed_third : controls (own_at s n3) d1 ≡ true
  runs : keyfind d1 (node_at s n1).controller.running ≡ Some place_of.Here
  synchronised : is_synchronised_at n1 s ≡ true
  sees : are_linked n1 n2 s.links ≡ true
  sees_third : are_linked n1 n3 s.links ≡ true
  begun : is_begun d1 (node_at s n1).controller ≡ true
  told : told_of n1 d1 s ≡ n3 ∷ n2 ∷ []
  leaves : LeavesIt n1 n2 d1 (dist_of s n1)
  may : may_run (dist_of s n2) n2 d1 ≡ true
  takes : TakesIt (own_at s n2) n1 n2 d1 (dist_of s n2)
  takeovers : (dist_of s n2).t_reqs ≡ []
  sees_back : are_linked n2 n1 s.links ≡ true
  sees_on : are_linked n2 n3 s.links ≡ true
  may_not : may_run (dist_of s n3) n3 d1 ≡ false

-- so it is there
runs : Runs all_up
unfolding controller_start controller_stop controller_permit controller_top_ends controller_do_start controller_change controller_received controller_spawn_starter controller_reply_to_requester controller_has_started controller_start_reply dist_finish dist_runs_elsewhere dist_take_over dist_permit dist_get_nodes dist_start_here dist_is_to_start dist_find_start_node dist_start_distributed dist_start_appl dist_check_waiting dist_node_down dist_introduced_to dist_handle_next dist_del_t_reqs dist_run dist_answer_ends dist_not_run dist_stopped dist_new_node dist_answer_permits dist_app_started dist_app_stopped dist_weight_told dist_restart dist_new_permission net_to_connect node_controlled_by node_terminated_by node_handled_by node_introduced_by system_lock_call system_wait_for_lock system_behind_sync system_go_on_call system_call_received system_connect system_delivered system_slowed system_waited_for system_booted system_called system_fired_next system_ticked system_is_ticked system_down_told system_taken_down system_ended system_stopped system_join system_has_seen system_boot_next system_made system_rested system_forgotten system_told system_after system_take_lock system_gone system_handled system_work system_mailed
runs = record {
  calls = refl;
  over = refl;
  listed = refl;
  listed_too = refl;
  listed_third = refl;
  runs = refl;
  synchronised = refl;
  sees = refl;
  sees_third = refl;
  begun = refl;
  told = refl;
  leaves = record { local = refl; started = refl; may = refl };
  may = refl;
  takes = record { not_here = refl; chosen = record { first = refl; not_yet = refl } };
  takeovers = refl;
  sees_back = refl;
  sees_on = refl;
  may_not = refl;
}

-- the dist_ac of each does nothing
first_there : IsThere n1 all_up
unfolding controller_start controller_stop controller_permit controller_top_ends controller_do_start controller_change controller_received controller_spawn_starter controller_reply_to_requester controller_has_started controller_start_reply dist_finish dist_runs_elsewhere dist_take_over dist_permit dist_get_nodes dist_start_here dist_is_to_start dist_find_start_node dist_start_distributed dist_start_appl dist_check_waiting dist_node_down dist_introduced_to dist_handle_next dist_del_t_reqs dist_run dist_answer_ends dist_not_run dist_stopped dist_new_node dist_answer_permits dist_app_started dist_app_stopped dist_weight_told dist_restart dist_new_permission net_to_connect node_controlled_by node_terminated_by node_handled_by node_introduced_by system_lock_call system_wait_for_lock system_behind_sync system_go_on_call system_call_received system_connect system_delivered system_slowed system_waited_for system_booted system_called system_fired_next system_ticked system_is_ticked system_down_told system_taken_down system_ended system_stopped system_join system_has_seen system_boot_next system_made system_rested system_forgotten system_told system_after system_take_lock system_gone system_handled system_work system_mailed
first_there = record { alive = refl; has = refl; takes_all = refl; mail = refl; permits = refl; parked = refl }

second_there : IsThere n2 all_up
unfolding controller_start controller_stop controller_permit controller_top_ends controller_do_start controller_change controller_received controller_spawn_starter controller_reply_to_requester controller_has_started controller_start_reply dist_finish dist_runs_elsewhere dist_take_over dist_permit dist_get_nodes dist_start_here dist_is_to_start dist_find_start_node dist_start_distributed dist_start_appl dist_check_waiting dist_node_down dist_introduced_to dist_handle_next dist_del_t_reqs dist_run dist_answer_ends dist_not_run dist_stopped dist_new_node dist_answer_permits dist_app_started dist_app_stopped dist_weight_told dist_restart dist_new_permission net_to_connect node_controlled_by node_terminated_by node_handled_by node_introduced_by system_lock_call system_wait_for_lock system_behind_sync system_go_on_call system_call_received system_connect system_delivered system_slowed system_waited_for system_booted system_called system_fired_next system_ticked system_is_ticked system_down_told system_taken_down system_ended system_stopped system_join system_has_seen system_boot_next system_made system_rested system_forgotten system_told system_after system_take_lock system_gone system_handled system_work system_mailed
second_there = record { alive = refl; has = refl; takes_all = refl; mail = refl; permits = refl; parked = refl }

third_there : IsThere n3 all_up
unfolding controller_start controller_stop controller_permit controller_top_ends controller_do_start controller_change controller_received controller_spawn_starter controller_reply_to_requester controller_has_started controller_start_reply dist_finish dist_runs_elsewhere dist_take_over dist_permit dist_get_nodes dist_start_here dist_is_to_start dist_find_start_node dist_start_distributed dist_start_appl dist_check_waiting dist_node_down dist_introduced_to dist_handle_next dist_del_t_reqs dist_run dist_answer_ends dist_not_run dist_stopped dist_new_node dist_answer_permits dist_app_started dist_app_stopped dist_weight_told dist_restart dist_new_permission net_to_connect node_controlled_by node_terminated_by node_handled_by node_introduced_by system_lock_call system_wait_for_lock system_behind_sync system_go_on_call system_call_received system_connect system_delivered system_slowed system_waited_for system_booted system_called system_fired_next system_ticked system_is_ticked system_down_told system_taken_down system_ended system_stopped system_join system_has_seen system_boot_next system_made system_rested system_forgotten system_told system_after system_take_lock system_gone system_handled system_work system_mailed
third_there = record { alive = refl; has = refl; takes_all = refl; mail = refl; permits = refl; parked = refl }

-- there are three nodes
abbrev NoMore : SystemView → Type 0
NoMore s = (k : ℕ) → is_alive_at s (record { 0 = suc (suc (suc k)) }) ≡ false

no_more : NoMore all_up
unfolding controller_start controller_stop controller_permit controller_top_ends controller_do_start controller_change controller_received controller_spawn_starter controller_reply_to_requester controller_has_started controller_start_reply dist_finish dist_runs_elsewhere dist_take_over dist_permit dist_get_nodes dist_start_here dist_is_to_start dist_find_start_node dist_start_distributed dist_start_appl dist_check_waiting dist_node_down dist_introduced_to dist_handle_next dist_del_t_reqs dist_run dist_answer_ends dist_not_run dist_stopped dist_new_node dist_answer_permits dist_app_started dist_app_stopped dist_weight_told dist_restart dist_new_permission net_to_connect node_controlled_by node_terminated_by node_handled_by node_introduced_by system_lock_call system_wait_for_lock system_behind_sync system_go_on_call system_call_received system_connect system_delivered system_slowed system_waited_for system_booted system_called system_fired_next system_ticked system_is_ticked system_down_told system_taken_down system_ended system_stopped system_join system_has_seen system_boot_next system_made system_rested system_forgotten system_told system_after system_take_lock system_gone system_handled system_work system_mailed
no_more zero = refl
no_more (suc k) = refl

-- nothing can move
is_quiet : is_settled_by 1000 FirstComes (booted n3 two_up) ≡ true
unfolding controller_start controller_stop controller_permit controller_top_ends controller_do_start controller_change controller_received controller_spawn_starter controller_reply_to_requester controller_has_started controller_start_reply dist_finish dist_runs_elsewhere dist_take_over dist_permit dist_get_nodes dist_start_here dist_is_to_start dist_find_start_node dist_start_distributed dist_start_appl dist_check_waiting dist_node_down dist_introduced_to dist_handle_next dist_del_t_reqs dist_run dist_answer_ends dist_not_run dist_stopped dist_new_node dist_answer_permits dist_app_started dist_app_stopped dist_weight_told dist_restart dist_new_permission net_to_connect node_controlled_by node_terminated_by node_handled_by node_introduced_by system_lock_call system_wait_for_lock system_behind_sync system_go_on_call system_call_received system_connect system_delivered system_slowed system_waited_for system_booted system_called system_fired_next system_ticked system_is_ticked system_down_told system_taken_down system_ended system_stopped system_join system_has_seen system_boot_next system_made system_rested system_forgotten system_told system_after system_take_lock system_gone system_handled system_work system_mailed
is_quiet = refl

-- the call was answered, the application runs at the second node, and the third one has noted the permission
record Moved : Type 0 where
  answered : map (λ (c : Call). c.stage) forbidden.calls ≡ stage.Done Done ∷ []
  there_no_more : keyfind d1 (node_at forbidden n1).controller.running ≡ Some (place_of.At n2)
  here_now : keyfind d1 (node_at forbidden n2).controller.running ≡ Some place_of.Here
  knows : keyfind d1 (node_at forbidden n3).controller.running ≡ Some (place_of.At n2)
  noted : may_run (dist_of forbidden n3) n1 d1 ≡ false

-- so it is behind the call
moved : Moved
unfolding controller_start controller_stop controller_permit controller_top_ends controller_do_start controller_change controller_received controller_spawn_starter controller_reply_to_requester controller_has_started controller_start_reply dist_finish dist_runs_elsewhere dist_take_over dist_permit dist_get_nodes dist_start_here dist_is_to_start dist_find_start_node dist_start_distributed dist_start_appl dist_check_waiting dist_node_down dist_introduced_to dist_handle_next dist_del_t_reqs dist_run dist_answer_ends dist_not_run dist_stopped dist_new_node dist_answer_permits dist_app_started dist_app_stopped dist_weight_told dist_restart dist_new_permission net_to_connect node_controlled_by node_terminated_by node_handled_by node_introduced_by system_lock_call system_wait_for_lock system_behind_sync system_go_on_call system_call_received system_connect system_delivered system_slowed system_waited_for system_booted system_called system_fired_next system_ticked system_is_ticked system_down_told system_taken_down system_ended system_stopped system_join system_has_seen system_boot_next system_made system_rested system_forgotten system_told system_after system_take_lock system_gone system_handled system_work system_mailed
moved = record { answered = refl; there_no_more = refl; here_now = refl; knows = refl; noted = refl }

-- ---- so the law is of it

-- no node has begun at first
nobody_yet : (k : ℕ) → node_at none_begun (record { 0 = k }) ≡ never_begun
nobody_yet zero = refl
nobody_yet (suc zero) = refl
nobody_yet (suc (suc zero)) = refl
nobody_yet (suc (suc (suc zero))) = refl
nobody_yet (suc (suc (suc (suc k)))) = refl

first_reached : IsReached none_begun
first_reached = new none_begun (record {
  nodes = λ n. nobody_yet n.0;
  alive = refl;
  links = refl;
  locks = refl;
  timers = refl;
  calls = refl;
  messages = refl;
  slow = refl;
})

-- live nodes reach it
two_reached : IsReached two_up
unfolding controller_start controller_stop controller_permit controller_top_ends controller_do_start controller_change controller_received controller_spawn_starter controller_reply_to_requester controller_has_started controller_start_reply dist_finish dist_runs_elsewhere dist_take_over dist_permit dist_get_nodes dist_start_here dist_is_to_start dist_find_start_node dist_start_distributed dist_start_appl dist_check_waiting dist_node_down dist_introduced_to dist_handle_next dist_del_t_reqs dist_run dist_answer_ends dist_not_run dist_stopped dist_new_node dist_answer_permits dist_app_started dist_app_stopped dist_weight_told dist_restart dist_new_permission net_to_connect node_controlled_by node_terminated_by node_handled_by node_introduced_by system_lock_call system_wait_for_lock system_behind_sync system_go_on_call system_call_received system_connect system_delivered system_slowed system_waited_for system_booted system_called system_fired_next system_ticked system_is_ticked system_down_told system_taken_down system_ended system_stopped system_join system_has_seen system_boot_next system_made system_rested system_forgotten system_told system_after system_take_lock system_gone system_handled system_work system_mailed
two_reached = begins_at one_up n2 never_begun refl refl (begins_at none_begun n1 never_begun refl refl first_reached)

all_reached : IsReached all_up
unfolding controller_start controller_stop controller_permit controller_top_ends controller_do_start controller_change controller_received controller_spawn_starter controller_reply_to_requester controller_has_started controller_start_reply dist_finish dist_runs_elsewhere dist_take_over dist_permit dist_get_nodes dist_start_here dist_is_to_start dist_find_start_node dist_start_distributed dist_start_appl dist_check_waiting dist_node_down dist_introduced_to dist_handle_next dist_del_t_reqs dist_run dist_answer_ends dist_not_run dist_stopped dist_new_node dist_answer_permits dist_app_started dist_app_stopped dist_weight_told dist_restart dist_new_permission net_to_connect node_controlled_by node_terminated_by node_handled_by node_introduced_by system_lock_call system_wait_for_lock system_behind_sync system_go_on_call system_call_received system_connect system_delivered system_slowed system_waited_for system_booted system_called system_fired_next system_ticked system_is_ticked system_down_told system_taken_down system_ended system_stopped system_join system_has_seen system_boot_next system_made system_rested system_forgotten system_told system_after system_take_lock system_gone system_handled system_work system_mailed
all_reached = begins_at two_up n3 never_begun refl refl two_reached

-- what is so of the three is so of all that are alive
of_all : (P : Node → Type 0) (s : SystemView) → NoMore s → P n1 → P n2 → P n3 → (k : ℕ) → is_alive_at s (record { 0 = k }) ≡ true
    → P (record { 0 = k })
of_all P s none first second third zero alive = first
of_all P s none first second third (suc zero) alive = second
of_all P s none first second third (suc (suc zero)) alive = third
of_all P s none first second third (suc (suc (suc k))) alive = absurd (false≢true (sym (none k) ∙ alive))

are_at_rest : (s : SystemView) → IsThere n1 s → IsThere n2 s → IsThere n3 s → Runs s → NoMore s → IsSettled s → AreAtRest s
are_at_rest s first second third so none settled = record {
  settled = settled;
  calls = so.calls;
  dists = λ n d alive has.
      of_all (λ (m : Node). (e : DistView) → (node_at s m).dist ≡ Some e → IsUnoccupied e) s none
      (at_rest s n1 first) (at_rest s n2 second) (at_rest s n3 third) n.0 alive d has;
}

is_second : n2.0 ≢ n1.0
is_second is = omega (arith, is)

-- the only other one that is told
is_third : (m : Node) → m.0 ≢ n2.0 → is_among m (n3 ∷ n2 ∷ []) ≡ true → n3 ≡ m
is_third m other among =
    elim (cases_eq m.0 n3.0) [
      | inl same ↦ same_node n3 m (sym same)
      | inr apart ↦ absurd (false≢true (sym ((λ i. ne_eqb m.0 n3.0 apart i || (ne_eqb m.0 n2.0 other i || false))) ∙ among))
    ]

moves : (s : SystemView) → IsThere n1 s → IsThere n2 s → IsThere n3 s → Runs s → NoMore s → MovesBehind n1 d1 s
moves s first second third so none = record {
  at = n2;
  other = is_second;
  sees_list = record {
    synchronised = so.synchronised;
    sees = λ m among alive.
        of_all (λ (k : Node). (n1.0 == k.0 || are_linked n1 k s.links) ≡ true) s none refl so.sees so.sees_third m.0 alive;
  };
  begun = so.begun;
  once = ap (filter (λ m. m.0 == n2.0)) so.told;
  leaves = λ d has is. subst (LeavesIt n1 n2 d1) (is_it s n1 d first has) so.leaves;
  takes = λ d has is may. subst (TakesIt (own_at s n2) n1 n2 d1) (is_it s n2 d second has) so.takes;
  sees_all = record {
    takeovers = λ d has. ap (λ (x : DistView). x.t_reqs) (sym (is_it s n2 d second has)) ∙ so.takeovers;
    sees = λ d has m among alive.
        of_all (λ (k : Node). (n2.0 == k.0 || are_linked n2 k s.links) ≡ true) s none so.sees_back refl so.sees_on m.0 alive;
  };
  others = λ m d other among has.
      subst (λ (k : Node). (node_at s k).dist ≡ Some d → NotesIt (own_at s k) k d1 d)
      (is_third m other (sym (ap (λ nodes. is_among m nodes) so.told) ∙ among))
      (λ there. subst (NotesIt (own_at s n3) n3 d1) (is_it s n3 d third there)
      (record { idle = third.takes_all; may_not = λ listed. so.may_not })) has;
}

-- There is such a call.
record Row : Type 0 where
  is_reached : IsReached all_up
  is_at_rest : AreAtRest all_up
  runs : Runs all_up
  moves : MovesBehind n1 d1 all_up
  moved : Moved

-- and the law is of it
row : Row
row = record {
  is_reached = all_reached;
  is_at_rest = are_at_rest all_up first_there second_there third_there runs no_more
      ((settles 1000 FirstComes (booted n3 two_up)).1 is_quiet);
  runs = runs;
  moves = moves all_up first_there second_there third_there runs no_more;
  moved = moved;
}
