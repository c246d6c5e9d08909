-- A boot script that the law is of: of two nodes the first one is up and runs an application of its own and one that is distributed, and
-- the script of the second one begins, which starts both.
use Rattle.std.proofs.Common.{◌≡◌, ◌⊎◌, ◌==◌, ◌||◌, ◌<◌, ℕ, Bool, zero, suc, true, false, cond, length, filter, List, [], ◌∷◌, unwrap_or, Option, Some, None, refl, sym, ap, subst, ◌∙◌, inl, inr, arith}
use Rattle.std.specs.Prelude.{All, reverse}
use Rattle.std.specs.List.{flat_map}
use Rattle.std.specs.Option.{option_map}
use Rattle.std.proofs.lemmas.Bool.{cases_Bool, eqb-true, false≢true}
use Rattle.std.proofs.lemmas.List.Elements.{All-nil, All-cons}
use Rattle.std.proofs.lemmas.Option.{none-some}
use Rattle.rh_model.specs.ClusterView.{ClusterView, NodeView, boot_of}
use Rattle.rh_model.specs.declared.node.App.{App}
use Rattle.rh_model.specs.declared.node.Node.{Node}
use Rattle.rh_model.specs.declared.settings.Restart.{Restart}
use Rattle.rh_model.specs.declared.settings.Restart.TheVariants.{Temporary}
use Rattle.rh_model.specs.declared.settings.SyncWait.TheVariants.{After}
use Rattle.rh_otp_model.specs.declared.wait.OwnFile.{OwnFile}
use Rattle.rh_otp_model.specs.Own.{EntryView, WrittenView, controls}
use Rattle.rh_otp_controller.specs.Calls.{start as controller_start, stop as controller_stop, permit as controller_permit, top_ends as controller_top_ends}
use Rattle.rh_otp_controller.specs.Changes.{do_start as controller_do_start, change as controller_change, received as controller_received}
use Rattle.rh_otp_controller.specs.Starting.{spawn_starter as controller_spawn_starter, reply_to_requester as controller_reply_to_requester, has_started as controller_has_started, start_reply as controller_start_reply}
use Rattle.rh_otp_dist.specs.Attempts.{finish as dist_finish, runs_elsewhere as dist_runs_elsewhere}
use Rattle.rh_otp_dist.specs.Calls.{take_over as dist_take_over, permit as dist_permit, get_nodes as dist_get_nodes}
use Rattle.rh_otp_dist.specs.Choosing.{start_here as dist_start_here, is_to_start as dist_is_to_start, find_start_node as dist_find_start_node, start_distributed as dist_start_distributed, start_appl as dist_start_appl}
use Rattle.rh_otp_dist.specs.Down.{check_waiting as dist_check_waiting, node_down as dist_node_down}
use Rattle.rh_otp_dist.specs.Outside.{introduced_to as dist_introduced_to}
use Rattle.rh_otp_dist.specs.Received.{handle_next as dist_handle_next}
use Rattle.rh_otp_dist.specs.Sending.{del_t_reqs as dist_del_t_reqs}
use Rattle.rh_otp_dist.specs.Told.{run as dist_run, answer_ends as dist_answer_ends, not_run as dist_not_run, stopped as dist_stopped, new_node as dist_new_node, answer_permits as dist_answer_permits, app_started as dist_app_started, app_stopped as dist_app_stopped, weight_told as dist_weight_told, restart as dist_restart, new_permission as dist_new_permission}
use Rattle.rh_otp_net.specs.Links.{to_connect as net_to_connect}
use Rattle.rh_otp_node.specs.Turns.{controlled_by as node_controlled_by, terminated_by as node_terminated_by, handled_by as node_handled_by, introduced_by as node_introduced_by}
use Rattle.rh_otp_system.specs.Calling.{lock_call as system_lock_call, wait_for_lock as system_wait_for_lock, behind_sync as system_behind_sync, go_on_call as system_go_on_call, call_received as system_call_received}
use Rattle.rh_otp_system.specs.Connecting.{connect as system_connect}
use Rattle.rh_otp_system.specs.Delivering.{delivered as system_delivered, slowed as system_slowed}
use Rattle.rh_otp_system.specs.Doing.{waited_for as system_waited_for, booted as system_booted, called as system_called, fired_next as system_fired_next, ticked as system_ticked, is_ticked as system_is_ticked}
use Rattle.rh_otp_system.specs.Ending.{down_told as system_down_told, taken_down as system_taken_down, ended as system_ended, stopped as system_stopped}
use Rattle.rh_otp_system.specs.Joining.{join as system_join, has_seen as system_has_seen, boot_next as system_boot_next}
use Rattle.rh_otp_system.specs.Moves.{made as system_made}
use Rattle.rh_otp_system.specs.Resting.{rested as system_rested, forgotten as system_forgotten}
use Rattle.rh_otp_system.specs.Sending.{told as system_told, after as system_after}
use Rattle.rh_otp_system.specs.Working.{take_lock as system_take_lock, gone as system_gone, handled as system_handled, work as system_work, mailed as system_mailed}
use Rattle.rh_otp_dist.specs.State.{DistView, permitted, is_among}
use Rattle.rh_otp_net.specs.declared.order.Order.TheVariants.{FirstComes}
use Rattle.rh_otp_net.specs.Links.{are_linked}
use Rattle.rh_otp_node.specs.Live.{never_begun}
use Rattle.rh_otp_system.specs.declared.cell.Cell.TheVariants as cell
use Rattle.rh_otp_system.specs.declared.slow.Slow.TheVariants.{Boot}
use Rattle.rh_otp_system.specs.Doing.{booted}
use Rattle.rh_otp_system.specs.Joining.{boot_coming}
use Rattle.rh_otp_system.specs.declared.moves.Move.{Move}
use Rattle.rh_otp_system.specs.declared.moves.Move.TheVariants as move
use Rattle.rh_otp_system.specs.Moves.{Delivers, is_to_end, made, moved, moved_by, next_move, settled}
use Rattle.rh_otp_system.specs.State.{SystemView, system_of, node_at, own_at, is_alive_at}
use Rattle.rh_otp_laws.specs.Acting.{IsReached, new, later, acts, begins as starts}
use Rattle.rh_otp_laws.proofs.Commands.{commands_reached}
use Rattle.rh_otp_crashes.specs.Crashes.{IsUnoccupied, FailOverLater}
use Rattle.rh_otp_crashes.proofs.Turning.{own_in}
use Rattle.rh_otp_stops.proofs.Rows.{n1, n2, d1, l1, file, no_net, quiet, dist_of, IsThere, NoMore, begins_at, is_it, at_rest, of_both}
use Rattle.rh_otp_starts.specs.Elsewhere.{candidates_at}
use Rattle.rh_otp_scripts.specs.Boots.{GoesOneWay, here, behind_one}
use Rattle.rh_otp_scripts.specs.Scripts.{HasNoTuple, SeesRunners, BootsAlone, CanBoot}

-- ---- the cluster

-- it waits for these, and starts both applications
abbrev node_of : List Node → NodeView
node_of others = record {
  mandatory = [];
  optional = others;
  sync_wait = After 12000;
  boot = (d1, Temporary) ∷ (l1, Temporary) ∷ [];
  permissions = true ∷ true ∷ [];
  platforms = [];
}

-- the second node alone waits for the other one
abbrev pub cluster : ClusterView
cluster = record {
  profile = 1;
  node_names = (97 ∷ []) ∷ (98 ∷ []) ∷ [];
  app_names = (97 ∷ []) ∷ (98 ∷ []) ∷ [];
  platform_names = [];
  nodes = node_of [] ∷ node_of (n1 ∷ []) ∷ [];
  apps = record {
    deps = [];
    start_arg = None;
    phases = false;
    spread = Some (record { timeout = 5000; groups = (n1 ∷ []) ∷ (n2 ∷ []) ∷ [] });
  } ∷ record { deps = []; start_arg = None; phases = false; spread = None } ∷ [];
}

abbrev pub none_begun : SystemView
none_begun = system_of cluster (file ∷ file ∷ []) (cell.Node never_begun ∷ cell.Node never_begun ∷ cell.Net no_net ∷ []) no_net true

abbrev pub one_up : SystemView
one_up = quiet (booted n1 none_begun)

-- Behind so many moves the second node has seen the first one, their dist_acs know one another, and its boot script is to begin.
abbrev pub begins : SystemView
begins = settled 5 FirstComes (booted n2 one_up)

-- ---- what the prover computes of it

-- the script alone is on its way, which starts the application that is distributed
record Begins (s : SystemView) : Type 0 where
  files : s.files ≡ file ∷ file ∷ []
  boots : boot_of s.cluster n2 ≡ (d1, Temporary) ∷ (l1, Temporary) ∷ []
  messages : s.messages ≡ []
  slow : s.slow ≡ Boot n2 ∷ []
  calls : s.calls ≡ []
  locks : s.locks ≡ []
  first_ends : is_to_end n1 s ≡ false
  second_ends : is_to_end n2 s ≡ false
  requests : (node_at s n2).controller.start_req ≡ []
  takeovers : (dist_of s n2).t_reqs ≡ []
  sees : are_linked n2 n1 s.links ≡ true
  soon : s.ends_soon ≡ true
  coming : boot_coming n2 s ≡ Some (d1, Temporary)
  listed : controls (own_at s n2) d1 ≡ true
  knows : is_among n1 (dist_of s n2).known ≡ true

first_there : IsThere n1 begins
unfolding controller_start controller_stop controller_permit controller_top_ends controller_do_start controller_change controller_received controller_spawn_starter controller_reply_to_requester controller_has_started controller_start_reply dist_finish dist_runs_elsewhere dist_take_over dist_permit dist_get_nodes dist_start_here dist_is_to_start dist_find_start_node dist_start_distributed dist_start_appl dist_check_waiting dist_node_down dist_introduced_to dist_handle_next dist_del_t_reqs dist_run dist_answer_ends dist_not_run dist_stopped dist_new_node dist_answer_permits dist_app_started dist_app_stopped dist_weight_told dist_restart dist_new_permission net_to_connect node_controlled_by node_terminated_by node_handled_by node_introduced_by system_lock_call system_wait_for_lock system_behind_sync system_go_on_call system_call_received system_connect system_delivered system_slowed system_waited_for system_booted system_called system_fired_next system_ticked system_is_ticked system_down_told system_taken_down system_ended system_stopped system_join system_has_seen system_boot_next system_made system_rested system_forgotten system_told system_after system_take_lock system_gone system_handled system_work system_mailed
first_there = record { alive = refl; has = refl; takes_all = refl; mail = refl; permits = refl; parked = refl }

second_there : IsThere n2 begins
unfolding controller_start controller_stop controller_permit controller_top_ends controller_do_start controller_change controller_received controller_spawn_starter controller_reply_to_requester controller_has_started controller_start_reply dist_finish dist_runs_elsewhere dist_take_over dist_permit dist_get_nodes dist_start_here dist_is_to_start dist_find_start_node dist_start_distributed dist_start_appl dist_check_waiting dist_node_down dist_introduced_to dist_handle_next dist_del_t_reqs dist_run dist_answer_ends dist_not_run dist_stopped dist_new_node dist_answer_permits dist_app_started dist_app_stopped dist_weight_told dist_restart dist_new_permission net_to_connect node_controlled_by node_terminated_by node_handled_by node_introduced_by system_lock_call system_wait_for_lock system_behind_sync system_go_on_call system_call_received system_connect system_delivered system_slowed system_waited_for system_booted system_called system_fired_next system_ticked system_is_ticked system_down_told system_taken_down system_ended system_stopped system_join system_has_seen system_boot_next system_made system_rested system_forgotten system_told system_after system_take_lock system_gone system_handled system_work system_mailed
second_there = record { alive = refl; has = refl; takes_all = refl; mail = refl; permits = refl; parked = refl }

it_begins : Begins begins
unfolding controller_start controller_stop controller_permit controller_top_ends controller_do_start controller_change controller_received controller_spawn_starter controller_reply_to_requester controller_has_started controller_start_reply dist_finish dist_runs_elsewhere dist_take_over dist_permit dist_get_nodes dist_start_here dist_is_to_start dist_find_start_node dist_start_distributed dist_start_appl dist_check_waiting dist_node_down dist_introduced_to dist_handle_next dist_del_t_reqs dist_run dist_answer_ends dist_not_run dist_stopped dist_new_node dist_answer_permits dist_app_started dist_app_stopped dist_weight_told dist_restart dist_new_permission net_to_connect node_controlled_by node_terminated_by node_handled_by node_introduced_by system_lock_call system_wait_for_lock system_behind_sync system_go_on_call system_call_received system_connect system_delivered system_slowed system_waited_for system_booted system_called system_fired_next system_ticked system_is_ticked system_down_told system_taken_down system_ended system_stopped system_join system_has_seen system_boot_next system_made system_rested system_forgotten system_told system_after system_take_lock system_gone system_handled system_work system_mailed
it_begins = record {
  files = refl;
  boots = refl;
  messages = refl;
  slow = refl;
  calls = refl;
  locks = refl;
  first_ends = refl;
  second_ends = refl;
  requests = refl;
  takeovers = refl;
  sees = refl;
  soon = refl;
  coming = refl;
  listed = refl;
  knows = refl;
}

no_more : NoMore begins
unfolding controller_start controller_stop controller_permit controller_top_ends controller_do_start controller_change controller_received controller_spawn_starter controller_reply_to_requester controller_has_started controller_start_reply dist_finish dist_runs_elsewhere dist_take_over dist_permit dist_get_nodes dist_start_here dist_is_to_start dist_find_start_node dist_start_distributed dist_start_appl dist_check_waiting dist_node_down dist_introduced_to dist_handle_next dist_del_t_reqs dist_run dist_answer_ends dist_not_run dist_stopped dist_new_node dist_answer_permits dist_app_started dist_app_stopped dist_weight_told dist_restart dist_new_permission net_to_connect node_controlled_by node_terminated_by node_handled_by node_introduced_by system_lock_call system_wait_for_lock system_behind_sync system_go_on_call system_call_received system_connect system_delivered system_slowed system_waited_for system_booted system_called system_fired_next system_ticked system_is_ticked system_down_told system_taken_down system_ended system_stopped system_join system_has_seen system_boot_next system_made system_rested system_forgotten system_told system_after system_take_lock system_gone system_handled system_work system_mailed
no_more zero = refl
no_more (suc k) = refl

nobody_yet : (k : ℕ) → node_at none_begun (record { 0 = k }) ≡ never_begun
nobody_yet zero = refl
nobody_yet (suc zero) = refl
nobody_yet (suc (suc zero)) = refl
nobody_yet (suc (suc (suc k))) = refl

pub first_reached : IsReached none_begun
first_reached = new none_begun (record {
  nodes = λ n. nobody_yet n.0;
  alive = refl;
  links = refl;
  locks = refl;
  timers = refl;
  calls = refl;
  messages = refl;
  slow = refl;
})

three_reached : IsReached (settled 3 FirstComes (booted n2 one_up))
unfolding controller_start controller_stop controller_permit controller_top_ends controller_do_start controller_change controller_received controller_spawn_starter controller_reply_to_requester controller_has_started controller_start_reply dist_finish dist_runs_elsewhere dist_take_over dist_permit dist_get_nodes dist_start_here dist_is_to_start dist_find_start_node dist_start_distributed dist_start_appl dist_check_waiting dist_node_down dist_introduced_to dist_handle_next dist_del_t_reqs dist_run dist_answer_ends dist_not_run dist_stopped dist_new_node dist_answer_permits dist_app_started dist_app_stopped dist_weight_told dist_restart dist_new_permission net_to_connect node_controlled_by node_terminated_by node_handled_by node_introduced_by system_lock_call system_wait_for_lock system_behind_sync system_go_on_call system_call_received system_connect system_delivered system_slowed system_waited_for system_booted system_called system_fired_next system_ticked system_is_ticked system_down_told system_taken_down system_ended system_stopped system_join system_has_seen system_boot_next system_made system_rested system_forgotten system_told system_after system_take_lock system_gone system_handled system_work system_mailed
three_reached =
    commands_reached.settles_there 3 FirstComes (booted n2 one_up)
    (later one_up (booted n2 one_up) (begins_at none_begun n1 never_begun refl refl first_reached)
    (acts one_up (booted n2 one_up) (starts one_up n2 (never_begun, refl) refl)))

is_reached : IsReached begins
unfolding controller_start controller_stop controller_permit controller_top_ends controller_do_start controller_change controller_received controller_spawn_starter controller_reply_to_requester controller_has_started controller_start_reply dist_finish dist_runs_elsewhere dist_take_over dist_permit dist_get_nodes dist_start_here dist_is_to_start dist_find_start_node dist_start_distributed dist_start_appl dist_check_waiting dist_node_down dist_introduced_to dist_handle_next dist_del_t_reqs dist_run dist_answer_ends dist_not_run dist_stopped dist_new_node dist_answer_permits dist_app_started dist_app_stopped dist_weight_told dist_restart dist_new_permission net_to_connect node_controlled_by node_terminated_by node_handled_by node_introduced_by system_lock_call system_wait_for_lock system_behind_sync system_go_on_call system_call_received system_connect system_delivered system_slowed system_waited_for system_booted system_called system_fired_next system_ticked system_is_ticked system_down_told system_taken_down system_ended system_stopped system_join system_has_seen system_boot_next system_made system_rested system_forgotten system_told system_after system_take_lock system_gone system_handled system_work system_mailed
is_reached =
    commands_reached.settles_there 5 FirstComes (booted n2 one_up)
    (later one_up (booted n2 one_up) (begins_at none_begun n1 never_begun refl refl first_reached)
    (acts one_up (booted n2 one_up) (starts one_up n2 (never_begun, refl) refl)))

-- the entry of the application that is distributed
abbrev entry : EntryView
entry = record {
  app = d1;
  timeout = 5000;
  places = record { is_tuple = false; nodes = n1 ∷ [] } ∷ record { is_tuple = false; nodes = n2 ∷ [] } ∷ [];
}

-- ---- so the law is of it

alone : (s : SystemView) → IsThere n1 s → IsThere n2 s → NoMore s → Begins s → BootsAlone n2 s
alone s first second none so = record {
  messages = so.messages;
  slow = so.slow;
  calls = so.calls;
  locks = so.locks;
  dists = λ m d alive has.
      of_both (λ (k : Node). (e : DistView) → (node_at s k).dist ≡ Some e → IsUnoccupied e) s none
      (at_rest s n1 first) (at_rest s n2 second) m.0 alive d has;
  ends = λ m alive. of_both (λ (k : Node). is_to_end k s ≡ false) s none so.first_ends so.second_ends m.0 alive;
}

-- the nodes of a list are these two
of_the_list : (p : Node → Bool) (m : Node) → is_among m (filter p (n2 ∷ n1 ∷ [])) ≡ true → (m.0 ≡ 1) ⊎ (m.0 ≡ 0)
of_the_list p m among = by (p n2) (p n1) among
  where
    one : (b : Bool) → ((m.0 == 1) || b) ≡ true → (b ≡ true → (m.0 ≡ 1) ⊎ (m.0 ≡ 0)) → (m.0 ≡ 1) ⊎ (m.0 ≡ 0)
    one b is otherwise = elim (cases_Bool (m.0 == 1)) [
      | inl same ↦ inl (eqb-true m.0 1 same)
      | inr other ↦ otherwise (ap (λ (c : Bool). c || b) (sym other) ∙ is)
    ]

    last : ((m.0 == 0) || false) ≡ true → (m.0 ≡ 1) ⊎ (m.0 ≡ 0)
    last is = elim (cases_Bool (m.0 == 0)) [
      | inl same ↦ inr (eqb-true m.0 0 same)
      | inr other ↦ absurd (false≢true (ap (λ (c : Bool). c || false) (sym other) ∙ is))
    ]

    by : (b c : Bool) → is_among m (cond b (n2 ∷ cond c (n1 ∷ []) []) (cond c (n1 ∷ []) [])) ≡ true → (m.0 ≡ 1) ⊎ (m.0 ≡ 0)
    by true true is = one ((m.0 == 0) || false) is last
    by true false is = one false is (λ never. absurd (false≢true never))
    by false true is = last is
    by false false is = absurd (false≢true is)

-- the list of any application, where it has one
of_any_list : (a : App) (d : DistView) (m : Node) → is_among m (candidates_at file.own a d) ≡ true → (m.0 ≡ 1) ⊎ (m.0 ≡ 0)
of_any_list a d m among = by (d1.0 == a.0) among
  where
    p : Node → Bool
    p k = is_among k (permitted d a)

    places : Bool → List WrittenView
    places b = unwrap_or (option_map (λ (e : EntryView). e.places) (cond b (Some entry) None)) []

    by : (b : Bool) → is_among m (filter p (flat_map (λ (w : WrittenView). w.nodes) (reverse (places b)))) ≡ true
        → (m.0 ≡ 1) ⊎ (m.0 ≡ 0)
    by true is = of_the_list p m is
    by false is = absurd (false≢true is)

can : (s : SystemView) → IsThere n1 s → IsThere n2 s → NoMore s → Begins s → CanBoot n2 s
can s first second none so = record {
  alive = second.alive;
  requests = so.requests;
  sees_all = record {
    takeovers = λ d has. ap (λ (x : DistView). x.t_reqs) (sym (is_it s n2 d second has)) ∙ so.takeovers;
    sees = λ d has m among alive.
        of_both (λ (k : Node). (n2.0 == k.0 || are_linked n2 k s.links) ≡ true) s none so.sees refl m.0 alive;
  };
  runners = λ d has.
      subst (λ (rows : List (App × Restart)). All (λ (row : App × Restart). SeesRunners n2 row.0 d s) rows) (sym so.boots)
      (All-cons (λ (row : App × Restart). SeesRunners n2 row.0 d s) (d1, Temporary) ((l1, Temporary) ∷ []) (runner d1 d)
      (All-cons (λ (row : App × Restart). SeesRunners n2 row.0 d s) (l1, Temporary) [] (runner l1 d)
      (All-nil (λ (row : App × Restart). SeesRunners n2 row.0 d s))));
  lists = subst (λ (files : List OwnFile). All (λ (row : App × Restart). HasNoTuple (own_in files n2) row.0) (boot_of s.cluster n2))
      (sym so.files)
      (subst (λ (rows : List (App × Restart)). All (λ (row : App × Restart). HasNoTuple file.own row.0) rows) (sym so.boots) lists);
}
  where
    runner : (a : App) (d : DistView) → SeesRunners n2 a d s
    runner a d m other among =
        elim (of_any_list a d m (ap (λ (files : List OwnFile). is_among m (candidates_at (own_in files n2) a d)) (sym so.files) ∙ among)) [
          | inl itself ↦ absurd (other itself)
          | inr is ↦ subst (λ (k : ℕ). (is_alive_at s (record { 0 = k }) ≡ true)
              × ((n2.0 == k || are_linked n2 (record { 0 = k }) s.links) ≡ true)) (sym is) (first.alive, so.sees)
        ]

    P : App × Restart → Type 0
    P row = HasNoTuple file.own row.0

    Q : WrittenView → Type 0
    Q w = w.is_tuple ≡ false

    lists : All P ((d1, Temporary) ∷ (l1, Temporary) ∷ [])
    lists =
        All-cons P (d1, Temporary) ((l1, Temporary) ∷ [])
        (All-cons Q (record { is_tuple = false; nodes = n1 ∷ [] }) (record { is_tuple = false; nodes = n2 ∷ [] } ∷ []) refl
        (All-cons Q (record { is_tuple = false; nodes = n2 ∷ [] }) [] refl (All-nil Q)))
        (All-cons P (l1, Temporary) [] (All-nil Q) (All-nil P))

fails_later : All (λ (e : EntryView). 0 < e.timeout) file.own.entries
fails_later = All-cons (λ (e : EntryView). 0 < e.timeout) entry [] (omega (arith)) (All-nil (λ (e : EntryView). 0 < e.timeout))

-- no loss is over at once
pub later_in : (k : ℕ) → All (λ (e : EntryView). 0 < e.timeout) (own_in (file ∷ file ∷ []) (record { 0 = k })).entries
later_in zero = fails_later
later_in (suc zero) = fails_later
later_in (suc (suc k)) = All-nil (λ (e : EntryView). 0 < e.timeout)

later_on : (s : SystemView) → Begins s → FailOverLater s
later_on s so n = subst (λ (files : List OwnFile). All (λ (e : EntryView). 0 < e.timeout) (own_in files n).entries)
    (sym so.files) (later_in n.0)

-- ---- what goes one way to there

-- the last messages before: the first node answers, by which the second one has synchronised
abbrev before : ℕ → SystemView
before k = settled k FirstComes (booted n2 one_up)

-- one message is on its way, by which it goes on so
record GoesOn (s t : SystemView) : Type 0 where
  one : length s.messages ≡ 1
  next : made (move.Deliver 0) s ≡ t

-- behind so many moves comes the next one
moves_last : (k : ℕ) (s : SystemView) (next : Move) → next_move FirstComes (moved k FirstComes s) ≡ Some next
    → moved (suc k) FirstComes s ≡ made next (moved k FirstComes s)
moves_last zero s next is = ap (λ (o : Option Move). moved_by (moved 0 FirstComes) o s) is
moves_last (suc k) s next is = by (next_move FirstComes s) refl (λ m. moves_last k (made m s) next)
  where
    by : (o : Option Move) → next_move FirstComes s ≡ o
        → ((m : Move) → next_move FirstComes (moved k FirstComes (made m s)) ≡ Some next
        → moved (suc k) FirstComes (made m s) ≡ made next (moved k FirstComes (made m s)))
        → moved (suc (suc k)) FirstComes s ≡ made next (moved (suc k) FirstComes s)
    by None none rest =
        absurd (none-some next (sym none
        ∙ ap (next_move FirstComes) (sym (ap (λ (o : Option Move). moved_by (moved k FirstComes) o s) none)) ∙ is))
    by (Some m) first rest =
        let so : moved (suc k) FirstComes s ≡ moved k FirstComes (made m s) =
        ap (λ (o : Option Move). moved_by (moved k FirstComes) o s) first in
        ap (λ (o : Option Move). moved_by (moved (suc k) FirstComes) o s) first
        ∙ rest m (ap (next_move FirstComes) (sym so) ∙ is) ∙ ap (made next) (sym so)

-- a message is on its way
record HasOne (s : SystemView) : Type 0 where
  one : length s.messages ≡ 1
  next : next_move FirstComes s ≡ Some (move.Deliver 0)

has_third : HasOne (before 3)
unfolding controller_start controller_stop controller_permit controller_top_ends controller_do_start controller_change controller_received controller_spawn_starter controller_reply_to_requester controller_has_started controller_start_reply dist_finish dist_runs_elsewhere dist_take_over dist_permit dist_get_nodes dist_start_here dist_is_to_start dist_find_start_node dist_start_distributed dist_start_appl dist_check_waiting dist_node_down dist_introduced_to dist_handle_next dist_del_t_reqs dist_run dist_answer_ends dist_not_run dist_stopped dist_new_node dist_answer_permits dist_app_started dist_app_stopped dist_weight_told dist_restart dist_new_permission net_to_connect node_controlled_by node_terminated_by node_handled_by node_introduced_by system_lock_call system_wait_for_lock system_behind_sync system_go_on_call system_call_received system_connect system_delivered system_slowed system_waited_for system_booted system_called system_fired_next system_ticked system_is_ticked system_down_told system_taken_down system_ended system_stopped system_join system_has_seen system_boot_next system_made system_rested system_forgotten system_told system_after system_take_lock system_gone system_handled system_work system_mailed
has_third = record { one = refl; next = refl }

has_fourth : HasOne (before 4)
unfolding controller_start controller_stop controller_permit controller_top_ends controller_do_start controller_change controller_received controller_spawn_starter controller_reply_to_requester controller_has_started controller_start_reply dist_finish dist_runs_elsewhere dist_take_over dist_permit dist_get_nodes dist_start_here dist_is_to_start dist_find_start_node dist_start_distributed dist_start_appl dist_check_waiting dist_node_down dist_introduced_to dist_handle_next dist_del_t_reqs dist_run dist_answer_ends dist_not_run dist_stopped dist_new_node dist_answer_permits dist_app_started dist_app_stopped dist_weight_told dist_restart dist_new_permission net_to_connect node_controlled_by node_terminated_by node_handled_by node_introduced_by system_lock_call system_wait_for_lock system_behind_sync system_go_on_call system_call_received system_connect system_delivered system_slowed system_waited_for system_booted system_called system_fired_next system_ticked system_is_ticked system_down_told system_taken_down system_ended system_stopped system_join system_has_seen system_boot_next system_made system_rested system_forgotten system_told system_after system_take_lock system_gone system_handled system_work system_mailed
has_fourth = record { one = refl; next = refl }

third : GoesOn (before 3) (before 4)
third = record {
  one = has_third.one;
  next = sym (moves_last 3 (record (booted n2 one_up) { answers = [] }) (move.Deliver 0) has_third.next);
}

fourth : GoesOn (before 4) begins
fourth = record {
  one = has_fourth.one;
  next = sym (moves_last 4 (record (booted n2 one_up) { answers = [] }) (move.Deliver 0) has_fourth.next);
}

none_counted : (before 3).answers ≡ []
unfolding controller_start controller_stop controller_permit controller_top_ends controller_do_start controller_change controller_received controller_spawn_starter controller_reply_to_requester controller_has_started controller_start_reply dist_finish dist_runs_elsewhere dist_take_over dist_permit dist_get_nodes dist_start_here dist_is_to_start dist_find_start_node dist_start_distributed dist_start_appl dist_check_waiting dist_node_down dist_introduced_to dist_handle_next dist_del_t_reqs dist_run dist_answer_ends dist_not_run dist_stopped dist_new_node dist_answer_permits dist_app_started dist_app_stopped dist_weight_told dist_restart dist_new_permission net_to_connect node_controlled_by node_terminated_by node_handled_by node_introduced_by system_lock_call system_wait_for_lock system_behind_sync system_go_on_call system_call_received system_connect system_delivered system_slowed system_waited_for system_booted system_called system_fired_next system_ticked system_is_ticked system_down_told system_taken_down system_ended system_stopped system_join system_has_seen system_boot_next system_made system_rested system_forgotten system_told system_after system_take_lock system_gone system_handled system_work system_mailed
none_counted = refl

some : (s : SystemView) → length s.messages ≡ 1 → s.messages ≡ [] → ⊥
some s one none = let empty : length s.messages ≡ 0 = ap length none in omega (arith, one, empty)

-- where one message is on its way it alone arrives
only_one : (s t : SystemView) → GoesOn s t → (x : SystemView) → Delivers s x → x ≡ t
only_one s t g x (move.Deliver place, possible, is) =
    is
    ∙ ap (λ (k : ℕ). made (move.Deliver k) s) (let one : length s.messages ≡ 1 = g.one in omega (arith, one, possible))
    ∙ g.next
only_one s t g x (move.Slow place, possible, is) = absurd (some s g.one possible.0)
only_one s t g x (move.Lock n, possible, is) = absurd (some s g.one possible.0.0)
only_one s t g x (move.Call place, possible, is) = absurd (some s g.one possible.0.0)
only_one s t g x (move.End n, possible, is) = absurd (some s g.one possible.0.0)

leads : (s t : SystemView) → GoesOn s t → Delivers s t
leads s t g = (move.Deliver 0, (let one : length s.messages ≡ 1 = g.one in omega (arith, one)), sym g.next)

one_way : (s t u : SystemView) → GoesOn s t → GoesOn t u → GoesOneWay s u
one_way s t u first second =
    behind_one s t u (leads s t first) (only_one s t first) (behind_one t u u (leads t u second) (only_one t u second) (here u))

-- There is such a script, and what goes one way to it.
pub record Row : Type 0 where
  before_reached : IsReached (before 3)
  before_none : (before 3).answers ≡ []
  way : GoesOneWay (before 3) begins
  reached : IsReached begins
  alone : BootsAlone n2 begins
  can : CanBoot n2 begins
  soon : begins.ends_soon ≡ true
  later : FailOverLater begins
  coming : boot_coming n2 begins ≡ Some (d1, Temporary)
  listed : controls (own_at begins n2) d1 ≡ true
  knows : is_among n1 (dist_of begins n2).known ≡ true

pub row : Row
row = record {
  before_reached = three_reached;
  before_none = none_counted;
  way = one_way (before 3) (before 4) begins third fourth;
  reached = is_reached;
  alone = alone begins first_there second_there no_more it_begins;
  can = can begins first_there second_there no_more it_begins;
  soon = it_begins.soon;
  later = later_on begins it_begins;
  coming = it_begins.coming;
  listed = it_begins.listed;
  knows = it_begins.knows;
}
