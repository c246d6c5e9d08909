-- A tick at which the wait of a node ends and the node with it. Of two nodes the second one must have the first one; it begins alone, waits
-- for 5 seconds, and ends.
use Rattle.std.proofs.Common.{◌≡◌, ◌<◌, ◌++◌, ℕ, zero, suc, true, false, List, [], ◌∷◌, is_some, None, Some, refl, sym, subst, ◌∙◌, inr, arith}
use Rattle.std.specs.Prelude.{All}
use Rattle.std.proofs.lemmas.List.Elements.{All-nil, All-cons}
use Rattle.std.proofs.lemmas.Option.{same_Some}
use Rattle.rh_model.specs.ClusterView.{ClusterView, NodeView}
use Rattle.rh_model.specs.declared.node.Node.{Node}
use Rattle.rh_model.specs.declared.settings.Restart.TheVariants.{Permanent}
use Rattle.rh_model.specs.declared.settings.SyncWait.TheVariants.{After, Unset}
use Rattle.rh_otp_model.specs.declared.message.Message.{Message}
use Rattle.rh_otp_model.specs.declared.message.Message.TheVariants as message
use Rattle.rh_otp_model.specs.declared.output.Event.TheVariants as event
use Rattle.rh_otp_model.specs.declared.process.Role.TheVariants as role
use Rattle.rh_otp_model.specs.declared.wait.OwnFile.{OwnFile}
use Rattle.rh_otp_model.specs.declared.wait.Wait.TheVariants as wait
use Rattle.rh_otp_model.specs.Own.{EntryView}
use Rattle.rh_otp_controller.specs.Calls.{start as controller_start, stop as controller_stop, permit as controller_permit, top_ends as controller_top_ends}
use Rattle.rh_otp_controller.specs.Changes.{do_start as controller_do_start, change as controller_change, received as controller_received}
use Rattle.rh_otp_controller.specs.Starting.{spawn_starter as controller_spawn_starter, reply_to_requester as controller_reply_to_requester, has_started as controller_has_started, start_reply as controller_start_reply}
use Rattle.rh_otp_dist.specs.Attempts.{finish as dist_finish, runs_elsewhere as dist_runs_elsewhere}
use Rattle.rh_otp_dist.specs.Calls.{take_over as dist_take_over, permit as dist_permit, get_nodes as dist_get_nodes}
use Rattle.rh_otp_dist.specs.Choosing.{start_here as dist_start_here, is_to_start as dist_is_to_start, find_start_node as dist_find_start_node, start_distributed as dist_start_distributed, start_appl as dist_start_appl}
use Rattle.rh_otp_dist.specs.Down.{check_waiting as dist_check_waiting, node_down as dist_node_down}
use Rattle.rh_otp_dist.specs.Outside.{introduced_to as dist_introduced_to}
use Rattle.rh_otp_dist.specs.Received.{handle_next as dist_handle_next}
use Rattle.rh_otp_dist.specs.Sending.{del_t_reqs as dist_del_t_reqs}
use Rattle.rh_otp_dist.specs.Told.{run as dist_run, answer_ends as dist_answer_ends, not_run as dist_not_run, stopped as dist_stopped, new_node as dist_new_node, answer_permits as dist_answer_permits, app_started as dist_app_started, app_stopped as dist_app_stopped, weight_told as dist_weight_told, restart as dist_restart, new_permission as dist_new_permission}
use Rattle.rh_otp_net.specs.Links.{to_connect as net_to_connect}
use Rattle.rh_otp_node.specs.Turns.{controlled_by as node_controlled_by, terminated_by as node_terminated_by, handled_by as node_handled_by, introduced_by as node_introduced_by}
use Rattle.rh_otp_system.specs.Calling.{lock_call as system_lock_call, wait_for_lock as system_wait_for_lock, behind_sync as system_behind_sync, go_on_call as system_go_on_call, call_received as system_call_received}
use Rattle.rh_otp_system.specs.Connecting.{connect as system_connect}
use Rattle.rh_otp_system.specs.Delivering.{delivered as system_delivered, slowed as system_slowed}
use Rattle.rh_otp_system.specs.Doing.{waited_for as system_waited_for, booted as system_booted, called as system_called, fired_next as system_fired_next, ticked as system_ticked, is_ticked as system_is_ticked}
use Rattle.rh_otp_system.specs.Ending.{down_told as system_down_told, taken_down as system_taken_down, ended as system_ended, stopped as system_stopped}
use Rattle.rh_otp_system.specs.Joining.{join as system_join, has_seen as system_has_seen, boot_next as system_boot_next}
use Rattle.rh_otp_system.specs.Moves.{made as system_made}
use Rattle.rh_otp_system.specs.Resting.{rested as system_rested, forgotten as system_forgotten}
use Rattle.rh_otp_system.specs.Sending.{told as system_told, after as system_after}
use Rattle.rh_otp_system.specs.Working.{take_lock as system_take_lock, gone as system_gone, handled as system_handled, work as system_work, mailed as system_mailed}
use Rattle.rh_otp_dist.specs.declared.state.Stand.TheVariants as stand
use Rattle.rh_otp_dist.specs.State.{DistView}
use Rattle.rh_otp_dist.specs.Waiting.{takes}
use Rattle.rh_otp_net.specs.declared.order.Order.TheVariants.{FirstComes}
use Rattle.rh_otp_net.specs.declared.timers.Timer.{Timer}
use Rattle.rh_otp_net.specs.Timers.{next_due, fired}
use Rattle.rh_otp_node.specs.Live.{never_begun}
use Rattle.rh_otp_system.specs.declared.cell.Cell.TheVariants as cell
use Rattle.rh_otp_system.specs.Doing.{booted, fired_next, next_until}
use Rattle.rh_otp_system.specs.Joining.{lacks_mandatory}
use Rattle.rh_otp_system.specs.Moves.{IsSettled, is_settled_by}
use Rattle.rh_otp_system.specs.State.{SystemView, system_of, node_at, own_at, is_alive_at, is_up_at}
use Rattle.rh_otp_system.proofs.Moving.{settles}
use Rattle.rh_otp_laws.specs.Acting.{IsReached, new, later, acts, begins}
use Rattle.rh_otp_laws.proofs.Commands.{commands_reached}
use Rattle.rh_otp_commands.specs.Commands.{TickEndsAlike}
use Rattle.rh_otp_crashes.specs.Crashes.{IsUnoccupied, AreAtRest, FailOverLater}
use Rattle.rh_otp_ticks.specs.Moments.{passing, EachMomentIsCovered, over, wait_ends}
use Rattle.rh_otp_ticks.specs.WaitsEnd.{WaitEnds}
use Rattle.rh_otp_ticks.proofs.Rows.{n1, n2, d1, no_net, quiet, dist_of, IsAlone, has_it, of_alive, rest_so}
use Rattle.rh_otp_ticks.proofs.Ticking.{moments_alike}

-- ---- the cluster

abbrev first_node : NodeView
first_node = record {
  mandatory = [];
  optional = [];
  sync_wait = Unset;
  boot = (d1, Permanent) ∷ [];
  permissions = true ∷ [];
  platforms = [];
}

-- it must have the first one
abbrev second_node : NodeView
second_node = record {
  mandatory = n1 ∷ [];
  optional = [];
  sync_wait = After 5000;
  boot = (d1, Permanent) ∷ [];
  permissions = true ∷ [];
  platforms = [];
}

abbrev cluster : ClusterView
cluster = record {
  profile = 1;
  node_names = (97 ∷ []) ∷ (98 ∷ []) ∷ [];
  app_names = (97 ∷ []) ∷ [];
  platform_names = [];
  nodes = first_node ∷ second_node ∷ [];
  apps = record {
    deps = [];
    start_arg = None;
    phases = false;
    spread = Some (record { timeout = 7000; groups = (n1 ∷ []) ∷ (n2 ∷ []) ∷ [] });
  } ∷ [];
}

abbrev entry : EntryView
entry = record {
  app = d1;
  timeout = 7000;
  places = record { is_tuple = false; nodes = n1 ∷ [] } ∷ record { is_tuple = false; nodes = n2 ∷ [] } ∷ [];
}

abbrev first_file : OwnFile
first_file = record { own = record { has_dist = true; entries = entry ∷ [] }; wait = wait.Unset }

abbrev second_file : OwnFile
second_file = record { own = record { has_dist = true; entries = entry ∷ [] }; wait = wait.After 5000 }

-- ---- what happens

abbrev none_begun : SystemView
none_begun =
    system_of cluster (first_file ∷ second_file ∷ []) (cell.Node never_begun ∷ cell.Node never_begun ∷ cell.Net no_net ∷ []) no_net false

-- the second node waits, and time begins to pass
abbrev waiting : SystemView
waiting = quiet (booted n2 none_begun)

abbrev first : SystemView
first = passing waiting

-- its wait is over
abbrev ended : SystemView
ended = quiet (fired_next 5000 first)

-- ---- what the prover computes of it

abbrev wait_of : Timer
wait_of = record {
  due = 5000;
  step = 0;
  to = record { role = role.KernelConfig; node = n2; life = 1 };
  message = message.Timeout;
}

-- it waits for the first node, and its dist_ac for the end of the wait
record IsWaiting (s : SystemView) : Type 0 where
  next : next_due s.timers ≡ Some (5000, 0)
  fire : fired s.timers ≡ wait_of ∷ []
  life : (node_at s n2).life ≡ 1
  alive : is_alive_at s n2 ≡ true
  waits : is_up_at s n2 ≡ false
  lacks : lacks_mandatory n2 s ≡ true
  calls : s.calls ≡ []
  has : is_some (node_at s n2).dist ≡ true
  stands : (dist_of s).stand ≡ stand.ForGo
  mail : (dist_of s).mail ≡ []
  permits : (dist_of s).p_reqs ≡ []
  parked : (dist_of s).parked ≡ []

first_waits : IsWaiting first
unfolding controller_start controller_stop controller_permit controller_top_ends controller_do_start controller_change controller_received controller_spawn_starter controller_reply_to_requester controller_has_started controller_start_reply dist_finish dist_runs_elsewhere dist_take_over dist_permit dist_get_nodes dist_start_here dist_is_to_start dist_find_start_node dist_start_distributed dist_start_appl dist_check_waiting dist_node_down dist_introduced_to dist_handle_next dist_del_t_reqs dist_run dist_answer_ends dist_not_run dist_stopped dist_new_node dist_answer_permits dist_app_started dist_app_stopped dist_weight_told dist_restart dist_new_permission net_to_connect node_controlled_by node_terminated_by node_handled_by node_introduced_by system_lock_call system_wait_for_lock system_behind_sync system_go_on_call system_call_received system_connect system_delivered system_slowed system_waited_for system_booted system_called system_fired_next system_ticked system_is_ticked system_down_told system_taken_down system_ended system_stopped system_join system_has_seen system_boot_next system_made system_rested system_forgotten system_told system_after system_take_lock system_gone system_handled system_work system_mailed
first_waits = record {
  next = refl;
  fire = refl;
  life = refl;
  alive = refl;
  waits = refl;
  lacks = refl;
  calls = refl;
  has = refl;
  stands = refl;
  mail = refl;
  permits = refl;
  parked = refl;
}

first_alone : IsAlone first
unfolding controller_start controller_stop controller_permit controller_top_ends controller_do_start controller_change controller_received controller_spawn_starter controller_reply_to_requester controller_has_started controller_start_reply dist_finish dist_runs_elsewhere dist_take_over dist_permit dist_get_nodes dist_start_here dist_is_to_start dist_find_start_node dist_start_distributed dist_start_appl dist_check_waiting dist_node_down dist_introduced_to dist_handle_next dist_del_t_reqs dist_run dist_answer_ends dist_not_run dist_stopped dist_new_node dist_answer_permits dist_app_started dist_app_stopped dist_weight_told dist_restart dist_new_permission net_to_connect node_controlled_by node_terminated_by node_handled_by node_introduced_by system_lock_call system_wait_for_lock system_behind_sync system_go_on_call system_call_received system_connect system_delivered system_slowed system_waited_for system_booted system_called system_fired_next system_ticked system_is_ticked system_down_told system_taken_down system_ended system_stopped system_join system_has_seen system_boot_next system_made system_rested system_forgotten system_told system_after system_take_lock system_gone system_handled system_work system_mailed
first_alone zero other = refl
first_alone (suc zero) other = absurd (other refl)
first_alone (suc (suc zero)) other = refl
first_alone (suc (suc (suc k))) other = refl

-- each comes to an end; the node is down, its end was told behind its beginning, and nothing is due any more
record Ends : Type 0 where
  begins : is_settled_by 1 FirstComes (record waiting { is_ticking = true }) ≡ true
  ends : is_settled_by 1000 FirstComes (fired_next 5000 first) ≡ true
  down : is_alive_at ended n2 ≡ false
  told : ended.events ≡ first.events ++ event.Ended n2 ∷ []
  none : next_until 20000 ended ≡ None

it_ends : Ends
unfolding controller_start controller_stop controller_permit controller_top_ends controller_do_start controller_change controller_received controller_spawn_starter controller_reply_to_requester controller_has_started controller_start_reply dist_finish dist_runs_elsewhere dist_take_over dist_permit dist_get_nodes dist_start_here dist_is_to_start dist_find_start_node dist_start_distributed dist_start_appl dist_check_waiting dist_node_down dist_introduced_to dist_handle_next dist_del_t_reqs dist_run dist_answer_ends dist_not_run dist_stopped dist_new_node dist_answer_permits dist_app_started dist_app_stopped dist_weight_told dist_restart dist_new_permission net_to_connect node_controlled_by node_terminated_by node_handled_by node_introduced_by system_lock_call system_wait_for_lock system_behind_sync system_go_on_call system_call_received system_connect system_delivered system_slowed system_waited_for system_booted system_called system_fired_next system_ticked system_is_ticked system_down_told system_taken_down system_ended system_stopped system_join system_has_seen system_boot_next system_made system_rested system_forgotten system_told system_after system_take_lock system_gone system_handled system_work system_mailed
it_ends = record { begins = refl; ends = refl; down = refl; told = refl; none = refl }

one_entry : All (λ (e : EntryView). 0 < e.timeout) (entry ∷ [])
one_entry = All-cons (λ (e : EntryView). 0 < e.timeout) entry [] (omega arith) (All-nil (λ (e : EntryView). 0 < e.timeout))

files_so : (k : ℕ) → All (λ (e : EntryView). 0 < e.timeout) (own_at none_begun (record { 0 = k })).entries
files_so zero = one_entry
files_so (suc zero) = one_entry
files_so (suc (suc k)) = All-nil (λ (e : EntryView). 0 < e.timeout)

same_files : first.files ≡ none_begun.files
unfolding controller_start controller_stop controller_permit controller_top_ends controller_do_start controller_change controller_received controller_spawn_starter controller_reply_to_requester controller_has_started controller_start_reply dist_finish dist_runs_elsewhere dist_take_over dist_permit dist_get_nodes dist_start_here dist_is_to_start dist_find_start_node dist_start_distributed dist_start_appl dist_check_waiting dist_node_down dist_introduced_to dist_handle_next dist_del_t_reqs dist_run dist_answer_ends dist_not_run dist_stopped dist_new_node dist_answer_permits dist_app_started dist_app_stopped dist_weight_told dist_restart dist_new_permission net_to_connect node_controlled_by node_terminated_by node_handled_by node_introduced_by system_lock_call system_wait_for_lock system_behind_sync system_go_on_call system_call_received system_connect system_delivered system_slowed system_waited_for system_booted system_called system_fired_next system_ticked system_is_ticked system_down_told system_taken_down system_ended system_stopped system_join system_has_seen system_boot_next system_made system_rested system_forgotten system_told system_after system_take_lock system_gone system_handled system_work system_mailed
same_files = refl

nobody_yet : (k : ℕ) → node_at none_begun (record { 0 = k }) ≡ never_begun
nobody_yet zero = refl
nobody_yet (suc zero) = refl
nobody_yet (suc (suc zero)) = refl
nobody_yet (suc (suc (suc k))) = refl

waiting_reached : IsReached waiting
waiting_reached =
    let first_of_all : IsReached none_begun = new none_begun (record {
      nodes = λ n. nobody_yet n.0;
      alive = refl;
      links = refl;
      locks = refl;
      timers = refl;
      calls = refl;
      messages = refl;
      slow = refl;
    }) in
    commands_reached.settles_there 1000 FirstComes (booted n2 none_begun)
    (later none_begun (booted n2 none_begun) first_of_all
    (acts none_begun (booted n2 none_begun) (begins none_begun n2 (never_begun, refl) refl)))

-- ---- so the law is of it

first_settled : IsSettled first
first_settled = rest_so (record waiting { is_ticking = true }) it_ends.begins

at_ease : (s : SystemView) → IsWaiting s → (d : DistView) → (node_at s n2).dist ≡ Some d → IsUnoccupied d
at_ease s is d has =
    subst IsUnoccupied (same_Some (dist_of s) d (sym (has_it (node_at s n2).dist _ is.has) ∙ has)) (record {
      stand = inr is.stands;
      mail = subst (All (λ (m : Message). takes (dist_of s).stand m ≡ false)) (sym is.mail)
          (All-nil (λ (m : Message). takes (dist_of s).stand m ≡ false));
      permits = is.permits;
      parked = is.parked;
    })

rest_at : (s : SystemView) → IsWaiting s → IsAlone s → IsSettled s → AreAtRest s
rest_at s is alone settled = record {
  settled = settled;
  calls = is.calls;
  dists = λ n d alive has.
      of_alive (λ (m : Node). (e : DistView) → (node_at s m).dist ≡ Some e → IsUnoccupied e) s alone (at_ease s is) n.0 alive d has;
}

ends_at : (s : SystemView) → IsWaiting s → WaitEnds n2 s
ends_at s is = record {
  due = 5000;
  step = 0;
  next = is.next;
  alone = is.fire ∙ (λ i. record wait_of { to = record { role = role.KernelConfig; node = n2; life = sym is.life i } } ∷ []);
  alive = is.alive;
  waits = is.waits;
  lacks = is.lacks;
}

later_there : FailOverLater first
later_there n = subst (λ (files : List OwnFile). All (λ (e : EntryView). 0 < e.timeout) (own_at (record first { files = files }) n).entries)
    (sym same_files) (files_so n.0)

covered : EachMomentIsCovered 20000 first
unfolding ends_at
covered =
    wait_ends first ended n2 (rest_at first first_waits first_alone first_settled) later_there (ends_at first first_waits)
    (settles 1000 FirstComes (fired_next 5000 first)).0 ((settles 1000 FirstComes (fired_next 5000 first)).1 it_ends.ends)
    (over ended it_ends.none)

-- There is such a tick.
record Row : Type 0 where
  is_reached : IsReached waiting
  is_settled : IsSettled first
  is_covered : EachMomentIsCovered 20000 first
  ends_alike : TickEndsAlike 20000 1000 FirstComes waiting
  down : is_alive_at ended n2 ≡ false
  told : ended.events ≡ first.events ++ event.Ended n2 ∷ []

row : Row
row = record {
  is_reached = waiting_reached;
  is_settled = first_settled;
  is_covered = covered;
  ends_alike = moments_alike waiting 20000 1000 FirstComes waiting_reached first_settled covered;
  down = it_ends.down;
  told = it_ends.told;
}
