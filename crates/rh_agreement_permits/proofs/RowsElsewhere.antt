-- A permit that the law is of: of two nodes that are up the first one runs a distributed application, which waits at the second one, and is
-- permitted there again.
use Rattle.std.proofs.Common.{◌≡◌, ◌<◌, ◌==◌, ◌||◌, ◌∙◌, ℕ, zero, suc, true, false, None, Some, [], ◌∷◌, inl, refl, sym, ap, subst, arith}
use Rattle.std.proofs.lemmas.Bool.{false≢true, true≢false}
use Rattle.std.proofs.lemmas.Option.{same_Some}
use Rattle.rh_model.specs.ClusterView.{numbered}
use Rattle.rh_rules.specs.declared.event.Event.TheVariants as event
use Rattle.rh_rules.specs.declared.pick.Pick.TheVariants.{First}
use Rattle.rh_rules.specs.Moves.{local_moves, placements, takeovers, can_start, calls_away}
use Rattle.rh_rules.specs.NodesStart.{all_alive, is_ready, come_up_if_ready, ready_come_up}
use Rattle.rh_rules.specs.Placing.{deps_run, is_operational, candidates, best, missing_dep}
use Rattle.rh_rules.specs.Refusals.{refused}
use Rattle.rh_rules.specs.Settling.{next_moves, moved_by, all_moved}
use Rattle.rh_rules.specs.Steps.{followed, next}
use Rattle.rh_calls.specs.declared.call.Call.TheVariants as call
use Rattle.rh_state.specs.First.{configured}
use Rattle.rh_state.specs.Numbers.{nodes_of, apps_of}
use Rattle.rh_state.specs.StateView.{StateView}
use Rattle.rh_step.specs.Runs.{step}
use Rattle.rh_trail.specs.Lone.{Served, served, with_event, trail_limit}
use Rattle.rh_trail.specs.SimView.{SimView, state_of}
use Rattle.rh_otp_dist.specs.State.{DistView}
use Rattle.rh_otp_model.specs.declared.fault.Outcome.TheVariants as outcome
use Rattle.rh_otp_model.specs.declared.output.Event.TheVariants as seen
use Rattle.rh_otp_net.specs.Links.{are_linked}
use Rattle.rh_otp_node.specs.Live.{LiveView}
use Rattle.rh_otp_sim.specs.Acting.{acted, acted_at_once, is_acted, is_quiet_at_once}
use Rattle.rh_otp_sim.specs.Calls.{made_by}
use Rattle.rh_otp_sim.specs.Sim.{LiveSimView, net_in}
use Rattle.rh_otp_sim.specs.Stepping.{cells_behind, with_step}
use Rattle.rh_otp_system.specs.declared.calls.Ask.TheVariants as ask
use Rattle.rh_otp_system.specs.declared.calls.Stage.TheVariants as stage
use Rattle.rh_otp_system.specs.declared.cell.Cell.TheVariants as cell
use Rattle.rh_otp_system.specs.Resting.{forgotten}
use Rattle.rh_otp_system.specs.State.{SystemView, is_alive_at, own_at}
use Rattle.rh_agreement.specs.Laws.{HasRoom}
use Rattle.rh_agreement.specs.Resting.{held, AreBothAtRest}
use Rattle.rh_agreement.proofs.Stepping.{manual}
use Rattle.rh_agreement_spread.specs.Stops.{IsLeftAlike}
use Rattle.rh_agreement_spread.proofs.RowsPair.{a, b, web, two, file}
use Rattle.rh_agreement_spread.proofs.RowsTwo.{last_two}
use Rattle.rh_agreement_spread.proofs.RowsTwoCalls.{sim_is as three_is, sim_three, live_three, state_three, state_so, running_node, told_dist, told_node, live_is, live_then, place_row, room_three}
use Rattle.rh_agreement_permits.specs.Permits.{ChangesNoMore}
use Rattle.rh_otp_controller.specs.Calls.{start as controller_start, stop as controller_stop, permit as controller_permit, top_ends as controller_top_ends}
use Rattle.rh_otp_controller.specs.Changes.{do_start as controller_do_start, change as controller_change, received as controller_received}
use Rattle.rh_otp_controller.specs.Starting.{spawn_starter as controller_spawn_starter, reply_to_requester as controller_reply_to_requester, has_started as controller_has_started, start_reply as controller_start_reply}
use Rattle.rh_otp_dist.specs.Attempts.{finish as dist_finish, runs_elsewhere as dist_runs_elsewhere}
use Rattle.rh_otp_dist.specs.Calls.{take_over as dist_take_over, permit as dist_permit, get_nodes as dist_get_nodes}
use Rattle.rh_otp_dist.specs.Choosing.{start_here as dist_start_here, is_to_start as dist_is_to_start, find_start_node as dist_find_start_node, start_distributed as dist_start_distributed, start_appl as dist_start_appl}
use Rattle.rh_otp_dist.specs.Down.{check_waiting as dist_check_waiting, node_down as dist_node_down}
use Rattle.rh_otp_dist.specs.Outside.{introduced_to as dist_introduced_to}
use Rattle.rh_otp_dist.specs.Received.{handle_next as dist_handle_next}
use Rattle.rh_otp_dist.specs.Sending.{del_t_reqs as dist_del_t_reqs}
use Rattle.rh_otp_dist.specs.Told.{run as dist_run, answer_ends as dist_answer_ends, not_run as dist_not_run, stopped as dist_stopped, new_node as dist_new_node, answer_permits as dist_answer_permits, app_started as dist_app_started, app_stopped as dist_app_stopped, weight_told as dist_weight_told, restart as dist_restart, new_permission as dist_new_permission}
use Rattle.rh_otp_net.specs.Links.{to_connect as net_to_connect}
use Rattle.rh_otp_node.specs.Turns.{controlled_by as node_controlled_by, terminated_by as node_terminated_by, handled_by as node_handled_by, introduced_by as node_introduced_by}
use Rattle.rh_otp_system.specs.Calling.{lock_call as system_lock_call, wait_for_lock as system_wait_for_lock, behind_sync as system_behind_sync, go_on_call as system_go_on_call, call_received as system_call_received}
use Rattle.rh_otp_system.specs.Connecting.{connect as system_connect}
use Rattle.rh_otp_system.specs.Delivering.{delivered as system_delivered, slowed as system_slowed}
use Rattle.rh_otp_system.specs.Doing.{waited_for as system_waited_for, booted as system_booted, called as system_called, fired_next as system_fired_next, ticked as system_ticked, is_ticked as system_is_ticked}
use Rattle.rh_otp_system.specs.Ending.{down_told as system_down_told, taken_down as system_taken_down, ended as system_ended, stopped as system_stopped}
use Rattle.rh_otp_system.specs.Joining.{join as system_join, has_seen as system_has_seen, boot_next as system_boot_next}
use Rattle.rh_otp_system.specs.Moves.{made as system_made}
use Rattle.rh_otp_system.specs.Resting.{rested as system_rested, forgotten as system_forgotten}
use Rattle.rh_otp_system.specs.Sending.{told as system_told, after as system_after}
use Rattle.rh_otp_system.specs.Working.{take_lock as system_take_lock, gone as system_gone, handled as system_handled, work as system_work, mailed as system_mailed}
use Rattle.rh_model.specs.declared.settings.Restart.TheVariants.{Temporary}
use Rattle.rh_rules.specs.Marking.{with_mark}
use Rattle.rh_otp_controller.specs.declared.state.Place.TheVariants.{At}
use Rattle.rh_otp_dist.specs.declared.state.Standing.TheVariants as standing
use Rattle.rh_otp_moves.specs.Elsewhere.{IsFoundThen}
use Rattle.rh_agreement.specs.Telling.{GoTogether}
use Rattle.rh_agreement_spread.proofs.RowsTwoCalls.{can_wait, can_wait_live}
use Rattle.rh_agreement_spread.proofs.WaitAlike.{waits_alike}
use Rattle.rh_agreement_permits.specs.Elsewhere.{FindsElsewhereLive}
use Rattle.rh_agreement_permits.proofs.FindAlike.{finds_alike}

-- ---- it waits at the second node

abbrev sim_wait : SimView
sim_wait = (served sim_three (call.Step (event.Start b web Temporary))).sim

abbrev live_wait : LiveSimView
live_wait = made_by (call.Step (event.Start b web Temporary)) live_three

together_wait : GoTogether sim_wait live_wait
together_wait = (waits_alike sim_three live_three b web Temporary place_row.1 room_three place_row.2 can_wait can_wait_live).1

at_rest_wait : AreBothAtRest sim_wait live_wait
at_rest_wait = (waits_alike sim_three live_three b web Temporary place_row.1 room_three place_row.2 can_wait can_wait_live).2

-- ---- by the manual's rules

abbrev state_wait : StateView
state_wait = record state_three { waiting = [] ∷ (web ∷ []) ∷ [] }

start_is : step First state_three (event.Start b web Temporary) ≡ state_wait
unfolding step next followed with_mark is_ready all_alive come_up_if_ready ready_come_up configured nodes_of apps_of local_moves placements
    takeovers can_start deps_run next_moves moved_by all_moved is_operational candidates best calls_away
start_is = refl

accepted : refused state_three (event.Start b web Temporary) ≡ None
unfolding refused missing_dep
accepted = refl

sim_is : sim_wait ≡ with_event sim_three (event.Start b web Temporary)
sim_is =
    ap (λ (s : Served). s.sim)
    (manual sim_three (event.Start b web Temporary)
    (ap (λ (s : StateView). refused s (event.Start b web Temporary)) state_so ∙ accepted) room_three.steps)

wait_so : state_of sim_wait ≡ state_wait
wait_so =
    ap state_of (sim_is ∙ ap (λ (s : SimView). with_event s (event.Start b web Temporary)) three_is)
    ∙ ap (λ (s : StateView). step First s (event.Start b web Temporary)) (ap state_of (sym three_is) ∙ state_so) ∙ start_is

-- ---- and on live nodes

abbrev waiting_dist : DistView
waiting_dist = record told_dist {
  started = web ∷ [];
  remote_started = [];
  appls = record { standing = standing.Distributed a; losses = 0 } ∷ [];
}

abbrev waiting_node : LiveView
waiting_node = record told_node {
  controller = record told_node.controller { running = (web, At a) ∷ []; started = (web, Some Temporary) ∷ [] };
  dist = Some waiting_dist;
}

abbrev last_wait : SystemView
last_wait = record {
  cluster = two;
  files = file ∷ file ∷ [];
  nodes = record {
    base = cell.Node running_node ∷ cell.Node told_node ∷ cell.Net (net_in live_then) ∷ [];
    cells = cell.Node running_node ∷ cell.Node waiting_node ∷ cell.Net (net_in live_then) ∷ [];
  };
  clock = 0;
  step = 4;
  last_call = 2;
  alive = a ∷ b ∷ [];
  links = (b, a) ∷ [];
  locks = [];
  timers = last_two.timers;
  calls = record {
    number = 2;
    ask = ask.Start Temporary;
    node = b;
    life = 1;
    app = web;
    only_loaded = false;
    stage = stage.Done outcome.Done;
  } ∷ [];
  asleep = [];
  told = [];
  messages = [];
  slow = [];
  answers = [];
  events = seen.Answered 2 ∷ [];
  is_ticking = false;
  ends_soon = false;
}

abbrev live_last : LiveSimView
live_last = with_step (cells_behind (net_in live_then) 2 last_wait) live_then

made_is : made_by (call.Step (event.Start b web Temporary)) live_then ≡ live_last
unfolding acted acted_at_once is_acted is_quiet_at_once controller_start controller_stop controller_permit controller_top_ends controller_do_start controller_change controller_received controller_spawn_starter controller_reply_to_requester controller_has_started controller_start_reply dist_finish dist_runs_elsewhere dist_take_over dist_permit dist_get_nodes dist_start_here dist_is_to_start dist_find_start_node dist_start_distributed dist_start_appl dist_check_waiting dist_node_down dist_introduced_to dist_handle_next dist_del_t_reqs dist_run dist_answer_ends dist_not_run dist_stopped dist_new_node dist_answer_permits dist_app_started dist_app_stopped dist_weight_told dist_restart dist_new_permission net_to_connect node_controlled_by node_terminated_by node_handled_by node_introduced_by system_lock_call system_wait_for_lock system_behind_sync system_go_on_call system_call_received system_connect system_delivered system_slowed system_waited_for system_booted system_called system_fired_next system_ticked system_is_ticked system_down_told system_taken_down system_ended system_stopped system_join system_has_seen system_boot_next system_made system_rested system_forgotten system_told system_after system_take_lock system_gone system_handled system_work system_mailed
made_is = refl

wait_is : live_wait ≡ live_last
wait_is = ap (made_by (call.Step (event.Start b web Temporary))) live_is ∙ made_is

room_wait : HasRoom sim_wait live_wait
room_wait = record {
  steps = subst (λ (s : SimView). s.cursor < trail_limit)
      (sym (sim_is ∙ ap (λ (s : SimView). with_event s (event.Start b web Temporary)) three_is)) (omega arith);
  calls = subst (λ (l : LiveSimView). (net_in l).last_call < 4000000000) (sym wait_is) (omega arith);
}

-- ---- and is permitted there again

permits_then : ChangesNoMore state_wait b web true
unfolding configured nodes_of apps_of
permits_then = record {
  app = omega arith;
  up = refl;
  spread = refl;
  runs_not = λ no. absurd (true≢false no);
  stays = λ is. inl refl;
}

sees_first : (k : ℕ) → is_alive_at (held live_last) (numbered k) ≡ true → (1 == k || are_linked b (numbered k) ((b, a) ∷ [])) ≡ true
unfolding forgotten
sees_first zero alive = refl
sees_first (suc zero) alive = refl
sees_first (suc (suc zero)) alive = absurd (false≢true alive)
sees_first (suc (suc (suc k))) alive = absurd (false≢true alive)

found_then : IsFoundThen (own_at (held live_last) b) b web waiting_dist
unfolding forgotten
found_then = record { not_here = refl; elsewhere = record { at = a; found = inl (refl, refl, refl) } }

finds_then : FindsElsewhereLive live_last b web
unfolding forgotten
finds_then = record {
  own = refl;
  begun = refl;
  runs_not = refl;
  dist = waiting_dist;
  has = refl;
  takes_all = refl;
  finds = record {
    sees_list = record { synchronised = refl; sees = λ m among alive. sees_first m.0 alive };
    finds = λ d has is. subst (IsFoundThen (own_at (held live_last) b) b web) (same_Some waiting_dist d has) found_then;
  };
  stays = refl;
  few = omega arith;
}

find_row : IsLeftAlike (event.Permit b web true) sim_wait live_wait
find_row =
    finds_alike sim_wait live_wait b web together_wait room_wait at_rest_wait
    (subst (λ (s : StateView). ChangesNoMore s b web true) (sym wait_so) permits_then)
    (subst (λ (l : LiveSimView). FindsElsewhereLive l b web) (sym wait_is) finds_then)
