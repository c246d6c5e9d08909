-- A permit that the law is of: of two nodes that are up the second one may not run a distributed application, and the first one was
-- forbidden it where it ran; it waits there, and starts where the first one is permitted it again.
use Rattle.std.proofs.Common.{◌≡◌, ◌<◌, ◌==◌, ◌||◌, ◌∙◌, ℕ, zero, suc, true, false, None, Some, [], ◌∷◌, refl, sym, ap, subst, arith}
use Rattle.std.proofs.lemmas.Bool.{false≢true}
use Rattle.std.proofs.lemmas.Option.{same_Some}
use Rattle.rh_model.specs.ClusterView.{numbered}
use Rattle.rh_model.specs.declared.settings.Restart.TheVariants.{Temporary}
use Rattle.rh_rules.specs.declared.event.Event.TheVariants as event
use Rattle.rh_rules.specs.declared.notice.Notice.TheVariants as notice
use Rattle.rh_rules.specs.declared.pick.Pick.TheVariants.{First}
use Rattle.rh_rules.specs.ByHand.{permitted, forbidden}
use Rattle.rh_rules.specs.Moves.{local_moves, placements, takeovers, can_start, calls_away}
use Rattle.rh_rules.specs.NodesStart.{all_alive, is_ready, come_up_if_ready, ready_come_up}
use Rattle.rh_rules.specs.Placing.{deps_run, is_operational, candidates, best}
use Rattle.rh_rules.specs.Refusals.{refused}
use Rattle.rh_rules.specs.Settling.{next_moves, moved_by, all_moved}
use Rattle.rh_rules.specs.Steps.{followed, next}
use Rattle.rh_calls.specs.declared.call.Call.TheVariants as call
use Rattle.rh_calls.specs.declared.call.Reply.TheVariants as reply
use Rattle.rh_state.specs.declared.status.Kind.TheVariants as kind
use Rattle.rh_state.specs.declared.status.Standing.TheVariants.{Wanted}
use Rattle.rh_state.specs.First.{configured}
use Rattle.rh_state.specs.Numbers.{nodes_of, apps_of}
use Rattle.rh_state.specs.StateView.{StateView}
use Rattle.rh_step.specs.Runs.{step}
use Rattle.rh_trail.specs.Lone.{Served, served, with_event, trail_limit}
use Rattle.rh_trail.specs.SimView.{SimView, state_of}
use Rattle.rh_otp_controller.specs.declared.state.Place.TheVariants.{Nowhere}
use Rattle.rh_otp_controller.specs.Calls.{is_here}
use Rattle.rh_otp_dist.specs.declared.state.Standing.TheVariants as standing
use Rattle.rh_otp_dist.specs.State.{DistView}
use Rattle.rh_otp_model.specs.declared.fault.Outcome.TheVariants as outcome
use Rattle.rh_otp_model.specs.declared.output.Event.TheVariants as seen
use Rattle.rh_otp_model.specs.Rows.{keyfind}
use Rattle.rh_otp_moves.specs.Starting.{IsChosenThen}
use Rattle.rh_otp_net.specs.Links.{are_linked}
use Rattle.rh_otp_node.specs.Live.{LiveView}
use Rattle.rh_otp_sim.specs.Acting.{acted, acted_at_once, is_acted, is_quiet_at_once}
use Rattle.rh_otp_sim.specs.Calls.{made_by}
use Rattle.rh_otp_sim.specs.Refusing.{node_in}
use Rattle.rh_otp_sim.specs.Sim.{LiveSimView, net_in}
use Rattle.rh_otp_sim.specs.Stepping.{cells_behind, with_step}
use Rattle.rh_otp_system.specs.declared.calls.Ask.TheVariants as ask
use Rattle.rh_otp_system.specs.declared.calls.Stage.TheVariants as stage
use Rattle.rh_otp_system.specs.declared.cell.Cell.TheVariants as cell
use Rattle.rh_otp_system.specs.Resting.{forgotten}
use Rattle.rh_otp_system.specs.State.{SystemView, is_alive_at, own_at}
use Rattle.rh_agreement.specs.Telling.{GoTogether}
use Rattle.rh_agreement.specs.Laws.{IsAnsweredAlike, HasRoom}
use Rattle.rh_agreement.specs.Resting.{AreBothAtRest, held}
use Rattle.rh_agreement.proofs.Stepping.{manual}
use Rattle.rh_agreement_spread.proofs.RowsPair.{a, b, web, two, file}
use Rattle.rh_agreement_spread.proofs.RowsTwo.{sim_two, last_two}
use Rattle.rh_agreement_spread.proofs.RowsTwoCalls.{sim_is as three_is, needs_none}
use Rattle.rh_agreement_permits.proofs.Rows.{sim_four, live_four, state_four, first_dist, second_dist, first_node, second_node, live_last, four_so, four_is, room_four, stop_row}
use Rattle.rh_agreement_permits.proofs.Rows as permits
use Rattle.rh_agreement_grants.specs.Grants.{StartsOncePermitted, StartsOncePermittedLive}
use Rattle.rh_agreement_grants.proofs.Alike.{grants_alike}
use Rattle.rh_otp_controller.specs.Calls.{start as controller_start, stop as controller_stop, permit as controller_permit, top_ends as controller_top_ends}
use Rattle.rh_otp_controller.specs.Changes.{do_start as controller_do_start, change as controller_change, received as controller_received}
use Rattle.rh_otp_controller.specs.Starting.{spawn_starter as controller_spawn_starter, reply_to_requester as controller_reply_to_requester, has_started as controller_has_started, start_reply as controller_start_reply}
use Rattle.rh_otp_dist.specs.Attempts.{finish as dist_finish, runs_elsewhere as dist_runs_elsewhere}
use Rattle.rh_otp_dist.specs.Calls.{take_over as dist_take_over, permit as dist_permit, get_nodes as dist_get_nodes}
use Rattle.rh_otp_dist.specs.Choosing.{start_here as dist_start_here, is_to_start as dist_is_to_start, find_start_node as dist_find_start_node, start_distributed as dist_start_distributed, start_appl as dist_start_appl}
use Rattle.rh_otp_dist.specs.Down.{check_waiting as dist_check_waiting, node_down as dist_node_down}
use Rattle.rh_otp_dist.specs.Outside.{introduced_to as dist_introduced_to}
use Rattle.rh_otp_dist.specs.Received.{handle_next as dist_handle_next}
use Rattle.rh_otp_dist.specs.Sending.{del_t_reqs as dist_del_t_reqs}
use Rattle.rh_otp_dist.specs.Told.{run as dist_run, answer_ends as dist_answer_ends, not_run as dist_not_run, stopped as dist_stopped, new_node as dist_new_node, answer_permits as dist_answer_permits, app_started as dist_app_started, app_stopped as dist_app_stopped, weight_told as dist_weight_told, restart as dist_restart, new_permission as dist_new_permission}
use Rattle.rh_otp_net.specs.Links.{to_connect as net_to_connect}
use Rattle.rh_otp_node.specs.Turns.{controlled_by as node_controlled_by, terminated_by as node_terminated_by, handled_by as node_handled_by, introduced_by as node_introduced_by}
use Rattle.rh_otp_system.specs.Calling.{lock_call as system_lock_call, wait_for_lock as system_wait_for_lock, behind_sync as system_behind_sync, go_on_call as system_go_on_call, call_received as system_call_received}
use Rattle.rh_otp_system.specs.Connecting.{connect as system_connect}
use Rattle.rh_otp_system.specs.Delivering.{delivered as system_delivered, slowed as system_slowed}
use Rattle.rh_otp_system.specs.Doing.{waited_for as system_waited_for, booted as system_booted, called as system_called, fired_next as system_fired_next, ticked as system_ticked, is_ticked as system_is_ticked}
use Rattle.rh_otp_system.specs.Ending.{down_told as system_down_told, taken_down as system_taken_down, ended as system_ended, stopped as system_stopped}
use Rattle.rh_otp_system.specs.Joining.{join as system_join, has_seen as system_has_seen, boot_next as system_boot_next}
use Rattle.rh_otp_system.specs.Moves.{made as system_made}
use Rattle.rh_otp_system.specs.Resting.{rested as system_rested, forgotten as system_forgotten}
use Rattle.rh_otp_system.specs.Sending.{told as system_told, after as system_after}
use Rattle.rh_otp_system.specs.Working.{take_lock as system_take_lock, gone as system_gone, handled as system_handled, work as system_work, mailed as system_mailed}

-- ---- the first node is forbidden it, where it ran

abbrev pub sim_five : SimView
sim_five = (served sim_four (call.Step (event.Permit a web false))).sim

abbrev pub live_five : LiveSimView
live_five = made_by (call.Step (event.Permit a web false)) live_four

abbrev pub state_five : StateView
state_five = record state_four {
  running = [] ∷ [] ∷ [];
  waiting = (web ∷ []) ∷ [] ∷ [];
  allowed = (false ∷ []) ∷ (false ∷ []) ∷ [];
  standings = Wanted None ∷ [];
}

forbid_is : step First state_four (event.Permit a web false) ≡ state_five
unfolding step next followed permitted forbidden is_ready all_alive come_up_if_ready ready_come_up configured nodes_of apps_of local_moves
    placements takeovers can_start deps_run next_moves moved_by all_moved is_operational candidates best calls_away
forbid_is = refl

accepted : refused state_four (event.Permit a web false) ≡ None
unfolding refused
accepted = refl

sim_is : sim_five ≡ with_event sim_four (event.Permit a web false)
sim_is =
    ap (λ (s : Served). s.sim)
    (manual sim_four (event.Permit a web false)
    (ap (λ (s : StateView). refused s (event.Permit a web false)) four_so ∙ accepted) room_four.steps)

abbrev on_explicit : SimView → SimView
on_explicit s = with_event s (event.Permit a web false)

four_explicit : sim_four ≡ with_event (with_event sim_two (event.Start a web Temporary)) (event.Permit b web false)
four_explicit = permits.sim_is ∙ ap (λ (s : SimView). with_event s (event.Permit b web false)) three_is

pub five_so : state_of sim_five ≡ state_five
five_so =
    ap state_of (sim_is ∙ ap on_explicit four_explicit)
    ∙ ap (λ (s : StateView). step First s (event.Permit a web false)) (ap state_of (sym four_explicit) ∙ four_so) ∙ forbid_is

-- ---- and on live nodes

abbrev waiting_dist : DistView
waiting_dist = record first_dist {
  appls = record { standing = standing.Undefined; losses = 0 } ∷ [];
  may = (false ∷ []) ∷ (false ∷ []) ∷ [];
}

abbrev waiting_node : LiveView
waiting_node = record first_node {
  controller = record first_node.controller { running = (web, Nowhere) ∷ []; permissions = (web, false) ∷ [] };
  dist = Some waiting_dist;
}

abbrev told_dist : DistView
told_dist = record second_dist { remote_started = []; may = (false ∷ []) ∷ (false ∷ []) ∷ [] }

abbrev told_node : LiveView
told_node = record second_node { dist = Some told_dist }

abbrev last_five : SystemView
last_five = record {
  cluster = two;
  files = file ∷ file ∷ [];
  nodes = record {
    base = cell.Node first_node ∷ cell.Node second_node ∷ cell.Net (net_in live_last) ∷ [];
    cells = cell.Node waiting_node ∷ cell.Node told_node ∷ cell.Net (net_in live_last) ∷ [];
  };
  clock = 0;
  step = 5;
  last_call = 3;
  alive = a ∷ b ∷ [];
  links = (b, a) ∷ [];
  locks = [];
  timers = last_two.timers;
  calls = record {
    number = 3;
    ask = ask.Permit false;
    node = a;
    life = 1;
    app = web;
    only_loaded = false;
    stage = stage.Done outcome.Done;
  } ∷ [];
  asleep = [];
  told = [];
  messages = [];
  slow = [];
  answers = [];
  events = seen.Stopped web a ∷ seen.Answered 3 ∷ [];
  is_ticking = false;
  ends_soon = false;
}

abbrev pub live_now : LiveSimView
live_now = with_step (cells_behind (net_in live_last) 2 last_five) live_last

made_is : made_by (call.Step (event.Permit a web false)) live_last ≡ live_now
unfolding acted acted_at_once is_acted is_quiet_at_once controller_start controller_stop controller_permit controller_top_ends controller_do_start controller_change controller_received controller_spawn_starter controller_reply_to_requester controller_has_started controller_start_reply dist_finish dist_runs_elsewhere dist_take_over dist_permit dist_get_nodes dist_start_here dist_is_to_start dist_find_start_node dist_start_distributed dist_start_appl dist_check_waiting dist_node_down dist_introduced_to dist_handle_next dist_del_t_reqs dist_run dist_answer_ends dist_not_run dist_stopped dist_new_node dist_answer_permits dist_app_started dist_app_stopped dist_weight_told dist_restart dist_new_permission net_to_connect node_controlled_by node_terminated_by node_handled_by node_introduced_by system_lock_call system_wait_for_lock system_behind_sync system_go_on_call system_call_received system_connect system_delivered system_slowed system_waited_for system_booted system_called system_fired_next system_ticked system_is_ticked system_down_told system_taken_down system_ended system_stopped system_join system_has_seen system_boot_next system_made system_rested system_forgotten system_told system_after system_take_lock system_gone system_handled system_work system_mailed
made_is = refl

pub five_is : live_five ≡ live_now
five_is = ap (made_by (call.Step (event.Permit a web false))) four_is ∙ made_is

pub room_five : HasRoom sim_five live_five
room_five = record {
  steps = subst (λ (s : SimView). s.cursor < trail_limit) (sym (sim_is ∙ ap on_explicit four_explicit)) (omega arith);
  calls = subst (λ (l : LiveSimView). (net_in l).last_call < 4000000000) (sym five_is) (omega arith);
}

-- ---- the first node is permitted it, and it starts there

pub grants_then : StartsOncePermitted state_five a web None
unfolding deps_run
grants_then = record { wanted = refl; waits = refl; needs = refl; normal = refl; unneeded = λ x waits. needs_none x.0 }

sees_second : (k : ℕ) → is_alive_at (held live_now) (numbered k) ≡ true → (0 == k || are_linked a (numbered k) ((b, a) ∷ [])) ≡ true
unfolding forgotten
sees_second zero alive = refl
sees_second (suc zero) alive = refl
sees_second (suc (suc zero)) alive = absurd (false≢true alive)
sees_second (suc (suc (suc k))) alive = absurd (false≢true alive)

runs_nowhere : (k : ℕ) → is_here (keyfind web (node_in live_now (numbered k)).controller.running) ≡ false
runs_nowhere zero = refl
runs_nowhere (suc zero) = refl
runs_nowhere (suc (suc zero)) = refl
runs_nowhere (suc (suc (suc k))) = refl

chosen_then : IsChosenThen (own_at (held live_now) a) a web waiting_dist
unfolding forgotten
chosen_then = record { not_here = refl; chosen = record { first = refl; not_yet = refl } }

pub grants_live : StartsOncePermittedLive live_now a web
unfolding forgotten
grants_live = record {
  own = refl;
  started = refl;
  off = refl;
  unasked = refl;
  runs = refl;
  dist = waiting_dist;
  has = refl;
  takes_all = refl;
  unknown = refl;
  starts = record {
    sees_list = record { synchronised = refl; sees = λ m among alive. sees_second m.0 alive };
    chooses = λ d has is. subst (IsChosenThen (own_at (held live_now) a) a web) (same_Some waiting_dist d has) chosen_then;
    sees_all = record {
      takeovers = λ d has. ap (λ (x : DistView). x.t_reqs) (sym (same_Some waiting_dist d has));
      sees = λ d has m among alive. sees_second m.0 alive;
    };
  };
  stays = refl;
  nowhere = λ m other alive. runs_nowhere m.0;
  few = omega arith;
}

grant_row : IsAnsweredAlike (call.Step (event.Permit a web true)) sim_five live_five
    × GoTogether (served sim_five (call.Step (event.Permit a web true))).sim (made_by (call.Step (event.Permit a web true)) live_five)
    × AreBothAtRest (served sim_five (call.Step (event.Permit a web true))).sim (made_by (call.Step (event.Permit a web true)) live_five)
    × ((served sim_five (call.Step (event.Permit a web true))).reply ≡ reply.Done (notice.Started web a kind.Normal None ∷ []))
grant_row =
    grants_alike sim_five live_five a web None stop_row.1 room_five stop_row.2
    (subst (λ (s : StateView). StartsOncePermitted s a web None) (sym five_so) grants_then)
    (subst (λ (l : LiveSimView). StartsOncePermittedLive l a web) (sym five_is) grants_live)
