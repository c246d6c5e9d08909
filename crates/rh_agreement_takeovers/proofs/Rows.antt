-- Worked rows: of two nodes the first one runs a distributed application, and the second one, where it is started, too, takes it over;
-- where the first one is to take it over, and where it runs nowhere, that is refused.
use Rattle.std.proofs.Common.{◌≡◌, ◌<◌, ◌==◌, ◌||◌, ◌∙◌, ℕ, zero, suc, true, false, None, Some, [], ◌∷◌, refl, sym, ap, subst, arith}
use Rattle.std.proofs.lemmas.Bool.{false≢true}
use Rattle.std.proofs.lemmas.Option.{same_Some}
use Rattle.rh_model.specs.ClusterView.{numbered}
use Rattle.rh_model.specs.declared.settings.Restart.TheVariants.{Temporary}
use Rattle.rh_rules.specs.declared.event.Event.TheVariants as event
use Rattle.rh_rules.specs.declared.notice.Notice.TheVariants as notice
use Rattle.rh_rules.specs.declared.pick.Pick.TheVariants.{First}
use Rattle.rh_rules.specs.Moves.{local_moves, placements, takeovers, can_start, calls_away}
use Rattle.rh_rules.specs.NodesStart.{all_alive, is_ready, come_up_if_ready, ready_come_up}
use Rattle.rh_rules.specs.Marking.{with_mark}
use Rattle.rh_rules.specs.Placing.{deps_run, missing_dep, is_operational, candidates, best}
use Rattle.rh_rules.specs.Refusals.{refused}
use Rattle.rh_rules.specs.Settling.{next_moves, moved_by, all_moved}
use Rattle.rh_rules.specs.Steps.{followed, next}
use Rattle.rh_calls.specs.declared.call.Call.TheVariants as call
use Rattle.rh_calls.specs.declared.call.Reply.TheVariants as reply
use Rattle.rh_state.specs.First.{configured}
use Rattle.rh_state.specs.Numbers.{nodes_of, apps_of}
use Rattle.rh_state.specs.StateView.{StateView}
use Rattle.rh_step.specs.Runs.{step}
use Rattle.rh_trail.specs.Lone.{Served, served, with_event, trail_limit}
use Rattle.rh_trail.specs.SimView.{SimView, state_of}
use Rattle.rh_otp_controller.specs.Calls.{is_here}
use Rattle.rh_otp_dist.specs.declared.state.Standing.TheVariants as standing
use Rattle.rh_otp_dist.specs.State.{DistView}
use Rattle.rh_otp_model.specs.declared.fault.Outcome.TheVariants as outcome
use Rattle.rh_otp_model.specs.declared.output.Event.TheVariants as seen
use Rattle.rh_otp_model.specs.Rows.{keyfind}
use Rattle.rh_otp_node.specs.Live.{LiveView, is_alive}
use Rattle.rh_otp_sim.specs.Acting.{acted, acted_at_once, is_acted, is_quiet_at_once}
use Rattle.rh_otp_sim.specs.Calls.{made_by}
use Rattle.rh_otp_sim.specs.Refusing.{node_in}
use Rattle.rh_otp_sim.specs.Sim.{LiveSimView, net_in}
use Rattle.rh_otp_sim.specs.Stepping.{cells_behind, with_step}
use Rattle.rh_otp_system.specs.declared.calls.Ask.TheVariants as ask
use Rattle.rh_otp_system.specs.declared.calls.Stage.TheVariants as stage
use Rattle.rh_otp_system.specs.declared.cell.Cell.TheVariants as cell
use Rattle.rh_otp_system.specs.Resting.{forgotten}
use Rattle.rh_otp_system.specs.State.{SystemView, node_at}
use Rattle.rh_agreement.specs.Laws.{IsAnsweredAlike, HasRoom}
use Rattle.rh_agreement.specs.Resting.{held}
use Rattle.rh_agreement.proofs.Stepping.{manual}
use Rattle.rh_otp_controller.specs.Calls.{start as controller_start, stop as controller_stop, permit as controller_permit, top_ends as controller_top_ends}
use Rattle.rh_otp_controller.specs.Changes.{do_start as controller_do_start, change as controller_change, received as controller_received}
use Rattle.rh_otp_controller.specs.Starting.{spawn_starter as controller_spawn_starter, reply_to_requester as controller_reply_to_requester, has_started as controller_has_started, start_reply as controller_start_reply}
use Rattle.rh_otp_dist.specs.Attempts.{finish as dist_finish, runs_elsewhere as dist_runs_elsewhere}
use Rattle.rh_otp_dist.specs.Calls.{take_over as dist_take_over, permit as dist_permit, get_nodes as dist_get_nodes}
use Rattle.rh_otp_dist.specs.Choosing.{start_here as dist_start_here, is_to_start as dist_is_to_start, find_start_node as dist_find_start_node, start_distributed as dist_start_distributed, start_appl as dist_start_appl}
use Rattle.rh_otp_dist.specs.Down.{check_waiting as dist_check_waiting, node_down as dist_node_down}
use Rattle.rh_otp_dist.specs.Outside.{introduced_to as dist_introduced_to}
use Rattle.rh_otp_dist.specs.Received.{handle_next as dist_handle_next}
use Rattle.rh_otp_dist.specs.Sending.{del_t_reqs as dist_del_t_reqs}
use Rattle.rh_otp_dist.specs.Told.{run as dist_run, answer_ends as dist_answer_ends, not_run as dist_not_run, stopped as dist_stopped, new_node as dist_new_node, answer_permits as dist_answer_permits, app_started as dist_app_started, app_stopped as dist_app_stopped, weight_told as dist_weight_told, restart as dist_restart, new_permission as dist_new_permission}
use Rattle.rh_otp_net.specs.Links.{to_connect as net_to_connect}
use Rattle.rh_otp_node.specs.Turns.{controlled_by as node_controlled_by, terminated_by as node_terminated_by, handled_by as node_handled_by, introduced_by as node_introduced_by}
use Rattle.rh_otp_system.specs.Calling.{lock_call as system_lock_call, wait_for_lock as system_wait_for_lock, behind_sync as system_behind_sync, go_on_call as system_go_on_call, call_received as system_call_received}
use Rattle.rh_otp_system.specs.Connecting.{connect as system_connect}
use Rattle.rh_otp_system.specs.Delivering.{delivered as system_delivered, slowed as system_slowed}
use Rattle.rh_otp_system.specs.Doing.{waited_for as system_waited_for, booted as system_booted, called as system_called, fired_next as system_fired_next, ticked as system_ticked, is_ticked as system_is_ticked}
use Rattle.rh_otp_system.specs.Ending.{down_told as system_down_told, taken_down as system_taken_down, ended as system_ended, stopped as system_stopped}
use Rattle.rh_otp_system.specs.Joining.{join as system_join, has_seen as system_has_seen, boot_next as system_boot_next}
use Rattle.rh_otp_system.specs.Moves.{made as system_made}
use Rattle.rh_otp_system.specs.Resting.{rested as system_rested, forgotten as system_forgotten}
use Rattle.rh_otp_system.specs.Sending.{told as system_told, after as system_after}
use Rattle.rh_otp_system.specs.Working.{take_lock as system_take_lock, gone as system_gone, handled as system_handled, work as system_work, mailed as system_mailed}
use Rattle.rh_otp_controller.specs.declared.state.Place.TheVariants.{At}
use Rattle.rh_otp_net.specs.Links.{are_linked}
use Rattle.rh_agreement.specs.Telling.{GoTogether}
use Rattle.rh_agreement.specs.Resting.{AreBothAtRest}
use Rattle.rh_agreement_spread.proofs.RowsPair.{a, b, web, two, file}
use Rattle.rh_agreement_spread.proofs.WaitAlike.{waits_alike}
use Rattle.rh_rules.specs.declared.event.Event.{Event}
use Rattle.rh_model.specs.declared.settings.Restart.TheVariants.{Permanent}
use Rattle.rh_state.specs.declared.status.Kind.TheVariants.{Takeover}
use Rattle.rh_agreement_spread.proofs.RowsTwo.{state_two, state_two_is, sim_two, live_two, together_two, at_rest_two, dist_up, node_up, last_two}
use Rattle.rh_agreement_spread.proofs.RowsTwoCalls.{needs_none, sim_three, live_three, state_three, state_so, sim_is, running_node, running_dist, told_node, live_then, live_is, place_row, room_two, room_three, can_wait, can_wait_live}
use Rattle.rh_agreement_takeovers.specs.Takeovers.{CanBeTakenOver, CanBeTakenOverLive}
use Rattle.rh_agreement_takeovers.specs.Refused.{RefusesFor}
use Rattle.rh_agreement_takeovers.proofs.Alike.{takeovers_alike}
use Rattle.rh_agreement_takeovers.proofs.Refused.{takeovers_refused_alike}
use Rattle.rh_rules.specs.declared.refusal.Refusal.TheVariants.{RunsHere, NotRunning}

-- ---- it is started at the second node, too

abbrev pub waits_there : Event
waits_there = event.Start b web Temporary

abbrev pub sim_four : SimView
sim_four = (served sim_three (call.Step waits_there)).sim

abbrev pub live_four : LiveSimView
live_four = made_by (call.Step waits_there) live_three

pub wait_row : IsAnsweredAlike (call.Step waits_there) sim_three live_three
    × GoTogether sim_four live_four
    × AreBothAtRest sim_four live_four
    × ((served sim_three (call.Step waits_there)).reply ≡ reply.Done (notice.Waits web b ∷ []))
wait_row = waits_alike sim_three live_three b web Temporary place_row.1 room_three place_row.2 can_wait can_wait_live

-- ---- by the manual's rules it waits there

abbrev pub state_four : StateView
state_four = record state_three { waiting = [] ∷ (web ∷ []) ∷ [] }

start_is : step First state_three waits_there ≡ state_four
unfolding step next followed with_mark is_ready all_alive come_up_if_ready ready_come_up configured nodes_of apps_of local_moves placements
    takeovers can_start deps_run next_moves moved_by all_moved is_operational candidates best calls_away
start_is = refl

accepted : refused state_three waits_there ≡ None
unfolding refused missing_dep
accepted = refl

pub sim_four_is : sim_four ≡ with_event sim_three waits_there
sim_four_is =
    ap (λ (s : Served). s.sim)
    (manual sim_three waits_there (ap (λ (s : StateView). refused s waits_there) state_so ∙ accepted) room_three.steps)

pub state_four_is : state_of sim_four ≡ state_four
state_four_is =
    ap state_of sim_four_is
    ∙ ap (λ (s : SimView). state_of (with_event s waits_there)) sim_is
    ∙ ap (λ (s : StateView). step First s waits_there) (sym (ap state_of sim_is) ∙ state_so)
    ∙ start_is

can_take_then : CanBeTakenOver state_four b a web
unfolding deps_run configured nodes_of apps_of
can_take_then = record {
  runs = refl;
  other = λ is. omega (arith, is);
  up = refl;
  listed = refl;
  may = refl;
  needs = refl;
  unneeded = λ x waits. needs_none x.0;
}

pub can_take : CanBeTakenOver (state_of sim_four) b a web
can_take = subst (λ (s : StateView). CanBeTakenOver s b a web) (sym state_four_is) can_take_then

-- ---- and on live nodes

abbrev pub waiting_dist : DistView
waiting_dist = record (dist_up (a ∷ b ∷ [])) {
  started = web ∷ [];
  appls = record { standing = standing.Distributed a; losses = 0 } ∷ [];
}

abbrev pub waiting_node : LiveView
waiting_node = record (node_up (a ∷ b ∷ [])) {
  controller = record (node_up []).controller {
    running = (web, At a) ∷ [];
    started = (web, Some Temporary) ∷ [];
  };
  dist = Some waiting_dist;
}

abbrev last_four : SystemView
last_four = record {
  cluster = two;
  files = file ∷ file ∷ [];
  nodes = record {
    base = cell.Node running_node ∷ cell.Node told_node ∷ cell.Net (net_in live_then) ∷ [];
    cells = cell.Node running_node ∷ cell.Node waiting_node ∷ cell.Net (net_in live_then) ∷ [];
  };
  clock = 0;
  step = 4;
  last_call = 2;
  alive = a ∷ b ∷ [];
  links = (b, a) ∷ [];
  locks = [];
  timers = last_two.timers;
  calls = record {
    number = 2;
    ask = ask.Start Temporary;
    node = b;
    life = 1;
    app = web;
    only_loaded = false;
    stage = stage.Done outcome.Done;
  } ∷ [];
  asleep = [];
  told = [];
  messages = [];
  slow = [];
  answers = [];
  events = seen.Answered 2 ∷ [];
  is_ticking = false;
  ends_soon = false;
}

abbrev pub live_waiting : LiveSimView
live_waiting = with_step (cells_behind (net_in live_then) 2 last_four) live_then

live_waits : made_by (call.Step waits_there) live_then ≡ live_waiting
unfolding acted acted_at_once is_acted is_quiet_at_once controller_start controller_stop controller_permit controller_top_ends controller_do_start controller_change controller_received controller_spawn_starter controller_reply_to_requester controller_has_started controller_start_reply dist_finish dist_runs_elsewhere dist_take_over dist_permit dist_get_nodes dist_start_here dist_is_to_start dist_find_start_node dist_start_distributed dist_start_appl dist_check_waiting dist_node_down dist_introduced_to dist_handle_next dist_del_t_reqs dist_run dist_answer_ends dist_not_run dist_stopped dist_new_node dist_answer_permits dist_app_started dist_app_stopped dist_weight_told dist_restart dist_new_permission net_to_connect node_controlled_by node_terminated_by node_handled_by node_introduced_by system_lock_call system_wait_for_lock system_behind_sync system_go_on_call system_call_received system_connect system_delivered system_slowed system_waited_for system_booted system_called system_fired_next system_ticked system_is_ticked system_down_told system_taken_down system_ended system_stopped system_join system_has_seen system_boot_next system_made system_rested system_forgotten system_told system_after system_take_lock system_gone system_handled system_work system_mailed
live_waits = refl

pub live_four_is : live_four ≡ live_waiting
live_four_is = ap (made_by (call.Step waits_there)) live_is ∙ live_waits

second_dist : (k : ℕ) (d : DistView) → k ≡ 1 → (node_at (held live_waiting) (numbered k)).dist ≡ Some d → waiting_dist ≡ d
unfolding forgotten
second_dist zero d same has = absurd (omega (arith, same))
second_dist (suc zero) d same has = same_Some waiting_dist d has
second_dist (suc (suc k)) d same has = absurd (omega (arith, same))

-- the second node sees both that are alive
sees_both : (k : ℕ) → is_alive (node_in live_waiting (numbered k)) ≡ true → (1 == k || are_linked b (numbered k) ((b, a) ∷ [])) ≡ true
sees_both zero alive = refl
sees_both (suc zero) alive = refl
sees_both (suc (suc zero)) alive = absurd (false≢true alive)
sees_both (suc (suc (suc k))) alive = absurd (false≢true alive)

-- and no other one runs it
nobody_else : (k : ℕ) → (k ≡ 0 → ⊥) → is_here (keyfind web (node_in live_waiting (numbered k)).controller.running) ≡ false
nobody_else zero other = absurd (other refl)
nobody_else (suc zero) other = refl
nobody_else (suc (suc zero)) other = refl
nobody_else (suc (suc (suc k))) other = refl

can_take_live_then : CanBeTakenOverLive live_waiting b a web
unfolding forgotten
can_take_live_then = record {
  own = refl;
  started = refl;
  listed = refl;
  off = refl;
  unasked = refl;
  runs = refl;
  elsewhere = record {
    dist = waiting_dist;
    has = refl;
    takes_all = refl;
    synchronised = refl;
    elsewhere = refl;
    knows = refl;
    few = omega arith;
  };
  sees_all = record {
    takeovers = λ d has. ap (λ (x : DistView). x.t_reqs) (sym (second_dist 1 d refl has));
    sees = λ d has m among alive. sees_both m.0 alive;
  };
  stays = refl;
  gives_up = record {
    alive = refl;
    controlled = refl;
    started = refl;
    runs = refl;
    stays = refl;
    dist = running_dist;
    has = refl;
    takes_all = refl;
    started_too = refl;
  };
  nowhere = λ m other apart alive. nobody_else m.0 apart;
}

pub can_take_live : CanBeTakenOverLive live_four b a web
can_take_live = subst (λ (l : LiveSimView). CanBeTakenOverLive l b a web) (sym live_four_is) can_take_live_then

pub room_four : HasRoom sim_four live_four
room_four = record {
  steps = subst (λ (s : SimView). s.cursor < trail_limit) (sym sim_four_is)
      (subst (λ (s : SimView). (with_event s waits_there).cursor < trail_limit) (sym sim_is) (omega arith));
  calls = subst (λ (l : LiveSimView). (net_in l).last_call < 4000000000) (sym live_four_is) (omega arith);
}

-- ---- so the takeover is answered alike, and what is told of it

row : IsAnsweredAlike (call.Step (event.Takeover b web Permanent)) sim_four live_four
    × ((served sim_four (call.Step (event.Takeover b web Permanent))).reply
    ≡ reply.Done (notice.Started web b (Takeover a) None ∷ notice.Stopped web a ∷ []))
row =
    let all = takeovers_alike sim_four live_four b a web Permanent wait_row.1 room_four wait_row.2 can_take can_take_live in
    (all.0, all.3)

-- ---- a takeover where it runs, and one where it runs nowhere, are refused alike

refuses_first : RefusesFor RunsHere web (node_in live_waiting a)
refuses_first = record { dist = running_dist; has = refl; takes_all = refl; synchronised = refl; refuses = refl }

runs_here : refused state_four (event.Takeover a web Permanent) ≡ Some RunsHere
unfolding refused
runs_here = refl

here_row : IsAnsweredAlike (call.Step (event.Takeover a web Permanent)) sim_four live_four
here_row =
    (takeovers_refused_alike sim_four live_four a web Permanent RunsHere wait_row.1 room_four wait_row.2
    (ap (λ (s : StateView). refused s (event.Takeover a web Permanent)) state_four_is ∙ runs_here)
    (subst (λ (l : LiveSimView). RefusesFor RunsHere web (node_in l a)) (sym live_four_is) refuses_first)).0

refuses_both : RefusesFor NotRunning web (node_in live_two b)
refuses_both = record { dist = dist_up (a ∷ b ∷ []); has = refl; takes_all = refl; synchronised = refl; refuses = refl }

runs_nowhere : refused state_two (event.Takeover b web Permanent) ≡ Some NotRunning
unfolding refused
runs_nowhere = refl

nowhere_row : IsAnsweredAlike (call.Step (event.Takeover b web Permanent)) sim_two live_two
nowhere_row =
    (takeovers_refused_alike sim_two live_two b web Permanent NotRunning together_two room_two at_rest_two
    (ap (λ (s : StateView). refused s (event.Takeover b web Permanent)) state_two_is ∙ runs_nowhere) refuses_both).0
