-- Worked rows of two nodes that are up: a distributed application starts at the first one, and then waits at the second, or is stopped at
-- the first.
use Rattle.std.proofs.Common.{◌≡◌, ◌<◌, ◌+◌, ◌==◌, ◌||◌, ◌∙◌, ℕ, zero, suc, true, false, None, Some, [], ◌∷◌, length, refl, sym, ap, subst, inl, arith}
use Rattle.std.specs.List.{list_any}
use Rattle.std.proofs.lemmas.Bool.{false≢true}
use Rattle.std.proofs.lemmas.Option.{same_Some}
use Rattle.rh_model.specs.ClusterView.{app_numbered, deps_of, numbered}
use Rattle.rh_model.specs.declared.settings.Restart.TheVariants.{Temporary}
use Rattle.rh_rules.specs.declared.event.Event.TheVariants as event
use Rattle.rh_rules.specs.declared.notice.Notice.TheVariants as notice
use Rattle.rh_rules.specs.declared.pick.Pick.TheVariants.{First}
use Rattle.rh_rules.specs.Moves.{local_moves, placements, takeovers, can_start, calls_away}
use Rattle.rh_rules.specs.NodesStart.{all_alive, is_ready, come_up_if_ready, ready_come_up}
use Rattle.rh_rules.specs.Marking.{with_mark}
use Rattle.rh_rules.specs.Placing.{deps_run, missing_dep, is_operational, candidates, best}
use Rattle.rh_rules.specs.Refusals.{refused}
use Rattle.rh_rules.specs.Settling.{next_moves, moved_by, all_moved}
use Rattle.rh_rules.specs.Steps.{followed, next}
use Rattle.rh_calls.specs.declared.call.Call.TheVariants as call
use Rattle.rh_calls.specs.declared.call.Reply.TheVariants as reply
use Rattle.rh_state.specs.declared.status.Kind.TheVariants.{Normal}
use Rattle.rh_state.specs.First.{configured}
use Rattle.rh_state.specs.Numbers.{nodes_of, apps_of}
use Rattle.rh_state.specs.StateView.{StateView}
use Rattle.rh_step.specs.Runs.{step}
use Rattle.rh_trail.specs.Lone.{Served, served, with_event, trail_limit}
use Rattle.rh_trail.specs.SimView.{SimView, state_of}
use Rattle.rh_otp_controller.specs.Calls.{is_here}
use Rattle.rh_otp_dist.specs.declared.state.Standing.TheVariants as standing
use Rattle.rh_otp_dist.specs.State.{DistView}
use Rattle.rh_otp_model.specs.declared.fault.Outcome.TheVariants as outcome
use Rattle.rh_otp_model.specs.declared.output.Event.TheVariants as seen
use Rattle.rh_otp_model.specs.Rows.{keyfind}
use Rattle.rh_otp_node.specs.Live.{LiveView, is_alive}
use Rattle.rh_otp_sim.specs.Acting.{acted, acted_at_once, is_acted, is_quiet_at_once}
use Rattle.rh_otp_sim.specs.Calls.{made_by}
use Rattle.rh_otp_sim.specs.Refusing.{node_in}
use Rattle.rh_otp_sim.specs.Sim.{LiveSimView, net_in}
use Rattle.rh_otp_sim.specs.Stepping.{cells_behind, with_step}
use Rattle.rh_otp_system.specs.declared.calls.Ask.TheVariants as ask
use Rattle.rh_otp_system.specs.declared.calls.Stage.TheVariants as stage
use Rattle.rh_otp_system.specs.declared.cell.Cell.TheVariants as cell
use Rattle.rh_otp_system.specs.Resting.{forgotten}
use Rattle.rh_otp_system.specs.State.{SystemView, node_at}
use Rattle.rh_agreement.specs.Laws.{IsAnsweredAlike, HasRoom}
use Rattle.rh_agreement.specs.Resting.{held}
use Rattle.rh_agreement.proofs.Stepping.{manual}
use Rattle.rh_agreement_calls.specs.Starts.{is_dep}
use Rattle.rh_agreement_spread.specs.Starts.{CanBePlaced, CanBePlacedLive}
use Rattle.rh_agreement_spread.proofs.StartAlike.{starts_alike}
use Rattle.rh_otp_controller.specs.Calls.{start as controller_start, stop as controller_stop, permit as controller_permit, top_ends as controller_top_ends}
use Rattle.rh_otp_controller.specs.Changes.{do_start as controller_do_start, change as controller_change, received as controller_received}
use Rattle.rh_otp_controller.specs.Starting.{spawn_starter as controller_spawn_starter, reply_to_requester as controller_reply_to_requester, has_started as controller_has_started, start_reply as controller_start_reply}
use Rattle.rh_otp_dist.specs.Attempts.{finish as dist_finish, runs_elsewhere as dist_runs_elsewhere}
use Rattle.rh_otp_dist.specs.Calls.{take_over as dist_take_over, permit as dist_permit, get_nodes as dist_get_nodes}
use Rattle.rh_otp_dist.specs.Choosing.{start_here as dist_start_here, is_to_start as dist_is_to_start, find_start_node as dist_find_start_node, start_distributed as dist_start_distributed, start_appl as dist_start_appl}
use Rattle.rh_otp_dist.specs.Down.{check_waiting as dist_check_waiting, node_down as dist_node_down}
use Rattle.rh_otp_dist.specs.Outside.{introduced_to as dist_introduced_to}
use Rattle.rh_otp_dist.specs.Received.{handle_next as dist_handle_next}
use Rattle.rh_otp_dist.specs.Sending.{del_t_reqs as dist_del_t_reqs}
use Rattle.rh_otp_dist.specs.Told.{run as dist_run, answer_ends as dist_answer_ends, not_run as dist_not_run, stopped as dist_stopped, new_node as dist_new_node, answer_permits as dist_answer_permits, app_started as dist_app_started, app_stopped as dist_app_stopped, weight_told as dist_weight_told, restart as dist_restart, new_permission as dist_new_permission}
use Rattle.rh_otp_net.specs.Links.{to_connect as net_to_connect}
use Rattle.rh_otp_node.specs.Turns.{controlled_by as node_controlled_by, terminated_by as node_terminated_by, handled_by as node_handled_by, introduced_by as node_introduced_by}
use Rattle.rh_otp_system.specs.Calling.{lock_call as system_lock_call, wait_for_lock as system_wait_for_lock, behind_sync as system_behind_sync, go_on_call as system_go_on_call, call_received as system_call_received}
use Rattle.rh_otp_system.specs.Connecting.{connect as system_connect}
use Rattle.rh_otp_system.specs.Delivering.{delivered as system_delivered, slowed as system_slowed}
use Rattle.rh_otp_system.specs.Doing.{waited_for as system_waited_for, booted as system_booted, called as system_called, fired_next as system_fired_next, ticked as system_ticked, is_ticked as system_is_ticked}
use Rattle.rh_otp_system.specs.Ending.{down_told as system_down_told, taken_down as system_taken_down, ended as system_ended, stopped as system_stopped}
use Rattle.rh_otp_system.specs.Joining.{join as system_join, has_seen as system_has_seen, boot_next as system_boot_next}
use Rattle.rh_otp_system.specs.Moves.{made as system_made}
use Rattle.rh_otp_system.specs.Resting.{rested as system_rested, forgotten as system_forgotten}
use Rattle.rh_otp_system.specs.Sending.{told as system_told, after as system_after}
use Rattle.rh_otp_system.specs.Working.{take_lock as system_take_lock, gone as system_gone, handled as system_handled, work as system_work, mailed as system_mailed}
use Rattle.rh_state.specs.declared.status.Standing.TheVariants.{Running}
use Rattle.rh_state.specs.StateView.{runs_at}
use Rattle.rh_otp_controller.specs.declared.state.Place.TheVariants.{Here}
use Rattle.rh_otp_model.specs.declared.process.StartType.TheVariants as kind
use Rattle.rh_otp_net.specs.Links.{are_linked}
use Rattle.rh_otp_sim.specs.Acting.{most_moves}
use Rattle.rh_agreement.specs.Telling.{GoTogether}
use Rattle.rh_agreement.specs.Resting.{AreBothAtRest}
use Rattle.rh_agreement_calls.specs.Stops.{IsStoppedAlike}
use Rattle.rh_agreement_spread.specs.Stops.{CanEndThere, RunsOnBoth}
use Rattle.rh_agreement_spread.specs.Waits.{CanWait, CanWaitLive}
use Rattle.rh_agreement_spread.proofs.RowsPair.{a, b, web, two, file}
use Rattle.rh_agreement_spread.proofs.RowsTwo.{state_two, state_two_is, sim_two, live_two, dist_up, node_up, last_two, together_two, at_rest_two}
use Rattle.rh_agreement_spread.proofs.StopAlike.{stops_alike}
use Rattle.rh_agreement_spread.proofs.WaitAlike.{waits_alike}

-- ---- it can start at the first node on both sides

none_else : (k : ℕ) → is_operational state_two web (numbered k) ≡ false
unfolding is_operational
none_else zero = refl
none_else (suc zero) = refl
none_else (suc (suc k)) = refl

pub needs_none : (k : ℕ) → list_any (is_dep web) (deps_of two (app_numbered k)) ≡ false
needs_none zero = refl
needs_none (suc k) = refl

can_two : CanBePlaced state_two a web
unfolding deps_run configured nodes_of apps_of
can_two = record {
  app = omega arith;
  up = refl;
  spread = refl;
  listed = refl;
  quiet = refl;
  off = refl;
  may = refl;
  needs = refl;
  first = λ m is. absurd (false≢true (sym (none_else m.0) ∙ is));
  unneeded = λ x waits. needs_none x.0;
}

pub can_place : CanBePlaced (state_of sim_two) a web
can_place = subst (λ (s : StateView). CanBePlaced s a web) (sym state_two_is) can_two

first_dist : (k : ℕ) (d : DistView) → k ≡ 0 → (node_at (held live_two) (numbered k)).dist ≡ Some d → dist_up (b ∷ a ∷ []) ≡ d
unfolding forgotten
first_dist zero d same has = same_Some (dist_up (b ∷ a ∷ [])) d has
first_dist (suc k) d same has = absurd (omega (arith, same))

-- the first node sees both that are alive
sees_both : (k : ℕ) → is_alive (node_in live_two (numbered k)) ≡ true → (0 == k || are_linked a (numbered k) ((b, a) ∷ [])) ≡ true
sees_both zero alive = refl
sees_both (suc zero) alive = refl
sees_both (suc (suc zero)) alive = absurd (false≢true alive)
sees_both (suc (suc (suc k))) alive = absurd (false≢true alive)

nobody_two : (k : ℕ) → is_here (keyfind web (node_in live_two (numbered k)).controller.running) ≡ false
nobody_two zero = refl
nobody_two (suc zero) = refl
nobody_two (suc (suc zero)) = refl
nobody_two (suc (suc (suc k))) = refl

pub can_place_live : CanBePlacedLive live_two a web
unfolding forgotten
can_place_live = record {
  own = refl;
  off = refl;
  unasked = refl;
  started = refl;
  runs = refl;
  chosen = record {
    dist = dist_up (b ∷ a ∷ []);
    has = refl;
    takes_all = refl;
    unknown = refl;
    nobody = refl;
    first = refl;
    few = omega arith;
  };
  sees_all = record {
    takeovers = λ d has. ap (λ (x : DistView). x.t_reqs) (sym (first_dist 0 d refl has));
    sees = λ d has m among alive. sees_both m.0 alive;
  };
  stays = refl;
  nowhere = λ m other alive. nobody_two m.0;
}

pub room_two : HasRoom sim_two live_two
room_two = record { steps = omega arith; calls = omega arith }

abbrev pub sim_three : SimView
sim_three = (served sim_two (call.Step (event.Start a web Temporary))).sim

abbrev pub live_three : LiveSimView
live_three = made_by (call.Step (event.Start a web Temporary)) live_two

pub place_row : IsAnsweredAlike (call.Step (event.Start a web Temporary)) sim_two live_two
    × GoTogether sim_three live_three
    × AreBothAtRest sim_three live_three
    × ((served sim_two (call.Step (event.Start a web Temporary))).reply ≡ reply.Done (notice.Started web a Normal None ∷ []))
place_row = starts_alike sim_two live_two a web Temporary together_two room_two at_rest_two can_place can_place_live

-- ---- behind it, by the manual's rules

abbrev pub state_three : StateView
state_three = record state_two { running = (web ∷ []) ∷ [] ∷ []; standings = Running a ∷ [] }

start_is : step First state_two (event.Start a web Temporary) ≡ state_three
unfolding step next followed with_mark is_ready all_alive come_up_if_ready ready_come_up configured nodes_of apps_of local_moves placements
    takeovers can_start deps_run next_moves moved_by all_moved is_operational candidates best calls_away
start_is = refl

accepted : refused state_two (event.Start a web Temporary) ≡ None
unfolding refused missing_dep
accepted = refl

pub sim_is : sim_three ≡ with_event sim_two (event.Start a web Temporary)
sim_is =
    ap (λ (s : Served). s.sim)
    (manual sim_two (event.Start a web Temporary)
    (ap (λ (s : StateView). refused s (event.Start a web Temporary)) state_two_is ∙ accepted) (omega arith))

pub state_so : state_of sim_three ≡ state_three
state_so = ap state_of sim_is ∙ ap (λ (s : StateView). step First s (event.Start a web Temporary)) state_two_is ∙ start_is

-- ---- and on live nodes

abbrev pub running_dist : DistView
running_dist = record (dist_up (b ∷ a ∷ [])) {
  started = web ∷ [];
  appls = record { standing = standing.Local; losses = 0 } ∷ [];
}

abbrev pub running_node : LiveView
running_node = record (node_up (b ∷ a ∷ [])) {
  controller = record (node_up []).controller {
    running = (web, Here) ∷ [];
    started = (web, Some Temporary) ∷ [];
  };
  dist = Some running_dist;
  kinds = (web, kind.Normal) ∷ [];
}

-- the second one knows where it runs
abbrev pub told_dist : DistView
told_dist = record (dist_up (a ∷ b ∷ [])) { remote_started = (web, a) ∷ [] }

abbrev pub told_node : LiveView
told_node = record (node_up (a ∷ b ∷ [])) { dist = Some told_dist }

abbrev pub last : SystemView
last = record {
  cluster = two;
  files = file ∷ file ∷ [];
  nodes = record {
    base = cell.Node (node_up (b ∷ a ∷ [])) ∷ cell.Node (node_up (a ∷ b ∷ [])) ∷ cell.Net (net_in live_two) ∷ [];
    cells = cell.Node running_node ∷ cell.Node told_node ∷ cell.Net (net_in live_two) ∷ [];
  };
  clock = 0;
  step = 3;
  last_call = 1;
  alive = a ∷ b ∷ [];
  links = (b, a) ∷ [];
  locks = [];
  timers = last_two.timers;
  calls = record {
    number = 1;
    ask = ask.Start Temporary;
    node = a;
    life = 1;
    app = web;
    only_loaded = false;
    stage = stage.Done outcome.Done;
  } ∷ [];
  asleep = [];
  told = [];
  messages = [];
  slow = [];
  answers = [];
  events = seen.Started web a kind.Normal ∷ seen.Answered 1 ∷ [];
  is_ticking = false;
  ends_soon = false;
}

pub live_is : live_three ≡ with_step (cells_behind (net_in live_two) 2 last) live_two
unfolding acted acted_at_once is_acted is_quiet_at_once controller_start controller_stop controller_permit controller_top_ends controller_do_start controller_change controller_received controller_spawn_starter controller_reply_to_requester controller_has_started controller_start_reply dist_finish dist_runs_elsewhere dist_take_over dist_permit dist_get_nodes dist_start_here dist_is_to_start dist_find_start_node dist_start_distributed dist_start_appl dist_check_waiting dist_node_down dist_introduced_to dist_handle_next dist_del_t_reqs dist_run dist_answer_ends dist_not_run dist_stopped dist_new_node dist_answer_permits dist_app_started dist_app_stopped dist_weight_told dist_restart dist_new_permission net_to_connect node_controlled_by node_terminated_by node_handled_by node_introduced_by system_lock_call system_wait_for_lock system_behind_sync system_go_on_call system_call_received system_connect system_delivered system_slowed system_waited_for system_booted system_called system_fired_next system_ticked system_is_ticked system_down_told system_taken_down system_ended system_stopped system_join system_has_seen system_boot_next system_made system_rested system_forgotten system_told system_after system_take_lock system_gone system_handled system_work system_mailed
live_is = refl

abbrev pub live_then : LiveSimView
live_then = with_step (cells_behind (net_in live_two) 2 last) live_two

pub room_three : HasRoom sim_three live_three
room_three = record {
  steps = subst (λ (s : SimView). s.cursor < trail_limit) (sym sim_is) (omega arith);
  calls = subst (λ (l : LiveSimView). (net_in l).last_call < 4000000000) (sym live_is) (omega arith);
}

-- ---- at the second node it waits on both sides

can_wait_then : CanWait state_three b web
unfolding deps_run configured nodes_of apps_of
can_wait_then = record {
  app = omega arith;
  up = refl;
  spread = refl;
  listed = refl;
  off = refl;
  needs = refl;
  at = a;
  runs = refl;
  behind = refl;
}

pub can_wait : CanWait (state_of sim_three) b web
can_wait = subst (λ (s : StateView). CanWait s b web) (sym state_so) can_wait_then

can_wait_live_then : CanWaitLive live_then b web
unfolding forgotten
can_wait_live_then = record {
  own = refl;
  off = refl;
  unasked = refl;
  started = refl;
  dist = told_dist;
  has = refl;
  takes_all = refl;
  elsewhere = record { at = a; found = inl (refl, refl, refl) };
  not_here = refl;
  stays = refl;
}

pub can_wait_live : CanWaitLive live_three b web
can_wait_live = subst (λ (l : LiveSimView). CanWaitLive l b web) (sym live_is) can_wait_live_then

wait_row : IsAnsweredAlike (call.Step (event.Start b web Temporary)) sim_three live_three
wait_row = (waits_alike sim_three live_three b web Temporary place_row.1 room_three place_row.2 can_wait can_wait_live).0

wait_told : (served sim_three (call.Step (event.Start b web Temporary))).reply ≡ reply.Done (notice.Waits web b ∷ [])
wait_told = (waits_alike sim_three live_three b web Temporary place_row.1 room_three place_row.2 can_wait can_wait_live).3

-- ---- and at the first one it can be stopped, where the second is told

first_then : (k : ℕ) (d : DistView) → k ≡ 0 → (node_at (held live_then) (numbered k)).dist ≡ Some d → running_dist ≡ d
unfolding forgotten
first_then zero d same has = same_Some running_dist d has
first_then (suc k) d same has = absurd (omega (arith, same))

sees_then : (k : ℕ) → is_alive (node_in live_then (numbered k)) ≡ true → (0 == k || are_linked a (numbered k) ((b, a) ∷ [])) ≡ true
sees_then zero alive = refl
sees_then (suc zero) alive = refl
sees_then (suc (suc zero)) alive = absurd (false≢true alive)
sees_then (suc (suc (suc k))) alive = absurd (false≢true alive)

ends_then : CanEndThere a web live_then
unfolding forgotten
ends_then = record {
  stays = refl;
  ends = record {
    tells = λ controlled. record {
      sees_all = record {
        takeovers = λ d has. ap (λ (x : DistView). x.t_reqs) (sym (first_then 0 d refl has));
        sees = λ d has m among alive. sees_then m.0 alive;
      };
      ends = λ d has. ap (λ (x : DistView). x.s_reqs) (sym (first_then 0 d refl has));
    };
  };
  few = λ controlled d has. subst (λ (x : DistView). length x.known + 3 < most_moves) (first_then 0 d refl has) (omega arith);
}

runs_then : is_here (keyfind web (node_in live_then a).controller.running) ≡ true
runs_then = refl

runs : RunsOnBoth a web sim_three live_three
runs = record {
  runs = ap (λ (s : StateView). runs_at s a web) state_so;
  live_runs = ap (λ (l : LiveSimView). is_here (keyfind web (node_in l a).controller.running)) live_is ∙ runs_then;
  can = subst (CanEndThere a web) (sym live_is) ends_then;
}

stop_row : IsStoppedAlike (event.Stop a web) a web sim_three live_three
stop_row = stops_alike sim_three live_three a web place_row.1 room_three place_row.2 runs
