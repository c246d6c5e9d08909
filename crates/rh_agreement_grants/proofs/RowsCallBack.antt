-- A permit by which an application is called back: of two nodes that are up the second one has taken it over from the first one, where it
-- waits then; the first one is forbidden it, and permitted it again, and it runs there.
use Rattle.std.proofs.Common.{◌≡◌, ◌≢◌, ◌<◌, ◌==◌, ◌||◌, ◌∙◌, ℕ, zero, suc, true, false, None, Some, [], ◌∷◌, inr, refl, sym, ap, subst, arith}
use Rattle.std.proofs.lemmas.Bool.{false≢true}
use Rattle.std.proofs.lemmas.Option.{same_Some}
use Rattle.rh_model.specs.ClusterView.{numbered}
use Rattle.rh_model.specs.declared.settings.Restart.TheVariants.{Temporary}
use Rattle.rh_rules.specs.declared.event.Event.{Event}
use Rattle.rh_rules.specs.declared.event.Event.TheVariants as event
use Rattle.rh_rules.specs.declared.notice.Notice.TheVariants as notice
use Rattle.rh_rules.specs.declared.pick.Pick.TheVariants.{First}
use Rattle.rh_rules.specs.ByHand.{permitted, taken_over}
use Rattle.rh_rules.specs.Moves.{local_moves, placements, takeovers, can_start, calls_away}
use Rattle.rh_rules.specs.NodesStart.{all_alive, is_ready, come_up_if_ready, ready_come_up}
use Rattle.rh_rules.specs.Placing.{deps_run, is_operational, candidates, best, missing_dep}
use Rattle.rh_rules.specs.Refusals.{refused}
use Rattle.rh_rules.specs.Settling.{next_moves, moved_by, all_moved}
use Rattle.rh_rules.specs.Steps.{followed, next}
use Rattle.rh_calls.specs.declared.call.Call.TheVariants as call
use Rattle.rh_calls.specs.declared.call.Reply.TheVariants as reply
use Rattle.rh_state.specs.declared.status.Kind.TheVariants as kind
use Rattle.rh_state.specs.declared.status.Standing.TheVariants.{Running}
use Rattle.rh_state.specs.First.{configured}
use Rattle.rh_state.specs.Numbers.{nodes_of, apps_of}
use Rattle.rh_state.specs.StateView.{StateView}
use Rattle.rh_step.specs.Runs.{step}
use Rattle.rh_trail.specs.Lone.{Served, served, with_event, trail_limit}
use Rattle.rh_trail.specs.SimView.{SimView, state_of}
use Rattle.rh_otp_controller.specs.declared.state.Place.TheVariants.{Here, At}
use Rattle.rh_otp_controller.specs.Calls.{is_here}
use Rattle.rh_otp_dist.specs.declared.state.Standing.TheVariants as standing
use Rattle.rh_otp_dist.specs.State.{DistView}
use Rattle.rh_otp_model.specs.declared.fault.Outcome.TheVariants as outcome
use Rattle.rh_otp_model.specs.declared.output.Event.TheVariants as seen
use Rattle.rh_otp_model.specs.declared.process.StartType.TheVariants as start
use Rattle.rh_otp_model.specs.Rows.{keyfind}
use Rattle.rh_otp_moves.specs.Starting.{IsChosenThen}
use Rattle.rh_otp_net.specs.Links.{are_linked}
use Rattle.rh_otp_node.specs.Live.{LiveView}
use Rattle.rh_otp_permits.specs.Permits.{ChangesNothing}
use Rattle.rh_otp_sim.specs.Acting.{acted, acted_at_once, is_acted, is_quiet_at_once}
use Rattle.rh_otp_sim.specs.Calls.{made_by}
use Rattle.rh_otp_sim.specs.Refusing.{node_in}
use Rattle.rh_otp_sim.specs.Sim.{LiveSimView, net_in}
use Rattle.rh_otp_sim.specs.Stepping.{cells_behind, with_step}
use Rattle.rh_otp_system.specs.declared.calls.Ask.TheVariants as ask
use Rattle.rh_otp_system.specs.declared.calls.Stage.TheVariants as stage
use Rattle.rh_otp_system.specs.declared.cell.Cell.TheVariants as cell
use Rattle.rh_otp_system.specs.Resting.{forgotten}
use Rattle.rh_otp_system.specs.State.{SystemView, node_at, is_alive_at, own_at}
use Rattle.rh_agreement.specs.Telling.{GoTogether}
use Rattle.rh_agreement.specs.Laws.{IsAnsweredAlike, HasRoom}
use Rattle.rh_agreement.specs.Resting.{AreBothAtRest, held}
use Rattle.rh_agreement.proofs.Stepping.{manual}
use Rattle.rh_agreement_spread.specs.Stops.{IsLeftAlike}
use Rattle.rh_agreement_spread.proofs.RowsPair.{a, b, web, two, file}
use Rattle.rh_agreement_spread.proofs.RowsTwo.{sim_two, last_two}
use Rattle.rh_agreement_spread.proofs.RowsTwoCalls.{sim_is as three_is, running_dist, running_node, needs_none}
use Rattle.rh_agreement_takeovers.proofs.Alike.{takeovers_alike}
use Rattle.rh_agreement_takeovers.proofs.Rows.{waits_there, sim_four, live_four, state_four, waiting_dist, waiting_node, live_waiting, wait_row, sim_four_is, state_four_is, live_four_is, can_take, can_take_live, room_four}
use Rattle.rh_agreement_permits.specs.Permits.{ChangesNoMore, NotesAloneLive}
use Rattle.rh_agreement_permits.proofs.PermitAlike.{permits_alike}
use Rattle.rh_agreement_grants.specs.CallBacks.{IsCalledBack, IsCalledBackLive}
use Rattle.rh_agreement_grants.proofs.CallBackAlike.{call_backs_alike}
use Rattle.rh_otp_controller.specs.Calls.{start as controller_start, stop as controller_stop, permit as controller_permit, top_ends as controller_top_ends}
use Rattle.rh_otp_controller.specs.Changes.{do_start as controller_do_start, change as controller_change, received as controller_received}
use Rattle.rh_otp_controller.specs.Starting.{spawn_starter as controller_spawn_starter, reply_to_requester as controller_reply_to_requester, has_started as controller_has_started, start_reply as controller_start_reply}
use Rattle.rh_otp_dist.specs.Attempts.{finish as dist_finish, runs_elsewhere as dist_runs_elsewhere}
use Rattle.rh_otp_dist.specs.Calls.{take_over as dist_take_over, permit as dist_permit, get_nodes as dist_get_nodes}
use Rattle.rh_otp_dist.specs.Choosing.{start_here as dist_start_here, is_to_start as dist_is_to_start, find_start_node as dist_find_start_node, start_distributed as dist_start_distributed, start_appl as dist_start_appl}
use Rattle.rh_otp_dist.specs.Down.{check_waiting as dist_check_waiting, node_down as dist_node_down}
use Rattle.rh_otp_dist.specs.Outside.{introduced_to as dist_introduced_to}
use Rattle.rh_otp_dist.specs.Received.{handle_next as dist_handle_next}
use Rattle.rh_otp_dist.specs.Sending.{del_t_reqs as dist_del_t_reqs}
use Rattle.rh_otp_dist.specs.Told.{run as dist_run, answer_ends as dist_answer_ends, not_run as dist_not_run, stopped as dist_stopped, new_node as dist_new_node, answer_permits as dist_answer_permits, app_started as dist_app_started, app_stopped as dist_app_stopped, weight_told as dist_weight_told, restart as dist_restart, new_permission as dist_new_permission}
use Rattle.rh_otp_net.specs.Links.{to_connect as net_to_connect}
use Rattle.rh_otp_node.specs.Turns.{controlled_by as node_controlled_by, terminated_by as node_terminated_by, handled_by as node_handled_by, introduced_by as node_introduced_by}
use Rattle.rh_otp_system.specs.Calling.{lock_call as system_lock_call, wait_for_lock as system_wait_for_lock, behind_sync as system_behind_sync, go_on_call as system_go_on_call, call_received as system_call_received}
use Rattle.rh_otp_system.specs.Connecting.{connect as system_connect}
use Rattle.rh_otp_system.specs.Delivering.{delivered as system_delivered, slowed as system_slowed}
use Rattle.rh_otp_system.specs.Doing.{waited_for as system_waited_for, booted as system_booted, called as system_called, fired_next as system_fired_next, ticked as system_ticked, is_ticked as system_is_ticked}
use Rattle.rh_otp_system.specs.Ending.{down_told as system_down_told, taken_down as system_taken_down, ended as system_ended, stopped as system_stopped}
use Rattle.rh_otp_system.specs.Joining.{join as system_join, has_seen as system_has_seen, boot_next as system_boot_next}
use Rattle.rh_otp_system.specs.Moves.{made as system_made}
use Rattle.rh_otp_system.specs.Resting.{rested as system_rested, forgotten as system_forgotten}
use Rattle.rh_otp_system.specs.Sending.{told as system_told, after as system_after}
use Rattle.rh_otp_system.specs.Working.{take_lock as system_take_lock, gone as system_gone, handled as system_handled, work as system_work, mailed as system_mailed}

-- ---- the second node takes it over

abbrev over : Event
over = event.Takeover b web Temporary

abbrev sim_five : SimView
sim_five = (served sim_four (call.Step over)).sim

abbrev live_five : LiveSimView
live_five = made_by (call.Step over) live_four

over_row : IsAnsweredAlike (call.Step over) sim_four live_four
    × GoTogether sim_five live_five
    × AreBothAtRest sim_five live_five
    × ((served sim_four (call.Step over)).reply
    ≡ reply.Done (notice.Started web b (kind.Takeover a) None ∷ notice.Stopped web a ∷ []))
over_row = takeovers_alike sim_four live_four b a web Temporary wait_row.1 room_four wait_row.2 can_take can_take_live

abbrev state_five : StateView
state_five = record state_four {
  running = [] ∷ (web ∷ []) ∷ [];
  waiting = (web ∷ []) ∷ [] ∷ [];
  kinds = (kind.Normal ∷ []) ∷ (kind.Takeover a ∷ []) ∷ [];
  standings = Running b ∷ [];
}

over_is : step First state_four over ≡ state_five
unfolding step next followed taken_over is_ready all_alive come_up_if_ready ready_come_up configured nodes_of apps_of local_moves placements
    takeovers can_start deps_run next_moves moved_by all_moved is_operational candidates best calls_away
over_is = refl

over_accepted : refused state_four over ≡ None
unfolding refused missing_dep configured nodes_of apps_of
over_accepted = refl

sim_five_is : sim_five ≡ with_event sim_four over
sim_five_is =
    ap (λ (s : Served). s.sim)
    (manual sim_four over (ap (λ (s : StateView). refused s over) state_four_is ∙ over_accepted) room_four.steps)

abbrev with_over : SimView → SimView
with_over s = with_event s over

four_explicit : sim_four ≡ with_event (with_event sim_two (event.Start a web Temporary)) waits_there
four_explicit = sim_four_is ∙ ap (λ (s : SimView). with_event s waits_there) three_is

five_explicit : sim_five ≡ with_event (with_event (with_event sim_two (event.Start a web Temporary)) waits_there) over
five_explicit = sim_five_is ∙ ap with_over four_explicit

state_five_is : state_of sim_five ≡ state_five
state_five_is =
    ap state_of five_explicit
    ∙ ap (λ (s : StateView). step First s over) (ap state_of (sym four_explicit) ∙ state_four_is) ∙ over_is

abbrev given_dist : DistView
given_dist = record running_dist { appls = record { standing = standing.Distributed b; losses = 0 } ∷ [] }

abbrev given_node : LiveView
given_node = record running_node {
  controller = record running_node.controller { running = (web, At b) ∷ [] };
  dist = Some given_dist;
}

abbrev taking_dist : DistView
taking_dist = record waiting_dist { appls = record { standing = standing.Local; losses = 0 } ∷ [] }

abbrev taking_node : LiveView
taking_node = record waiting_node {
  controller = record waiting_node.controller { running = (web, Here) ∷ [] };
  dist = Some taking_dist;
  kinds = (web, start.Takeover a) ∷ [];
}

abbrev last_five : SystemView
last_five = record {
  cluster = two;
  files = file ∷ file ∷ [];
  nodes = record {
    base = cell.Node running_node ∷ cell.Node waiting_node ∷ cell.Net (net_in live_waiting) ∷ [];
    cells = cell.Node given_node ∷ cell.Node taking_node ∷ cell.Net (net_in live_waiting) ∷ [];
  };
  clock = 0;
  step = 5;
  last_call = 3;
  alive = a ∷ b ∷ [];
  links = (b, a) ∷ [];
  locks = [];
  timers = last_two.timers;
  calls = record {
    number = 3;
    ask = ask.Takeover Temporary;
    node = b;
    life = 1;
    app = web;
    only_loaded = false;
    stage = stage.Done outcome.Done;
  } ∷ [];
  asleep = [];
  told = [];
  messages = [];
  slow = [];
  answers = [];
  events = seen.Started web b (start.Takeover a) ∷ seen.Answered 3 ∷ seen.Stopped web a ∷ [];
  is_ticking = false;
  ends_soon = false;
}

abbrev live_taken : LiveSimView
live_taken = with_step (cells_behind (net_in live_waiting) 2 last_five) live_waiting

taken_is : made_by (call.Step over) live_waiting ≡ live_taken
unfolding acted acted_at_once is_acted is_quiet_at_once controller_start controller_stop controller_permit controller_top_ends controller_do_start controller_change controller_received controller_spawn_starter controller_reply_to_requester controller_has_started controller_start_reply dist_finish dist_runs_elsewhere dist_take_over dist_permit dist_get_nodes dist_start_here dist_is_to_start dist_find_start_node dist_start_distributed dist_start_appl dist_check_waiting dist_node_down dist_introduced_to dist_handle_next dist_del_t_reqs dist_run dist_answer_ends dist_not_run dist_stopped dist_new_node dist_answer_permits dist_app_started dist_app_stopped dist_weight_told dist_restart dist_new_permission net_to_connect node_controlled_by node_terminated_by node_handled_by node_introduced_by system_lock_call system_wait_for_lock system_behind_sync system_go_on_call system_call_received system_connect system_delivered system_slowed system_waited_for system_booted system_called system_fired_next system_ticked system_is_ticked system_down_told system_taken_down system_ended system_stopped system_join system_has_seen system_boot_next system_made system_rested system_forgotten system_told system_after system_take_lock system_gone system_handled system_work system_mailed
taken_is = refl

five_is : live_five ≡ live_taken
five_is = ap (made_by (call.Step over)) live_four_is ∙ taken_is

room_five : HasRoom sim_five live_five
room_five = record {
  steps = subst (λ (s : SimView). s.cursor < trail_limit) (sym five_explicit) (omega arith);
  calls = subst (λ (l : LiveSimView). (net_in l).last_call < 4000000000) (sym five_is) (omega arith);
}

-- ---- the first one, where it waits now, is forbidden it

abbrev forbid : Event
forbid = event.Permit a web false

abbrev sim_six : SimView
sim_six = (served sim_five (call.Step forbid)).sim

abbrev live_six : LiveSimView
live_six = made_by (call.Step forbid) live_five

notes_then : ChangesNoMore state_five a web false
unfolding configured nodes_of apps_of
notes_then = record {
  app = omega arith;
  up = refl;
  spread = refl;
  runs_not = λ no. refl;
  stays = λ is. absurd (false≢true is);
}

-- the first node sees the second one
sees_other : (k : ℕ) → is_alive_at (held live_taken) (numbered k) ≡ true → (0 == k || are_linked a (numbered k) ((b, a) ∷ [])) ≡ true
unfolding forgotten
sees_other zero alive = refl
sees_other (suc zero) alive = refl
sees_other (suc (suc zero)) alive = absurd (false≢true alive)
sees_other (suc (suc (suc k))) alive = absurd (false≢true alive)

notes_live_then : NotesAloneLive live_taken a web false
unfolding forgotten
notes_live_then = record {
  own = refl;
  dist = given_dist;
  has = refl;
  takes_all = refl;
  notes = record {
    synchronised = refl;
    notes = λ d has is.
        subst (ChangesNothing false web (node_at (held live_taken) a).controller) (same_Some given_dist d has)
        (record { quiet = inr (inr (refl, refl)); not_here = refl });
    sees = λ m among alive. sees_other m.0 alive;
  };
  stays = refl;
  few = omega arith;
}

forbid_row : IsLeftAlike forbid sim_five live_five
forbid_row =
    permits_alike sim_five live_five a web false over_row.1 room_five over_row.2
    (subst (λ (s : StateView). ChangesNoMore s a web false) (sym state_five_is) notes_then)
    (subst (λ (l : LiveSimView). NotesAloneLive l a web false) (sym five_is) notes_live_then)

abbrev state_six : StateView
state_six = record state_five { allowed = (false ∷ []) ∷ (true ∷ []) ∷ [] }

forbid_is : step First state_five forbid ≡ state_six
unfolding step next followed permitted is_ready all_alive come_up_if_ready ready_come_up configured nodes_of apps_of local_moves placements
    takeovers can_start deps_run next_moves moved_by all_moved is_operational candidates best calls_away
forbid_is = refl

forbid_accepted : refused state_five forbid ≡ None
unfolding refused
forbid_accepted = refl

six_explicit : sim_six ≡ with_event (with_event (with_event (with_event sim_two (event.Start a web Temporary)) waits_there) over) forbid
six_explicit =
    ap (λ (s : Served). s.sim)
    (manual sim_five forbid (ap (λ (s : StateView). refused s forbid) state_five_is ∙ forbid_accepted) room_five.steps)
    ∙ ap (λ (s : SimView). with_event s forbid) five_explicit

state_six_is : state_of sim_six ≡ state_six
state_six_is =
    ap state_of six_explicit
    ∙ ap (λ (s : StateView). step First s forbid) (ap state_of (sym five_explicit) ∙ state_five_is) ∙ forbid_is

abbrev forbidden_dist : DistView
forbidden_dist = record given_dist { may = (false ∷ []) ∷ (true ∷ []) ∷ [] }

abbrev forbidden_node : LiveView
forbidden_node = record given_node {
  controller = record given_node.controller { permissions = (web, false) ∷ [] };
  dist = Some forbidden_dist;
}

abbrev told_dist : DistView
told_dist = record taking_dist { may = (false ∷ []) ∷ (true ∷ []) ∷ [] }

abbrev told_node : LiveView
told_node = record taking_node { dist = Some told_dist }

abbrev last_six : SystemView
last_six = record {
  cluster = two;
  files = file ∷ file ∷ [];
  nodes = record {
    base = cell.Node given_node ∷ cell.Node taking_node ∷ cell.Net (net_in live_taken) ∷ [];
    cells = cell.Node forbidden_node ∷ cell.Node told_node ∷ cell.Net (net_in live_taken) ∷ [];
  };
  clock = 0;
  step = 6;
  last_call = 4;
  alive = a ∷ b ∷ [];
  links = (b, a) ∷ [];
  locks = [];
  timers = last_two.timers;
  calls = record {
    number = 4;
    ask = ask.Permit false;
    node = a;
    life = 1;
    app = web;
    only_loaded = false;
    stage = stage.Done outcome.Done;
  } ∷ [];
  asleep = [];
  told = [];
  messages = [];
  slow = [];
  answers = [];
  events = seen.Answered 4 ∷ [];
  is_ticking = false;
  ends_soon = false;
}

abbrev live_now : LiveSimView
live_now = with_step (cells_behind (net_in live_taken) 2 last_six) live_taken

now_is : made_by (call.Step forbid) live_taken ≡ live_now
unfolding acted acted_at_once is_acted is_quiet_at_once controller_start controller_stop controller_permit controller_top_ends controller_do_start controller_change controller_received controller_spawn_starter controller_reply_to_requester controller_has_started controller_start_reply dist_finish dist_runs_elsewhere dist_take_over dist_permit dist_get_nodes dist_start_here dist_is_to_start dist_find_start_node dist_start_distributed dist_start_appl dist_check_waiting dist_node_down dist_introduced_to dist_handle_next dist_del_t_reqs dist_run dist_answer_ends dist_not_run dist_stopped dist_new_node dist_answer_permits dist_app_started dist_app_stopped dist_weight_told dist_restart dist_new_permission net_to_connect node_controlled_by node_terminated_by node_handled_by node_introduced_by system_lock_call system_wait_for_lock system_behind_sync system_go_on_call system_call_received system_connect system_delivered system_slowed system_waited_for system_booted system_called system_fired_next system_ticked system_is_ticked system_down_told system_taken_down system_ended system_stopped system_join system_has_seen system_boot_next system_made system_rested system_forgotten system_told system_after system_take_lock system_gone system_handled system_work system_mailed
now_is = refl

six_is : live_six ≡ live_now
six_is = ap (made_by (call.Step forbid)) five_is ∙ now_is

room_six : HasRoom sim_six live_six
room_six = record {
  steps = subst (λ (s : SimView). s.cursor < trail_limit) (sym six_explicit) (omega arith);
  calls = subst (λ (l : LiveSimView). (net_in l).last_call < 4000000000) (sym six_is) (omega arith);
}

-- ---- and is permitted it again: it is called back

called_then : IsCalledBack state_six a b web
unfolding deps_run
called_then = record {
  pulls = refl;
  runs = refl;
  waits = refl;
  may_not = refl;
  needs = refl;
  before = refl;
  unneeded = λ x waits. needs_none x.0;
}

sees_second : (k : ℕ) → is_alive_at (held live_now) (numbered k) ≡ true → (0 == k || are_linked a (numbered k) ((b, a) ∷ [])) ≡ true
unfolding forgotten
sees_second zero alive = refl
sees_second (suc zero) alive = refl
sees_second (suc (suc zero)) alive = absurd (false≢true alive)
sees_second (suc (suc (suc k))) alive = absurd (false≢true alive)

runs_there : (k : ℕ) → k ≢ 1 → is_here (keyfind web (node_in live_now (numbered k)).controller.running) ≡ false
runs_there zero other = refl
runs_there (suc zero) other = absurd (other refl)
runs_there (suc (suc zero)) other = refl
runs_there (suc (suc (suc k))) other = refl

chosen_then : IsChosenThen (own_at (held live_now) a) a web forbidden_dist
unfolding forgotten
chosen_then = record { not_here = refl; chosen = record { first = refl; not_yet = refl } }

called_live : IsCalledBackLive live_now a b web
unfolding forgotten
called_live = record {
  own = refl;
  started = refl;
  listed = refl;
  off = refl;
  unasked = refl;
  runs = refl;
  dist = forbidden_dist;
  has = refl;
  takes_all = refl;
  elsewhere = refl;
  knows = refl;
  starts = record {
    sees_list = record { synchronised = refl; sees = λ m among alive. sees_second m.0 alive };
    chooses = λ d has is. subst (IsChosenThen (own_at (held live_now) a) a web) (same_Some forbidden_dist d has) chosen_then;
    sees_all = record {
      takeovers = λ d has. ap (λ (x : DistView). x.t_reqs) (sym (same_Some forbidden_dist d has));
      sees = λ d has m among alive. sees_second m.0 alive;
    };
  };
  stays = refl;
  gives_up = record {
    alive = refl;
    controlled = refl;
    started = refl;
    runs = refl;
    stays = refl;
    dist = told_dist;
    has = refl;
    takes_all = refl;
    started_too = refl;
  };
  nowhere = λ m other far alive. runs_there m.0 far;
  few = omega arith;
}

call_back_row : IsAnsweredAlike (call.Step (event.Permit a web true)) sim_six live_six
    × ((served sim_six (call.Step (event.Permit a web true))).reply
    ≡ reply.Done (notice.Started web a (kind.Takeover b) None ∷ notice.Stopped web b ∷ []))
call_back_row =
    let all =
    call_backs_alike sim_six live_six a b web forbid_row.1 room_six forbid_row.2
    (subst (λ (s : StateView). IsCalledBack s a b web) (sym state_six_is) called_then)
    (subst (λ (l : LiveSimView). IsCalledBackLive l a b web) (sym six_is) called_live) in
    (all.0, all.3)
