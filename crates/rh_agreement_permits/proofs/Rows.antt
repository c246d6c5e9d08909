-- Permissions that the laws are of: of two nodes that are up the first one runs a distributed application, and is permitted it again; the
-- second one is forbidden it, and then the first one.
use Rattle.std.proofs.Common.{◌≡◌, ◌<◌, ◌==◌, ◌||◌, ◌≢◌, ◌∙◌, ℕ, zero, suc, true, false, None, Some, [], ◌∷◌, inl, inr, refl, sym, ap, subst, arith}
use Rattle.std.proofs.lemmas.Bool.{false≢true, true≢false}
use Rattle.std.proofs.lemmas.Option.{same_Some}
use Rattle.rh_model.specs.ClusterView.{numbered}
use Rattle.rh_rules.specs.declared.event.Event.TheVariants as event
use Rattle.rh_rules.specs.declared.pick.Pick.TheVariants.{First}
use Rattle.rh_rules.specs.ByHand.{permitted}
use Rattle.rh_rules.specs.Moves.{local_moves, placements, takeovers, can_start, calls_away}
use Rattle.rh_rules.specs.NodesStart.{all_alive, is_ready, come_up_if_ready, ready_come_up}
use Rattle.rh_rules.specs.Placing.{deps_run, is_operational, candidates, best}
use Rattle.rh_rules.specs.Refusals.{refused}
use Rattle.rh_rules.specs.Settling.{next_moves, moved_by, all_moved}
use Rattle.rh_rules.specs.Steps.{followed, next}
use Rattle.rh_calls.specs.declared.call.Call.TheVariants as call
use Rattle.rh_state.specs.First.{configured}
use Rattle.rh_state.specs.Numbers.{nodes_of, apps_of}
use Rattle.rh_state.specs.StateView.{StateView}
use Rattle.rh_step.specs.Runs.{step}
use Rattle.rh_trail.specs.Lone.{Served, served, with_event, trail_limit}
use Rattle.rh_trail.specs.SimView.{SimView, state_of}
use Rattle.rh_otp_dist.specs.State.{DistView, may_run}
use Rattle.rh_otp_model.specs.declared.fault.Outcome.TheVariants as outcome
use Rattle.rh_otp_model.specs.declared.output.Event.TheVariants as seen
use Rattle.rh_otp_net.specs.Links.{are_linked}
use Rattle.rh_otp_node.specs.Live.{LiveView}
use Rattle.rh_otp_sim.specs.Acting.{acted, acted_at_once, is_acted, is_quiet_at_once}
use Rattle.rh_otp_sim.specs.Calls.{made_by}
use Rattle.rh_otp_sim.specs.Sim.{LiveSimView, net_in}
use Rattle.rh_otp_sim.specs.Stepping.{cells_behind, with_step}
use Rattle.rh_otp_system.specs.declared.calls.Ask.TheVariants as ask
use Rattle.rh_otp_system.specs.declared.calls.Stage.TheVariants as stage
use Rattle.rh_otp_system.specs.declared.cell.Cell.TheVariants as cell
use Rattle.rh_otp_system.specs.Resting.{forgotten}
use Rattle.rh_otp_system.specs.State.{SystemView, node_at, is_alive_at}
use Rattle.rh_otp_permits.specs.Permits.{ChangesNothing}
use Rattle.rh_otp_moves.specs.Stopping.{RunsThereAlone as RunsAloneLive}
use Rattle.rh_agreement.specs.Laws.{HasRoom}
use Rattle.rh_agreement.specs.Resting.{held}
use Rattle.rh_agreement.proofs.Stepping.{manual}
use Rattle.rh_agreement_calls.specs.Stops.{IsStoppedAlike}
use Rattle.rh_agreement_spread.specs.Stops.{IsLeftAlike}
use Rattle.rh_agreement_spread.proofs.RowsPair.{a, b, web, two, file}
use Rattle.rh_agreement_spread.proofs.RowsTwo.{last_two}
use Rattle.rh_agreement_spread.proofs.RowsTwoCalls.{sim_is as three_is, sim_three, live_three, state_three, state_so, running_dist, running_node, told_dist, told_node, live_is, live_then, place_row, room_three}
use Rattle.rh_agreement_permits.specs.Permits.{ChangesNoMore, NotesAloneLive}
use Rattle.rh_agreement_permits.specs.Stops.{CanRunThereAlone, StopsThereLive}
use Rattle.rh_agreement_permits.proofs.ForbidAlike.{forbids_alike}
use Rattle.rh_agreement_permits.proofs.PermitAlike.{permits_alike}
use Rattle.rh_otp_controller.specs.Calls.{start as controller_start, stop as controller_stop, permit as controller_permit, top_ends as controller_top_ends}
use Rattle.rh_otp_controller.specs.Changes.{do_start as controller_do_start, change as controller_change, received as controller_received}
use Rattle.rh_otp_controller.specs.Starting.{spawn_starter as controller_spawn_starter, reply_to_requester as controller_reply_to_requester, has_started as controller_has_started, start_reply as controller_start_reply}
use Rattle.rh_otp_dist.specs.Attempts.{finish as dist_finish, runs_elsewhere as dist_runs_elsewhere}
use Rattle.rh_otp_dist.specs.Calls.{take_over as dist_take_over, permit as dist_permit, get_nodes as dist_get_nodes}
use Rattle.rh_otp_dist.specs.Choosing.{start_here as dist_start_here, is_to_start as dist_is_to_start, find_start_node as dist_find_start_node, start_distributed as dist_start_distributed, start_appl as dist_start_appl}
use Rattle.rh_otp_dist.specs.Down.{check_waiting as dist_check_waiting, node_down as dist_node_down}
use Rattle.rh_otp_dist.specs.Outside.{introduced_to as dist_introduced_to}
use Rattle.rh_otp_dist.specs.Received.{handle_next as dist_handle_next}
use Rattle.rh_otp_dist.specs.Sending.{del_t_reqs as dist_del_t_reqs}
use Rattle.rh_otp_dist.specs.Told.{run as dist_run, answer_ends as dist_answer_ends, not_run as dist_not_run, stopped as dist_stopped, new_node as dist_new_node, answer_permits as dist_answer_permits, app_started as dist_app_started, app_stopped as dist_app_stopped, weight_told as dist_weight_told, restart as dist_restart, new_permission as dist_new_permission}
use Rattle.rh_otp_net.specs.Links.{to_connect as net_to_connect}
use Rattle.rh_otp_node.specs.Turns.{controlled_by as node_controlled_by, terminated_by as node_terminated_by, handled_by as node_handled_by, introduced_by as node_introduced_by}
use Rattle.rh_otp_system.specs.Calling.{lock_call as system_lock_call, wait_for_lock as system_wait_for_lock, behind_sync as system_behind_sync, go_on_call as system_go_on_call, call_received as system_call_received}
use Rattle.rh_otp_system.specs.Connecting.{connect as system_connect}
use Rattle.rh_otp_system.specs.Delivering.{delivered as system_delivered, slowed as system_slowed}
use Rattle.rh_otp_system.specs.Doing.{waited_for as system_waited_for, booted as system_booted, called as system_called, fired_next as system_fired_next, ticked as system_ticked, is_ticked as system_is_ticked}
use Rattle.rh_otp_system.specs.Ending.{down_told as system_down_told, taken_down as system_taken_down, ended as system_ended, stopped as system_stopped}
use Rattle.rh_otp_system.specs.Joining.{join as system_join, has_seen as system_has_seen, boot_next as system_boot_next}
use Rattle.rh_otp_system.specs.Moves.{made as system_made}
use Rattle.rh_otp_system.specs.Resting.{rested as system_rested, forgotten as system_forgotten}
use Rattle.rh_otp_system.specs.Sending.{told as system_told, after as system_after}
use Rattle.rh_otp_system.specs.Working.{take_lock as system_take_lock, gone as system_gone, handled as system_handled, work as system_work, mailed as system_mailed}

-- ---- the first node is permitted it again, which changes nothing

-- the first node sees the second one
sees_other : (k : ℕ) → is_alive_at (held live_then) (numbered k) ≡ true → (0 == k || are_linked a (numbered k) ((b, a) ∷ [])) ≡ true
unfolding forgotten
sees_other zero alive = refl
sees_other (suc zero) alive = refl
sees_other (suc (suc zero)) alive = absurd (false≢true alive)
sees_other (suc (suc (suc k))) alive = absurd (false≢true alive)

permits_then : ChangesNoMore state_three a web true
unfolding configured nodes_of apps_of
permits_then = record {
  app = omega arith;
  up = refl;
  spread = refl;
  runs_not = λ no. absurd (true≢false no);
  stays = λ is. inl refl;
}

permits_live_then : NotesAloneLive live_then a web true
unfolding forgotten
permits_live_then = record {
  own = refl;
  dist = running_dist;
  has = refl;
  takes_all = refl;
  notes = record {
    synchronised = refl;
    notes = λ d has is.
        subst (ChangesNothing true web (node_at (held live_then) a).controller) (same_Some running_dist d has)
        (record { quiet = inr (inl (refl, refl)); not_here = refl });
    sees = λ m among alive. sees_other m.0 alive;
  };
  stays = refl;
  few = omega arith;
}

permit_row : IsLeftAlike (event.Permit a web true) sim_three live_three
permit_row =
    permits_alike sim_three live_three a web true place_row.1 room_three place_row.2
    (subst (λ (s : StateView). ChangesNoMore s a web true) (sym state_so) permits_then)
    (subst (λ (l : LiveSimView). NotesAloneLive l a web true) (sym live_is) permits_live_then)

-- ---- the second node is forbidden it, which changes nothing else

pub notes_then : ChangesNoMore state_three b web false
notes_then = record {
  app = omega arith;
  up = refl;
  spread = refl;
  runs_not = λ no. refl;
  stays = λ is. absurd (false≢true is);
}

-- the second node sees the first one
sees_first : (k : ℕ) → is_alive_at (held live_then) (numbered k) ≡ true → (1 == k || are_linked b (numbered k) ((b, a) ∷ [])) ≡ true
unfolding forgotten
sees_first zero alive = refl
sees_first (suc zero) alive = refl
sees_first (suc (suc zero)) alive = absurd (false≢true alive)
sees_first (suc (suc (suc k))) alive = absurd (false≢true alive)

pub notes_live_then : NotesAloneLive live_then b web false
unfolding forgotten
notes_live_then = record {
  own = refl;
  dist = told_dist;
  has = refl;
  takes_all = refl;
  notes = record {
    synchronised = refl;
    notes = λ d has is.
        subst (ChangesNothing false web (node_at (held live_then) b).controller) (same_Some told_dist d has)
        (record { quiet = inl refl; not_here = refl });
    sees = λ m among alive. sees_first m.0 alive;
  };
  stays = refl;
  few = omega arith;
}

note_row : IsLeftAlike (event.Permit b web false) sim_three live_three
note_row =
    permits_alike sim_three live_three b web false place_row.1 room_three place_row.2
    (subst (λ (s : StateView). ChangesNoMore s b web false) (sym state_so) notes_then)
    (subst (λ (l : LiveSimView). NotesAloneLive l b web false) (sym live_is) notes_live_then)

-- ---- behind it

abbrev pub sim_four : SimView
sim_four = (served sim_three (call.Step (event.Permit b web false))).sim

abbrev pub live_four : LiveSimView
live_four = made_by (call.Step (event.Permit b web false)) live_three

abbrev pub state_four : StateView
state_four = record state_three { allowed = (true ∷ []) ∷ (false ∷ []) ∷ [] }

permit_is : step First state_three (event.Permit b web false) ≡ state_four
unfolding step next followed permitted is_ready all_alive come_up_if_ready ready_come_up configured nodes_of apps_of local_moves placements
    takeovers can_start deps_run next_moves moved_by all_moved is_operational candidates best calls_away
permit_is = refl

accepted : refused state_three (event.Permit b web false) ≡ None
unfolding refused
accepted = refl

pub sim_is : sim_four ≡ with_event sim_three (event.Permit b web false)
sim_is =
    ap (λ (s : Served). s.sim)
    (manual sim_three (event.Permit b web false)
    (ap (λ (s : StateView). refused s (event.Permit b web false)) state_so ∙ accepted) room_three.steps)

pub four_so : state_of sim_four ≡ state_four
four_so =
    ap state_of (sim_is ∙ ap (λ (s : SimView). with_event s (event.Permit b web false)) three_is)
    ∙ ap (λ (s : StateView). step First s (event.Permit b web false)) (ap state_of (sym three_is) ∙ state_so) ∙ permit_is

-- both know that the second one may not run it
abbrev pub first_dist : DistView
first_dist = record running_dist { may = (true ∷ []) ∷ (false ∷ []) ∷ [] }

abbrev pub second_dist : DistView
second_dist = record told_dist { may = (true ∷ []) ∷ (false ∷ []) ∷ [] }

abbrev pub first_node : LiveView
first_node = record running_node { dist = Some first_dist }

abbrev pub second_node : LiveView
second_node = record told_node {
  controller = record told_node.controller { permissions = (web, false) ∷ [] };
  dist = Some second_dist;
}

abbrev last_four : SystemView
last_four = record {
  cluster = two;
  files = file ∷ file ∷ [];
  nodes = record {
    base = cell.Node running_node ∷ cell.Node told_node ∷ cell.Net (net_in live_then) ∷ [];
    cells = cell.Node first_node ∷ cell.Node second_node ∷ cell.Net (net_in live_then) ∷ [];
  };
  clock = 0;
  step = 4;
  last_call = 2;
  alive = a ∷ b ∷ [];
  links = (b, a) ∷ [];
  locks = [];
  timers = last_two.timers;
  calls = record {
    number = 2;
    ask = ask.Permit false;
    node = b;
    life = 1;
    app = web;
    only_loaded = true;
    stage = stage.Done outcome.Done;
  } ∷ [];
  asleep = [];
  told = [];
  messages = [];
  slow = [];
  answers = [];
  events = seen.Answered 2 ∷ [];
  is_ticking = false;
  ends_soon = false;
}

abbrev pub live_last : LiveSimView
live_last = with_step (cells_behind (net_in live_then) 2 last_four) live_then

made_is : made_by (call.Step (event.Permit b web false)) live_then ≡ live_last
unfolding acted acted_at_once is_acted is_quiet_at_once controller_start controller_stop controller_permit controller_top_ends controller_do_start controller_change controller_received controller_spawn_starter controller_reply_to_requester controller_has_started controller_start_reply dist_finish dist_runs_elsewhere dist_take_over dist_permit dist_get_nodes dist_start_here dist_is_to_start dist_find_start_node dist_start_distributed dist_start_appl dist_check_waiting dist_node_down dist_introduced_to dist_handle_next dist_del_t_reqs dist_run dist_answer_ends dist_not_run dist_stopped dist_new_node dist_answer_permits dist_app_started dist_app_stopped dist_weight_told dist_restart dist_new_permission net_to_connect node_controlled_by node_terminated_by node_handled_by node_introduced_by system_lock_call system_wait_for_lock system_behind_sync system_go_on_call system_call_received system_connect system_delivered system_slowed system_waited_for system_booted system_called system_fired_next system_ticked system_is_ticked system_down_told system_taken_down system_ended system_stopped system_join system_has_seen system_boot_next system_made system_rested system_forgotten system_told system_after system_take_lock system_gone system_handled system_work system_mailed
made_is = refl

pub four_is : live_four ≡ live_last
four_is = ap (made_by (call.Step (event.Permit b web false))) live_is ∙ made_is

pub room_four : HasRoom sim_four live_four
room_four = record {
  steps = subst (λ (s : SimView). s.cursor < trail_limit)
      (sym (sim_is ∙ ap (λ (s : SimView). with_event s (event.Permit b web false)) three_is)) (omega arith);
  calls = subst (λ (l : LiveSimView). (net_in l).last_call < 4000000000) (sym four_is) (omega arith);
}

-- ---- the first node is forbidden it, and it stops

none_else : (k : ℕ) → k ≢ 0 → is_operational state_four web (numbered k) ≡ false
unfolding is_operational
none_else zero other = absurd (other refl)
none_else (suc zero) other = refl
none_else (suc (suc k)) other = refl

pub alone_then : CanRunThereAlone state_four a web
alone_then = record { spread = refl; runs = refl; may = refl; nobody = λ m other. none_else m.0 other }

alone_live : RunsAloneLive a web first_dist
alone_live = record { local = refl; nobody = refl }

sees_second : (k : ℕ) → is_alive_at (held live_last) (numbered k) ≡ true → (0 == k || are_linked a (numbered k) ((b, a) ∷ [])) ≡ true
unfolding forgotten
sees_second zero alive = refl
sees_second (suc zero) alive = refl
sees_second (suc (suc zero)) alive = absurd (false≢true alive)
sees_second (suc (suc (suc k))) alive = absurd (false≢true alive)

may_not : (k : ℕ) (d : DistView) → k ≢ 0 → is_alive_at (held live_last) (numbered k) ≡ true
    → (node_at (held live_last) (numbered k)).dist ≡ Some d → may_run d (numbered k) web ≡ false
unfolding forgotten
may_not zero d other alive has = absurd (other refl)
may_not (suc zero) d other alive has = ap (λ (x : DistView). may_run x b web) (sym (same_Some second_dist d has))
may_not (suc (suc zero)) d other alive has = absurd (false≢true alive)
may_not (suc (suc (suc k))) d other alive has = absurd (false≢true alive)

pub stops_then : StopsThereLive live_last a web
unfolding forgotten
stops_then = record {
  own = refl;
  started = refl;
  runs = refl;
  dist = first_dist;
  has = refl;
  takes_all = refl;
  stops = record {
    sees_list = record { synchronised = refl; sees = λ m among alive. sees_second m.0 alive };
    alone = λ d has is. subst (RunsAloneLive a web) (same_Some first_dist d has) alone_live;
    tells = record {
      sees_all = record {
        takeovers = λ d has. ap (λ (x : DistView). x.t_reqs) (sym (same_Some first_dist d has));
        sees = λ d has m among alive. sees_second m.0 alive;
      };
      ends = λ d has. ap (λ (x : DistView). x.s_reqs) (sym (same_Some first_dist d has));
    };
    others = λ m d other among alive has is controlled. may_not m.0 d other alive has;
  };
  stays = refl;
  few = omega arith;
}

pub stop_row : IsStoppedAlike (event.Permit a web false) a web sim_four live_four
stop_row =
    forbids_alike sim_four live_four a web note_row.1 room_four note_row.2
    (subst (λ (s : StateView). CanRunThereAlone s a web) (sym four_so) alone_then)
    (subst (λ (l : LiveSimView). StopsThereLive l a web) (sym four_is) stops_then)
