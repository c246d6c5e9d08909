-- Worked rows: the distributed application that was stopped meets all that the law of starts asks, and starts again; and a list of such
-- calls.
use Rattle.std.proofs.Common.{List, ◌≡◌, ◌≢◌, ◌<◌, ◌∙◌, ℕ, zero, suc, true, false, None, Some, [], ◌∷◌, refl, sym, ap, subst, inl, arith}
use Rattle.std.specs.List.{list_any}
use Rattle.std.proofs.lemmas.Bool.{false≢true}
use Rattle.std.proofs.lemmas.Option.{none-some, same_Some}
use Rattle.rh_model.specs.ClusterView.{app_numbered, deps_of, numbered}
use Rattle.rh_model.specs.declared.settings.Restart.TheVariants.{Permanent, Temporary}
use Rattle.rh_rules.specs.declared.event.Event.TheVariants as event
use Rattle.rh_rules.specs.declared.notice.Notice.TheVariants as notice
use Rattle.rh_rules.specs.declared.pick.Pick.TheVariants.{First}
use Rattle.rh_rules.specs.ByHand.{stopped}
use Rattle.rh_rules.specs.Moves.{local_moves, placements, takeovers, can_start, calls_away}
use Rattle.rh_rules.specs.NodesStart.{all_alive, is_ready, come_up_if_ready, ready_come_up}
use Rattle.rh_rules.specs.Placing.{deps_run, is_operational, candidates, best}
use Rattle.rh_rules.specs.Refusals.{refused}
use Rattle.rh_rules.specs.Settling.{next_moves, moved_by, all_moved}
use Rattle.rh_rules.specs.Steps.{followed, next}
use Rattle.rh_calls.specs.declared.call.Call.{Call}
use Rattle.rh_calls.specs.declared.call.Call.TheVariants as call
use Rattle.rh_calls.specs.declared.call.Reply.TheVariants as reply
use Rattle.rh_state.specs.declared.status.Kind.TheVariants.{Normal}
use Rattle.rh_state.specs.declared.status.Standing.TheVariants.{Quiet, Wanted}
use Rattle.rh_state.specs.First.{configured}
use Rattle.rh_state.specs.Numbers.{nodes_of, apps_of}
use Rattle.rh_state.specs.StateView.{StateView}
use Rattle.rh_step.specs.Runs.{step}
use Rattle.rh_trail.specs.Lone.{Served, served, with_event, trail_limit}
use Rattle.rh_trail.specs.SimView.{SimView, state_of}
use Rattle.rh_otp_controller.specs.Calls.{is_here}
use Rattle.rh_otp_dist.specs.declared.state.Standing.TheVariants as standing
use Rattle.rh_otp_dist.specs.State.{DistView, is_among}
use Rattle.rh_otp_model.specs.declared.fault.Outcome.TheVariants as outcome
use Rattle.rh_otp_model.specs.declared.output.Event.TheVariants as seen
use Rattle.rh_otp_model.specs.Rows.{keyfind}
use Rattle.rh_otp_node.specs.Live.{LiveView, is_alive}
use Rattle.rh_otp_sim.specs.Acting.{acted, acted_at_once, is_acted, is_quiet_at_once}
use Rattle.rh_otp_sim.specs.Calls.{made_by}
use Rattle.rh_otp_sim.specs.Refusing.{node_in}
use Rattle.rh_otp_sim.specs.Sim.{LiveSimView, net_in}
use Rattle.rh_otp_sim.specs.Stepping.{cells_behind, with_step}
use Rattle.rh_otp_system.specs.declared.calls.Ask.TheVariants as ask
use Rattle.rh_otp_system.specs.declared.calls.Stage.TheVariants as stage
use Rattle.rh_otp_system.specs.declared.cell.Cell.TheVariants as cell
use Rattle.rh_otp_system.specs.Resting.{forgotten}
use Rattle.rh_otp_system.specs.State.{SystemView, node_at}
use Rattle.rh_agreement.specs.Laws.{IsAnsweredAlike, HasRoom}
use Rattle.rh_agreement.specs.Resting.{AreAnsweredAlike, held}
use Rattle.rh_agreement.proofs.Stepping.{manual}
use Rattle.rh_agreement_calls.specs.Starts.{is_dep}
use Rattle.rh_agreement_spread.specs.Calls.{AreAllOfAnyOrCalm}
use Rattle.rh_agreement_spread.specs.Starts.{CanBePlaced, CanBePlacedLive}
use Rattle.rh_agreement_spread.proofs.Calls.{calls_of_any_alike}
use Rattle.rh_agreement_spread.proofs.Rows.{state_up, state_is, sim, live, live_node, dist, knows_itself, stop_row, together, runs, always}
use Rattle.rh_agreement_spread.proofs.Rows.{room as first_room}
use Rattle.rh_agreement_spread.proofs.RowsCluster.{a, web, mail, shop, file}
use Rattle.rh_agreement_spread.proofs.StartAlike.{starts_alike}
use Rattle.rh_otp_controller.specs.Calls.{start as controller_start, stop as controller_stop, permit as controller_permit, top_ends as controller_top_ends}
use Rattle.rh_otp_controller.specs.Changes.{do_start as controller_do_start, change as controller_change, received as controller_received}
use Rattle.rh_otp_controller.specs.Starting.{spawn_starter as controller_spawn_starter, reply_to_requester as controller_reply_to_requester, has_started as controller_has_started, start_reply as controller_start_reply}
use Rattle.rh_otp_dist.specs.Attempts.{finish as dist_finish, runs_elsewhere as dist_runs_elsewhere}
use Rattle.rh_otp_dist.specs.Calls.{take_over as dist_take_over, permit as dist_permit, get_nodes as dist_get_nodes}
use Rattle.rh_otp_dist.specs.Choosing.{start_here as dist_start_here, is_to_start as dist_is_to_start, find_start_node as dist_find_start_node, start_distributed as dist_start_distributed, start_appl as dist_start_appl}
use Rattle.rh_otp_dist.specs.Down.{check_waiting as dist_check_waiting, node_down as dist_node_down}
use Rattle.rh_otp_dist.specs.Outside.{introduced_to as dist_introduced_to}
use Rattle.rh_otp_dist.specs.Received.{handle_next as dist_handle_next}
use Rattle.rh_otp_dist.specs.Sending.{del_t_reqs as dist_del_t_reqs}
use Rattle.rh_otp_dist.specs.Told.{run as dist_run, answer_ends as dist_answer_ends, not_run as dist_not_run, stopped as dist_stopped, new_node as dist_new_node, answer_permits as dist_answer_permits, app_started as dist_app_started, app_stopped as dist_app_stopped, weight_told as dist_weight_told, restart as dist_restart, new_permission as dist_new_permission}
use Rattle.rh_otp_net.specs.Links.{to_connect as net_to_connect}
use Rattle.rh_otp_node.specs.Turns.{controlled_by as node_controlled_by, terminated_by as node_terminated_by, handled_by as node_handled_by, introduced_by as node_introduced_by}
use Rattle.rh_otp_system.specs.Calling.{lock_call as system_lock_call, wait_for_lock as system_wait_for_lock, behind_sync as system_behind_sync, go_on_call as system_go_on_call, call_received as system_call_received}
use Rattle.rh_otp_system.specs.Connecting.{connect as system_connect}
use Rattle.rh_otp_system.specs.Delivering.{delivered as system_delivered, slowed as system_slowed}
use Rattle.rh_otp_system.specs.Doing.{waited_for as system_waited_for, booted as system_booted, called as system_called, fired_next as system_fired_next, ticked as system_ticked, is_ticked as system_is_ticked}
use Rattle.rh_otp_system.specs.Ending.{down_told as system_down_told, taken_down as system_taken_down, ended as system_ended, stopped as system_stopped}
use Rattle.rh_otp_system.specs.Joining.{join as system_join, has_seen as system_has_seen, boot_next as system_boot_next}
use Rattle.rh_otp_system.specs.Moves.{made as system_made}
use Rattle.rh_otp_system.specs.Resting.{rested as system_rested, forgotten as system_forgotten}
use Rattle.rh_otp_system.specs.Sending.{told as system_told, after as system_after}
use Rattle.rh_otp_system.specs.Working.{take_lock as system_take_lock, gone as system_gone, handled as system_handled, work as system_work, mailed as system_mailed}

-- ---- it was stopped: by the manual's rules

abbrev stopped_sim : SimView
stopped_sim = (served sim (call.Step (event.Stop a web))).sim

abbrev state_then : StateView
state_then = record state_up { running = [] ∷ []; standings = Quiet ∷ Wanted None ∷ [] }

stop_is : step First state_up (event.Stop a web) ≡ state_then
unfolding step next followed stopped is_ready all_alive come_up_if_ready ready_come_up configured nodes_of apps_of local_moves placements
    takeovers can_start deps_run next_moves moved_by all_moved is_operational candidates best calls_away
stop_is = refl

accepted : refused state_up (event.Stop a web) ≡ None
unfolding refused
accepted = refl

sim_is : stopped_sim ≡ with_event sim (event.Stop a web)
sim_is =
    ap (λ (s : Served). s.sim)
    (manual sim (event.Stop a web) (ap (λ (s : StateView). refused s (event.Stop a web)) state_is ∙ accepted) (omega arith))

state_so : state_of stopped_sim ≡ state_then
state_so = ap state_of sim_is ∙ ap (λ (s : StateView). step First s (event.Stop a web)) state_is ∙ stop_is

-- ---- and on live nodes

abbrev stopped_live : LiveSimView
stopped_live = made_by (call.Step (event.Stop a web)) live

-- its dist_ac knows of nobody that runs it
abbrev stopped_dist : DistView
stopped_dist = record dist {
  started = mail ∷ [];
  appls = record { standing = standing.Undefined; losses = 0 } ∷ record { standing = standing.Undefined; losses = 0 } ∷ [];
}

abbrev stopped_node : LiveView
stopped_node = record live_node {
  controller = record live_node.controller { running = []; started = (mail, Some Temporary) ∷ [] };
  dist = Some stopped_dist;
}

abbrev last : SystemView
last = record {
  cluster = shop;
  files = file ∷ [];
  nodes = record {
    base = cell.Node live_node ∷ cell.Net (net_in live) ∷ [];
    cells = cell.Node stopped_node ∷ cell.Net (net_in live) ∷ [];
  };
  clock = 0;
  step = 2;
  last_call = 1;
  alive = a ∷ [];
  links = [];
  locks = [];
  timers = [];
  calls =
      record { number = 1; ask = ask.Stop; node = a; life = 1; app = web; only_loaded = false; stage = stage.Done outcome.Done } ∷ [];
  asleep = [];
  told = [];
  messages = [];
  slow = [];
  answers = [];
  events = seen.Stopped web a ∷ seen.Answered 1 ∷ [];
  is_ticking = false;
  ends_soon = false;
}

live_is : stopped_live ≡ with_step (cells_behind (net_in live) 1 last) live
unfolding acted acted_at_once is_acted is_quiet_at_once controller_start controller_stop controller_permit controller_top_ends controller_do_start controller_change controller_received controller_spawn_starter controller_reply_to_requester controller_has_started controller_start_reply dist_finish dist_runs_elsewhere dist_take_over dist_permit dist_get_nodes dist_start_here dist_is_to_start dist_find_start_node dist_start_distributed dist_start_appl dist_check_waiting dist_node_down dist_introduced_to dist_handle_next dist_del_t_reqs dist_run dist_answer_ends dist_not_run dist_stopped dist_new_node dist_answer_permits dist_app_started dist_app_stopped dist_weight_told dist_restart dist_new_permission net_to_connect node_controlled_by node_terminated_by node_handled_by node_introduced_by system_lock_call system_wait_for_lock system_behind_sync system_go_on_call system_call_received system_connect system_delivered system_slowed system_waited_for system_booted system_called system_fired_next system_ticked system_is_ticked system_down_told system_taken_down system_ended system_stopped system_join system_has_seen system_boot_next system_made system_rested system_forgotten system_told system_after system_take_lock system_gone system_handled system_work system_mailed
live_is = refl

-- ---- it can start on both sides

-- no other node could run it
none_else : (k : ℕ) → is_operational state_then web (numbered k) ≡ false
unfolding is_operational
none_else zero = refl
none_else (suc k) = refl

needs_none : (k : ℕ) → list_any (is_dep web) (deps_of shop (app_numbered k)) ≡ false
needs_none zero = refl
needs_none (suc zero) = refl
needs_none (suc (suc k)) = refl

can_then : CanBePlaced state_then a web
unfolding deps_run configured nodes_of apps_of
can_then = record {
  app = omega arith;
  up = refl;
  spread = refl;
  listed = refl;
  quiet = refl;
  off = refl;
  may = refl;
  needs = refl;
  first = λ m is. absurd (false≢true (sym (none_else m.0) ∙ is));
  unneeded = λ b waits. needs_none b.0;
}

can : CanBePlaced (state_of stopped_sim) a web
can = subst (λ (s : StateView). CanBePlaced s a web) (sym state_so) can_then

abbrev live_then : LiveSimView
live_then = with_step (cells_behind (net_in live) 1 last) live

dist_then : (k : ℕ) (d : DistView) → (node_at (held live_then) (numbered k)).dist ≡ Some d → stopped_dist ≡ d
unfolding forgotten
dist_then zero d has = same_Some stopped_dist d has
dist_then (suc zero) d has = absurd (none-some d has)
dist_then (suc (suc k)) d has = absurd (none-some d has)

nobody_else : (k : ℕ) → k ≢ 0 → is_alive (node_in live_then (numbered k)) ≡ true
    → is_here (keyfind web (node_in live_then (numbered k)).controller.running) ≡ false
nobody_else zero other alive = absurd (other refl)
nobody_else (suc zero) other alive = refl
nobody_else (suc (suc k)) other alive = refl

live_can_then : CanBePlacedLive live_then a web
unfolding forgotten
live_can_then = record {
  own = refl;
  off = refl;
  unasked = refl;
  started = refl;
  runs = refl;
  chosen = record {
    dist = stopped_dist;
    has = refl;
    takes_all = refl;
    unknown = refl;
    nobody = refl;
    first = refl;
    few = omega arith;
  };
  sees_all = record {
    takeovers = λ d has. ap (λ (x : DistView). x.t_reqs) (sym (dist_then 0 d has));
    sees = λ d has m among alive.
        knows_itself m.0 (held live_then).links (ap (λ (x : DistView). is_among m x.known) (dist_then 0 d has) ∙ among);
  };
  stays = refl;
  nowhere = λ m other alive. nobody_else m.0 other alive;
}

live_can : CanBePlacedLive stopped_live a web
live_can = subst (λ (l : LiveSimView). CanBePlacedLive l a web) (sym live_is) live_can_then

room : HasRoom stopped_sim stopped_live
room = record {
  steps = subst (λ (s : SimView). s.cursor < trail_limit) (sym sim_is) (omega arith);
  calls = subst (λ (l : LiveSimView). (net_in l).last_call < 4000000000) (sym live_is) (omega arith);
}

start_row : IsAnsweredAlike (call.Step (event.Start a web Permanent)) stopped_sim stopped_live
start_row = (starts_alike stopped_sim stopped_live a web Permanent stop_row.1 room stop_row.2 can live_can).0

start_told : (served stopped_sim (call.Step (event.Start a web Permanent))).reply ≡ reply.Done (notice.Started web a Normal None ∷ [])
start_told = (starts_alike stopped_sim stopped_live a web Permanent stop_row.1 room stop_row.2 can live_can).3

-- ---- and so both answer a stop, the start and `undo_all`, one after the other

calls : List Call
calls = call.Step (event.Stop a web) ∷ call.Step (event.Start a web Permanent) ∷ call.UndoAll ∷ []

each : AreAllOfAnyOrCalm calls sim live
unfolding calls
each = (inl (first_room, inl runs), (inl (room, inl (can, live_can)), (refl, tt)))

calls_row : AreAnsweredAlike calls sim live
calls_row = calls_of_any_alike sim live calls together always each
