-- Worked rows: a node that has booted two distributed applications, and runs the one that it may run, meets all that the laws ask: that one
-- is stopped there or ends by itself, and the other one, which waits, is stopped.
use Rattle.std.proofs.Common.{◌≡◌, ◌<◌, ◌≤◌, ◌+◌, ◌==◌, ◌&&◌, ◌||◌, ◌∙◌, ℕ, zero, suc, Bool, true, false, not, None, Some, List, [], ◌∷◌, inl, length, slice_get, refl, sym, ap, subst, arith}
use Rattle.std.specs.Prelude.{All}
use Rattle.std.proofs.lemmas.Bool.{false≢true, ne_eqb}
use Rattle.std.proofs.lemmas.Option.{none-some, same_Some}
use Rattle.std.proofs.lemmas.List.Elements.{All-nil, All-cons}
use Rattle.rh_model.specs.ClusterView.{numbered}
use Rattle.rh_model.specs.declared.node.App.{App}
use Rattle.rh_model.specs.declared.node.Node.{Node}
use Rattle.rh_model.specs.declared.settings.Restart.TheVariants.{Temporary}
use Rattle.rh_rules.specs.declared.event.Event.TheVariants as event
use Rattle.rh_rules.specs.declared.pick.Pick.TheVariants.{First}
use Rattle.rh_rules.specs.ByHand.{ends_node}
use Rattle.rh_rules.specs.Marking.{mark_all, with_mark}
use Rattle.rh_rules.specs.Moves.{local_moves, placements, takeovers, can_start}
use Rattle.rh_rules.specs.NodesStart.{all_alive, is_ready, come_up, come_up_if_ready, ready_come_up, booted}
use Rattle.rh_rules.specs.Placing.{deps_run}
use Rattle.rh_rules.specs.Refusals.{refused}
use Rattle.rh_rules.specs.Settling.{next_moves, moved_by, all_moved}
use Rattle.rh_rules.specs.Steps.{followed, next}
use Rattle.rh_state.specs.declared.status.Mode.TheVariants as mode
use Rattle.rh_state.specs.First.{first, configured}
use Rattle.rh_state.specs.Numbers.{nodes_of, apps_of}
use Rattle.rh_state.specs.Limits.{incarnation_limit}
use Rattle.rh_state.specs.StateView.{StateView, mode_of, incarnation_of, runs_at, restart_of}
use Rattle.rh_step.specs.Runs.{step}
use Rattle.rh_step.proofs.FirstStates.{first_valid}
use Rattle.rh_step.proofs.Validity.{next_valid}
use Rattle.rh_trace.specs.Validity.{IsValid}
use Rattle.rh_trail.specs.Lone.{opened, with_event}
use Rattle.rh_trail.specs.SimView.{SimView, state_of}
use Rattle.rh_otp_controller.specs.declared.state.Place.TheVariants.{Here}
use Rattle.rh_otp_model.specs.declared.output.Event.TheVariants as seen
use Rattle.rh_otp_model.specs.declared.process.StartType.TheVariants.{Normal}
use Rattle.rh_otp_model.specs.Own.{EntryView}
use Rattle.rh_otp_net.specs.declared.order.Order.TheVariants.{FirstComes}
use Rattle.rh_otp_node.specs.declared.node.Phase.TheVariants as phase
use Rattle.rh_otp_node.specs.Live.{LiveView, never_begun, is_ending}
use Rattle.rh_otp_sim.specs.Refusing.{node_in, phase_in, life_in}
use Rattle.rh_otp_sim.specs.Acting.{most_moves}
use Rattle.rh_otp_sim.specs.Sim.{LiveSimView, net_in, first_net}
use Rattle.rh_otp_sim.specs.Sim.{opened as live_opened}
use Rattle.rh_otp_sim.specs.Stepping.{cells_behind, with_step}
use Rattle.rh_otp_system.specs.declared.cell.Cell.TheVariants as cell
use Rattle.rh_otp_system.specs.Doing.{booted as live_booted}
use Rattle.rh_otp_system.specs.Moves.{settled}
use Rattle.rh_otp_system.specs.Resting.{forgotten, rested}
use Rattle.rh_otp_system.specs.State.{SystemView, node_at, own_at, is_alive_at}
use Rattle.rh_otp_laws.specs.Acting.{Acts, IsReached, later, acts, begins, rests}
use Rattle.rh_otp_laws.proofs.Commands.{commands_reached}
use Rattle.rh_agreement.specs.Telling.{TellTheSame, GoTogether, mode_of_phase}
use Rattle.rh_agreement.specs.Laws.{HasRoom}
use Rattle.rh_agreement.specs.Resting.{AreBothAtRest, AreAlwaysAtRest, held}
use Rattle.rh_agreement.proofs.Always.{then_rest}
use Rattle.rh_agreement.proofs.Beginning.{begin_together}
use Rattle.rh_agreement.proofs.Rest.{IsOver, rests_again, reached_again}
use Rattle.rh_agreement.proofs.AtFirst.{first_rest, begin_at_rest}
use Rattle.rh_agreement.proofs.Stepping.{one_more}
use Rattle.rh_agreement_calls.specs.Stops.{KeepsNodes, IsStoppedAlike}
use Rattle.rh_otp_controller.specs.Calls.{start as controller_start, stop as controller_stop, permit as controller_permit, top_ends as controller_top_ends}
use Rattle.rh_otp_controller.specs.Changes.{do_start as controller_do_start, change as controller_change, received as controller_received}
use Rattle.rh_otp_controller.specs.Starting.{spawn_starter as controller_spawn_starter, reply_to_requester as controller_reply_to_requester, has_started as controller_has_started, start_reply as controller_start_reply}
use Rattle.rh_otp_dist.specs.Attempts.{finish as dist_finish, runs_elsewhere as dist_runs_elsewhere}
use Rattle.rh_otp_dist.specs.Calls.{take_over as dist_take_over, permit as dist_permit, get_nodes as dist_get_nodes}
use Rattle.rh_otp_dist.specs.Choosing.{start_here as dist_start_here, is_to_start as dist_is_to_start, find_start_node as dist_find_start_node, start_distributed as dist_start_distributed, start_appl as dist_start_appl}
use Rattle.rh_otp_dist.specs.Down.{check_waiting as dist_check_waiting, node_down as dist_node_down}
use Rattle.rh_otp_dist.specs.Outside.{introduced_to as dist_introduced_to}
use Rattle.rh_otp_dist.specs.Received.{handle_next as dist_handle_next}
use Rattle.rh_otp_dist.specs.Sending.{del_t_reqs as dist_del_t_reqs}
use Rattle.rh_otp_dist.specs.Told.{run as dist_run, answer_ends as dist_answer_ends, not_run as dist_not_run, stopped as dist_stopped, new_node as dist_new_node, answer_permits as dist_answer_permits, app_started as dist_app_started, app_stopped as dist_app_stopped, weight_told as dist_weight_told, restart as dist_restart, new_permission as dist_new_permission}
use Rattle.rh_otp_net.specs.Links.{to_connect as net_to_connect}
use Rattle.rh_otp_node.specs.Turns.{controlled_by as node_controlled_by, terminated_by as node_terminated_by, handled_by as node_handled_by, introduced_by as node_introduced_by}
use Rattle.rh_otp_system.specs.Calling.{lock_call as system_lock_call, wait_for_lock as system_wait_for_lock, behind_sync as system_behind_sync, go_on_call as system_go_on_call, call_received as system_call_received}
use Rattle.rh_otp_system.specs.Connecting.{connect as system_connect}
use Rattle.rh_otp_system.specs.Delivering.{delivered as system_delivered, slowed as system_slowed}
use Rattle.rh_otp_system.specs.Doing.{waited_for as system_waited_for, booted as system_booted, called as system_called, fired_next as system_fired_next, ticked as system_ticked, is_ticked as system_is_ticked}
use Rattle.rh_otp_system.specs.Ending.{down_told as system_down_told, taken_down as system_taken_down, ended as system_ended, stopped as system_stopped}
use Rattle.rh_otp_system.specs.Joining.{join as system_join, has_seen as system_has_seen, boot_next as system_boot_next}
use Rattle.rh_otp_system.specs.Moves.{made as system_made}
use Rattle.rh_otp_system.specs.Resting.{rested as system_rested, forgotten as system_forgotten}
use Rattle.rh_otp_system.specs.Sending.{told as system_told, after as system_after}
use Rattle.rh_otp_system.specs.Working.{take_lock as system_take_lock, gone as system_gone, handled as system_handled, work as system_work, mailed as system_mailed}
use Rattle.rh_rules.specs.Placing.{is_operational, candidates, best}
use Rattle.rh_rules.specs.Moves.{calls_away}
use Rattle.rh_state.specs.declared.status.Standing.TheVariants.{Running, Wanted}
use Rattle.rh_state.specs.StateView.{waits_at}
use Rattle.rh_otp_dist.specs.State.{DistView, is_among}
use Rattle.rh_otp_dist.specs.declared.state.Stand.TheVariants as stand
use Rattle.rh_otp_dist.specs.declared.state.Standing.TheVariants as standing
use Rattle.rh_otp_dist.specs.Waiting.{takes}
use Rattle.rh_otp_net.specs.declared.links.Link.{Link}
use Rattle.rh_otp_net.specs.Links.{are_linked}
use Rattle.rh_otp_model.specs.declared.message.Message.{Message}
use Rattle.rh_otp_crashes.specs.Crashes.{IsUnoccupied}
use Rattle.rh_otp_stops.specs.Stops.{CanEnd}
use Rattle.rh_agreement_spread.specs.Stops.{CanEndThere, RunsOnBoth, WaitsOnBoth, IsLeftAlike}
use Rattle.rh_agreement_spread.proofs.RowsCluster.{a, web, mail, shop, file, entry_of, within}
use Rattle.rh_agreement_spread.proofs.StopAlike.{stops_alike, exits_alike, leaves_alike}

abbrev new_sim : SimView
new_sim = opened shop First

abbrev new_live : LiveSimView
new_live = live_opened shop (file ∷ []) FirstComes

-- ---- the application runs: by the manual's rules

abbrev pub state_up : StateView
state_up = record (first shop) {
  modes = mode.Up ∷ [];
  incarnations = 1 ∷ [];
  running = (web ∷ []) ∷ [];
  waiting = (mail ∷ []) ∷ [];
  standings = Running a ∷ Wanted None ∷ [];
}

pub state_is : step First (first shop) (event.Boot a) ≡ state_up
unfolding step next followed booted is_ready all_alive come_up come_up_if_ready ready_come_up mark_all with_mark nodes_of apps_of
    local_moves placements takeovers can_start deps_run configured next_moves moved_by all_moved is_operational candidates best calls_away
state_is = refl

abbrev pub sim : SimView
sim = with_event new_sim (event.Boot a)

-- ---- and on live nodes

abbrev pub dist : DistView
dist = record {
  stand = stand.Idle;
  mail = [];
  is_synchronised = true;
  known = a ∷ [];
  remote_started = [];
  started = mail ∷ web ∷ [];
  tmp_locals = [];
  tmp_weights = [];
  t_reqs = [];
  s_reqs = [];
  p_reqs = [];
  monitored = [];
  parked = [];
  appls = record { standing = standing.Local; losses = 0 } ∷ record { standing = standing.Undefined; losses = 0 } ∷ [];
  may = (true ∷ false ∷ []) ∷ [];
}

abbrev pub live_node : LiveView
live_node = record {
  life = 1;
  phase = phase.Up;
  is_stopped = false;
  mandatory = [];
  optional = [];
  place = 3;
  controller = record {
    running = (web, Here) ∷ [];
    starting = [];
    started = (mail, Some Temporary) ∷ (web, Some Temporary) ∷ [];
    start_p_false = [];
    start_req = [];
    permissions = (web, true) ∷ (mail, false) ∷ [];
    ended = [];
    is_ending = false;
  };
  dist = Some dist;
  kinds = (web, Normal) ∷ [];
}

abbrev last : SystemView
last = record {
  cluster = shop;
  files = file ∷ [];
  nodes = record {
    base = cell.Node never_begun ∷ cell.Net first_net ∷ [];
    cells = cell.Node live_node ∷ cell.Net first_net ∷ [];
  };
  clock = 0;
  step = 1;
  last_call = 0;
  alive = a ∷ [];
  links = [];
  locks = [];
  timers = [];
  calls = [];
  asleep = [];
  told = [];
  messages = [];
  slow = [];
  answers = [];
  events = seen.Up a ∷ seen.Started web a Normal ∷ seen.Booted a ∷ [];
  is_ticking = false;
  ends_soon = false;
}

last_is : rested (settled most_moves FirstComes (live_booted a (held new_live))) ≡ last
unfolding controller_start controller_stop controller_permit controller_top_ends controller_do_start controller_change controller_received controller_spawn_starter controller_reply_to_requester controller_has_started controller_start_reply dist_finish dist_runs_elsewhere dist_take_over dist_permit dist_get_nodes dist_start_here dist_is_to_start dist_find_start_node dist_start_distributed dist_start_appl dist_check_waiting dist_node_down dist_introduced_to dist_handle_next dist_del_t_reqs dist_run dist_answer_ends dist_not_run dist_stopped dist_new_node dist_answer_permits dist_app_started dist_app_stopped dist_weight_told dist_restart dist_new_permission net_to_connect node_controlled_by node_terminated_by node_handled_by node_introduced_by system_lock_call system_wait_for_lock system_behind_sync system_go_on_call system_call_received system_connect system_delivered system_slowed system_waited_for system_booted system_called system_fired_next system_ticked system_is_ticked system_down_told system_taken_down system_ended system_stopped system_join system_has_seen system_boot_next system_made system_rested system_forgotten system_told system_after system_take_lock system_gone system_handled system_work system_mailed
last_is = refl

abbrev pub live : LiveSimView
live = with_step (cells_behind (net_in new_live) 1 last) new_live

abbrev IsLater : EntryView → Type 0
IsLater e = 0 < e.timeout

no_timeouts : (k : ℕ) → All IsLater (own_at (held new_live) (numbered k)).entries
unfolding forgotten
no_timeouts zero =
    All-cons IsLater (entry_of web) (entry_of mail ∷ []) (omega arith) (All-cons IsLater (entry_of mail) [] (omega arith) (All-nil IsLater))
no_timeouts (suc k) = All-nil IsLater

first_at_rest : AreBothAtRest new_sim new_live
first_at_rest = first_rest shop First (file ∷ []) FirstComes within (λ n. no_timeouts n.0)

starts : Acts (held new_live) (live_booted a (held new_live))
unfolding forgotten
starts = begins (held new_live) a (never_begun, refl) refl

last_reached : IsReached last
last_reached =
    let up : SystemView = live_booted a (held new_live) in
    let over : SystemView = settled most_moves FirstComes up in
    subst IsReached last_is
    (later over (rested over)
    (commands_reached.settles_there most_moves FirstComes up
    (later (held new_live) up first_at_rest.reached (acts (held new_live) up starts))) (rests over))

alive_in : (k i : ℕ) → slice_get (a ∷ []) i ≡ Some (numbered k) → is_alive_at last (numbered k) ≡ true
alive_in k zero is = ap (λ (n : Node). is_alive_at last n) (sym (same_Some a (numbered k) is))
alive_in k (suc i) is = absurd (none-some (numbered k) is)

unoccupied : IsUnoccupied dist
unoccupied = record {
  stand = inl refl;
  mail = All-nil (λ (m : Message). takes stand.Idle m ≡ false);
  permits = refl;
  parked = refl;
}

dist_at : (k : ℕ) (d : DistView) → (node_at last (numbered k)).dist ≡ Some d → IsUnoccupied d
dist_at zero d has = subst IsUnoccupied (same_Some dist d has) unoccupied
dist_at (suc zero) d has = absurd (none-some d has)
dist_at (suc (suc k)) d has = absurd (none-some d has)

no_end : (k : ℕ) → (is_ending (node_at last (numbered k)) && not (node_at last (numbered k)).is_stopped) ≡ false
no_end zero = refl
no_end (suc zero) = refl
no_end (suc (suc k)) = refl

nobody_in : (k : ℕ) → k ≡ 1 → is_alive_at last (numbered k) ≡ false
nobody_in k is = ap (λ (j : ℕ). is_alive_at last (numbered j)) is

is_over : IsOver new_live last
is_over = record {
  inside = omega arith;
  idle = record {
    calls = refl;
    listed = λ n among. alive_in n.0 among.0 among.1;
    dists = λ n d alive has. dist_at n.0 d has;
    ends = λ n alive. no_end n.0;
  };
  reached = last_reached;
  is_quiet = (refl, refl);
  cluster = refl;
  files = refl;
  nobody = λ n there. nobody_in n.0 there;
}

-- ---- both tell the same of it, and are at rest

modes_so : (k : ℕ) → k < 1 → mode_of_phase (phase_in live (numbered k)) ≡ mode_of state_up (numbered k)
modes_so zero inside = refl
modes_so (suc k) inside = absurd (omega (arith, inside))

begun_so : (k : ℕ) → k < 1
    → (life_in live (numbered k) ≡ incarnation_of state_up (numbered k)) × (incarnation_of state_up (numbered k) ≤ incarnation_limit)
begun_so zero inside = (refl, omega arith)
begun_so (suc k) inside = absurd (omega (arith, inside))

tells : TellTheSame state_up live
tells = record {
  cluster = refl;
  clock = refl;
  modes = λ n inside. modes_so n.0 inside;
  begun = λ n inside. (begun_so n.0 inside).0;
  limited = λ n inside. (begun_so n.0 inside).1;
  cells = omega arith;
}

pub together : GoTogether sim live
together =
    one_more new_sim new_live (event.Boot a) (cells_behind (net_in new_live) 1 last) (begin_together shop First (file ∷ []) FirstComes)
    (subst (λ (s : StateView). TellTheSame s live) (sym state_is) tells)

accepted : refused (first shop) (event.Boot a) ≡ None
unfolding refused
accepted = refl

is_valid : IsValid (state_of sim)
unfolding step
is_valid = next_valid (first shop) (event.Boot a) First (first_valid shop within) accepted

at_rest : AreBothAtRest sim live
unfolding forgotten
at_rest = record {
  valid = is_valid;
  reached = reached_again new_live last is_over;
  rest = rests_again new_live last is_over;
  later = λ n. no_timeouts n.0;
}

-- now, and behind each number of steps
pub always : AreAlwaysAtRest sim live
always =
    then_rest new_sim new_live (event.Boot a) (cells_behind (net_in new_live) 1 last) (begin_together shop First (file ∷ []) FirstComes)
    (begin_at_rest shop First (file ∷ []) FirstComes within (λ n. no_timeouts n.0)) at_rest

pub room : HasRoom sim live
room = record { steps = omega arith; calls = omega arith }

-- ---- and all else that the laws ask

pub dist_is : (k : ℕ) (d : DistView) → (node_at (held live) (numbered k)).dist ≡ Some d → dist ≡ d
unfolding forgotten
dist_is zero d has = same_Some dist d has
dist_is (suc zero) d has = absurd (none-some d has)
dist_is (suc (suc k)) d has = absurd (none-some d has)

-- it knows no other node
pub knows_itself : (k : ℕ) (links : List Link) → is_among (numbered k) (a ∷ []) ≡ true
    → (a.0 == k || are_linked a (numbered k) links) ≡ true
knows_itself zero links among = refl
knows_itself (suc k) links among =
    absurd (false≢true (sym (ap (λ (b : Bool). b || false) (ne_eqb (suc k) 0 (λ is. omega (arith, is)))) ∙ among))

can_end : (x : App) → CanEnd a x (held live)
unfolding forgotten
can_end x = record {
  tells = λ controlled. record {
    sees_all = record {
      takeovers = λ d has. ap (λ (y : DistView). y.t_reqs) (sym (dist_is 0 d has));
      sees = λ d has m among alive.
          knows_itself m.0 (held live).links (ap (λ (y : DistView). is_among m y.known) (dist_is 0 d has) ∙ among);
    };
    ends = λ d has. ap (λ (y : DistView). y.s_reqs) (sym (dist_is 0 d has));
  };
}

can : (x : App) → CanEndThere a x live
unfolding forgotten
can x = record {
  stays = refl;
  ends = can_end x;
  few = λ controlled d has. subst (λ (y : DistView). length y.known + 3 < most_moves) (dist_is 0 d has) (omega arith);
}

pub runs : RunsOnBoth a web sim live
unfolding forgotten
runs = record { runs = ap (λ (s : StateView). runs_at s a web) state_is; live_runs = refl; can = can web }

pub waits : WaitsOnBoth a mail sim live
unfolding forgotten
waits = record {
  waits = ap (λ (s : StateView). waits_at s a mail) state_is;
  live_waits = refl;
  live_runs_not = refl;
  can = can mail;
}

pub stop_row : IsStoppedAlike (event.Stop a web) a web sim live
stop_row = stops_alike sim live a web together room at_rest runs

leave_row : IsLeftAlike (event.Stop a mail) sim live
leave_row = leaves_alike sim live a mail together room at_rest waits

none_ends : (k : ℕ) → is_ending (node_in live (numbered k)) ≡ false
none_ends zero = refl
none_ends (suc zero) = refl
none_ends (suc (suc k)) = refl

keeps : KeepsNodes a web false sim live
keeps = record {
  keeps = ap (λ (s : StateView). ends_node (restart_of s a web) false) state_is;
  live_keeps = refl;
  stay = λ m alive. none_ends m.0;
}

-- not even where it fails, since it is temporary
exit_row : IsStoppedAlike (event.Exit a web false) a web sim live
exit_row = exits_alike sim live a web false together room at_rest runs keeps
