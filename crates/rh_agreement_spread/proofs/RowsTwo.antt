-- Worked rows of two nodes, which have booted, and run nothing yet.
use Rattle.std.proofs.Common.{◌≡◌, ◌<◌, ◌≤◌, ◌&&◌, ◌∙◌, ℕ, zero, suc, true, false, not, None, Some, List, [], ◌∷◌, inl, inr, slice_get, refl, sym, ap, subst, arith}
use Rattle.std.specs.Prelude.{All}
use Rattle.std.proofs.lemmas.Option.{none-some, same_Some}
use Rattle.std.proofs.lemmas.List.Elements.{All-nil, All-cons}
use Rattle.rh_model.specs.ClusterView.{numbered}
use Rattle.rh_model.specs.declared.node.Node.{Node}
use Rattle.rh_rules.specs.declared.event.Event.TheVariants as event
use Rattle.rh_rules.specs.declared.pick.Pick.TheVariants.{First}
use Rattle.rh_rules.specs.Marking.{mark_all, with_mark}
use Rattle.rh_rules.specs.Moves.{local_moves, placements, takeovers, can_start}
use Rattle.rh_rules.specs.NodesStart.{all_alive, is_ready, come_up, come_up_if_ready, ready_come_up, booted}
use Rattle.rh_rules.specs.Placing.{deps_run}
use Rattle.rh_rules.specs.Refusals.{refused}
use Rattle.rh_rules.specs.Settling.{next_moves, moved_by, all_moved}
use Rattle.rh_rules.specs.Steps.{followed, next}
use Rattle.rh_state.specs.declared.status.Mode.TheVariants as mode
use Rattle.rh_state.specs.First.{first, configured}
use Rattle.rh_state.specs.Numbers.{nodes_of, apps_of}
use Rattle.rh_state.specs.Limits.{incarnation_limit}
use Rattle.rh_state.specs.StateView.{StateView, mode_of, incarnation_of}
use Rattle.rh_step.specs.Runs.{step}
use Rattle.rh_step.proofs.FirstStates.{first_valid}
use Rattle.rh_step.proofs.Validity.{next_valid}
use Rattle.rh_trace.specs.Validity.{IsValid}
use Rattle.rh_trail.specs.Lone.{opened, with_event}
use Rattle.rh_trail.specs.SimView.{SimView, state_of}
use Rattle.rh_otp_model.specs.declared.output.Event.TheVariants as seen
use Rattle.rh_otp_model.specs.Own.{EntryView}
use Rattle.rh_otp_net.specs.declared.order.Order.TheVariants.{FirstComes}
use Rattle.rh_otp_node.specs.declared.node.Phase.TheVariants as phase
use Rattle.rh_otp_node.specs.Live.{LiveView, never_begun, is_ending}
use Rattle.rh_otp_sim.specs.Refusing.{phase_in, life_in}
use Rattle.rh_otp_sim.specs.Acting.{most_moves}
use Rattle.rh_otp_sim.specs.Sim.{LiveSimView, net_in, first_net}
use Rattle.rh_otp_sim.specs.Sim.{opened as live_opened}
use Rattle.rh_otp_sim.specs.Stepping.{cells_behind, with_step}
use Rattle.rh_otp_system.specs.declared.cell.Cell.TheVariants as cell
use Rattle.rh_otp_system.specs.Doing.{booted as live_booted}
use Rattle.rh_otp_system.specs.Moves.{settled}
use Rattle.rh_otp_system.specs.Resting.{forgotten, rested}
use Rattle.rh_otp_system.specs.State.{SystemView, node_at, own_at, is_alive_at}
use Rattle.rh_otp_laws.specs.Acting.{Acts, IsReached, later, acts, begins, rests}
use Rattle.rh_otp_laws.proofs.Commands.{commands_reached}
use Rattle.rh_agreement.specs.Telling.{TellTheSame, GoTogether, mode_of_phase}
use Rattle.rh_agreement.specs.Resting.{AreBothAtRest, held}
use Rattle.rh_agreement.proofs.Beginning.{begin_together}
use Rattle.rh_agreement.proofs.Rest.{IsOver, rests_again, reached_again}
use Rattle.rh_agreement.proofs.AtFirst.{first_rest}
use Rattle.rh_agreement.proofs.Stepping.{one_more}
use Rattle.rh_otp_controller.specs.Calls.{start as controller_start, stop as controller_stop, permit as controller_permit, top_ends as controller_top_ends}
use Rattle.rh_otp_controller.specs.Changes.{do_start as controller_do_start, change as controller_change, received as controller_received}
use Rattle.rh_otp_controller.specs.Starting.{spawn_starter as controller_spawn_starter, reply_to_requester as controller_reply_to_requester, has_started as controller_has_started, start_reply as controller_start_reply}
use Rattle.rh_otp_dist.specs.Attempts.{finish as dist_finish, runs_elsewhere as dist_runs_elsewhere}
use Rattle.rh_otp_dist.specs.Calls.{take_over as dist_take_over, permit as dist_permit, get_nodes as dist_get_nodes}
use Rattle.rh_otp_dist.specs.Choosing.{start_here as dist_start_here, is_to_start as dist_is_to_start, find_start_node as dist_find_start_node, start_distributed as dist_start_distributed, start_appl as dist_start_appl}
use Rattle.rh_otp_dist.specs.Down.{check_waiting as dist_check_waiting, node_down as dist_node_down}
use Rattle.rh_otp_dist.specs.Outside.{introduced_to as dist_introduced_to}
use Rattle.rh_otp_dist.specs.Received.{handle_next as dist_handle_next}
use Rattle.rh_otp_dist.specs.Sending.{del_t_reqs as dist_del_t_reqs}
use Rattle.rh_otp_dist.specs.Told.{run as dist_run, answer_ends as dist_answer_ends, not_run as dist_not_run, stopped as dist_stopped, new_node as dist_new_node, answer_permits as dist_answer_permits, app_started as dist_app_started, app_stopped as dist_app_stopped, weight_told as dist_weight_told, restart as dist_restart, new_permission as dist_new_permission}
use Rattle.rh_otp_net.specs.Links.{to_connect as net_to_connect}
use Rattle.rh_otp_node.specs.Turns.{controlled_by as node_controlled_by, terminated_by as node_terminated_by, handled_by as node_handled_by, introduced_by as node_introduced_by}
use Rattle.rh_otp_system.specs.Calling.{lock_call as system_lock_call, wait_for_lock as system_wait_for_lock, behind_sync as system_behind_sync, go_on_call as system_go_on_call, call_received as system_call_received}
use Rattle.rh_otp_system.specs.Connecting.{connect as system_connect}
use Rattle.rh_otp_system.specs.Delivering.{delivered as system_delivered, slowed as system_slowed}
use Rattle.rh_otp_system.specs.Doing.{waited_for as system_waited_for, booted as system_booted, called as system_called, fired_next as system_fired_next, ticked as system_ticked, is_ticked as system_is_ticked}
use Rattle.rh_otp_system.specs.Ending.{down_told as system_down_told, taken_down as system_taken_down, ended as system_ended, stopped as system_stopped}
use Rattle.rh_otp_system.specs.Joining.{join as system_join, has_seen as system_has_seen, boot_next as system_boot_next}
use Rattle.rh_otp_system.specs.Moves.{made as system_made}
use Rattle.rh_otp_system.specs.Resting.{rested as system_rested, forgotten as system_forgotten}
use Rattle.rh_otp_system.specs.Sending.{told as system_told, after as system_after}
use Rattle.rh_otp_system.specs.Working.{take_lock as system_take_lock, gone as system_gone, handled as system_handled, work as system_work, mailed as system_mailed}
use Rattle.rh_rules.specs.Placing.{is_operational, candidates, best}
use Rattle.rh_rules.specs.Moves.{calls_away}
use Rattle.rh_otp_dist.specs.State.{DistView}
use Rattle.rh_otp_dist.specs.declared.state.Stand.TheVariants as stand
use Rattle.rh_otp_dist.specs.declared.state.Standing.TheVariants as standing
use Rattle.rh_otp_dist.specs.Waiting.{takes}
use Rattle.rh_otp_model.specs.declared.message.Message.{Message}
use Rattle.rh_otp_crashes.specs.Crashes.{IsUnoccupied}
use Rattle.rh_state.specs.declared.status.Timer.TheVariants.{Sync}
use Rattle.rh_otp_model.specs.declared.process.Role.TheVariants as role
use Rattle.rh_otp_model.specs.declared.message.Message.TheVariants as message
use Rattle.rh_otp_net.specs.declared.timers.Timer.{Timer}
use Rattle.rh_agreement_spread.proofs.RowsPair.{a, b, web, two, file, within}

abbrev pub new_sim : SimView
new_sim = opened two First

abbrev pub new_live : LiveSimView
new_live = live_opened two (file ∷ file ∷ []) FirstComes

-- ---- by the manual's rules the first one waits for the second, and then both are up

abbrev state_one : StateView
state_one = record (first two) { modes = mode.Waiting ∷ mode.Down ∷ []; incarnations = 1 ∷ 0 ∷ []; timers = (12000, Sync a) ∷ [] }

abbrev pub state_two : StateView
state_two = record (first two) { modes = mode.Up ∷ mode.Up ∷ []; incarnations = 1 ∷ 1 ∷ [] }

one_is : step First (first two) (event.Boot a) ≡ state_one
unfolding step next followed booted is_ready all_alive come_up come_up_if_ready ready_come_up mark_all with_mark nodes_of apps_of
    local_moves placements takeovers can_start deps_run configured next_moves moved_by all_moved is_operational candidates best calls_away
one_is = refl

two_is : step First state_one (event.Boot b) ≡ state_two
unfolding step next followed booted is_ready all_alive come_up come_up_if_ready ready_come_up mark_all with_mark nodes_of apps_of
    local_moves placements takeovers can_start deps_run configured next_moves moved_by all_moved is_operational candidates best calls_away
two_is = refl

-- ---- and on live nodes

abbrev pub dist_waiting : DistView
dist_waiting = record {
  stand = stand.ForGo;
  mail = [];
  is_synchronised = false;
  known = [];
  remote_started = [];
  started = [];
  tmp_locals = [];
  tmp_weights = [];
  t_reqs = [];
  s_reqs = [];
  p_reqs = [];
  monitored = [];
  parked = [];
  appls = record { standing = standing.Undefined; losses = 0 } ∷ [];
  may = (true ∷ []) ∷ (false ∷ []) ∷ [];
}

abbrev pub node_waiting : LiveView
node_waiting = record {
  life = 1;
  phase = phase.Waiting;
  is_stopped = false;
  mandatory = [];
  optional = b ∷ [];
  place = 0;
  controller = record {
    running = [];
    starting = [];
    started = [];
    start_p_false = [];
    start_req = [];
    permissions = (web, true) ∷ [];
    ended = [];
    is_ending = false;
  };
  dist = Some dist_waiting;
  kinds = [];
}

abbrev pub last_one : SystemView
last_one = record {
  cluster = two;
  files = file ∷ file ∷ [];
  nodes = record {
    base = cell.Node never_begun ∷ cell.Node never_begun ∷ cell.Net first_net ∷ [];
    cells = cell.Node node_waiting ∷ cell.Node never_begun ∷ cell.Net first_net ∷ [];
  };
  clock = 0;
  step = 1;
  last_call = 0;
  alive = a ∷ [];
  links = [];
  locks = [];
  timers = record {
    due = 12000;
    step = 1;
    to = record { role = role.KernelConfig; node = a; life = 1 };
    message = message.Timeout;
  } ∷ [];
  calls = [];
  asleep = [];
  told = [];
  messages = [];
  slow = [];
  answers = [];
  events = [];
  is_ticking = false;
  ends_soon = false;
}

last_one_is : rested (settled most_moves FirstComes (live_booted a (held new_live))) ≡ last_one
unfolding controller_start controller_stop controller_permit controller_top_ends controller_do_start controller_change controller_received controller_spawn_starter controller_reply_to_requester controller_has_started controller_start_reply dist_finish dist_runs_elsewhere dist_take_over dist_permit dist_get_nodes dist_start_here dist_is_to_start dist_find_start_node dist_start_distributed dist_start_appl dist_check_waiting dist_node_down dist_introduced_to dist_handle_next dist_del_t_reqs dist_run dist_answer_ends dist_not_run dist_stopped dist_new_node dist_answer_permits dist_app_started dist_app_stopped dist_weight_told dist_restart dist_new_permission net_to_connect node_controlled_by node_terminated_by node_handled_by node_introduced_by system_lock_call system_wait_for_lock system_behind_sync system_go_on_call system_call_received system_connect system_delivered system_slowed system_waited_for system_booted system_called system_fired_next system_ticked system_is_ticked system_down_told system_taken_down system_ended system_stopped system_join system_has_seen system_boot_next system_made system_rested system_forgotten system_told system_after system_take_lock system_gone system_handled system_work system_mailed
last_one_is = refl

abbrev pub live_one : LiveSimView
live_one = with_step (cells_behind (net_in new_live) 2 last_one) new_live

-- each knows the other then
abbrev pub dist_up : List Node → DistView
dist_up known = record dist_waiting { stand = stand.Idle; is_synchronised = true; known = known; may = (true ∷ []) ∷ (true ∷ []) ∷ [] }

abbrev pub node_up : List Node → LiveView
node_up known = record node_waiting { phase = phase.Up; optional = []; place = 1; dist = Some (dist_up known) }

abbrev timer_of : Node → ℕ → Timer
timer_of n at = record {
  due = 12000;
  step = at;
  to = record { role = role.KernelConfig; node = n; life = 1 };
  message = message.Timeout;
}

abbrev pub last_two : SystemView
last_two = record {
  cluster = two;
  files = file ∷ file ∷ [];
  nodes = record {
    base = cell.Node node_waiting ∷ cell.Node never_begun ∷ cell.Net (net_in live_one) ∷ [];
    cells = cell.Node (node_up (b ∷ a ∷ [])) ∷ cell.Node (node_up (a ∷ b ∷ [])) ∷ cell.Net (net_in live_one) ∷ [];
  };
  clock = 0;
  step = 2;
  last_call = 0;
  alive = a ∷ b ∷ [];
  links = (b, a) ∷ [];
  locks = [];
  timers = timer_of a 1 ∷ timer_of b 2 ∷ [];
  calls = [];
  asleep = [];
  told = [];
  messages = [];
  slow = [];
  answers = [];
  events = seen.Up b ∷ seen.Up a ∷ seen.Booted b ∷ seen.Booted a ∷ [];
  is_ticking = false;
  ends_soon = false;
}

last_two_is : rested (settled most_moves FirstComes (live_booted b (held live_one))) ≡ last_two
unfolding controller_start controller_stop controller_permit controller_top_ends controller_do_start controller_change controller_received controller_spawn_starter controller_reply_to_requester controller_has_started controller_start_reply dist_finish dist_runs_elsewhere dist_take_over dist_permit dist_get_nodes dist_start_here dist_is_to_start dist_find_start_node dist_start_distributed dist_start_appl dist_check_waiting dist_node_down dist_introduced_to dist_handle_next dist_del_t_reqs dist_run dist_answer_ends dist_not_run dist_stopped dist_new_node dist_answer_permits dist_app_started dist_app_stopped dist_weight_told dist_restart dist_new_permission net_to_connect node_controlled_by node_terminated_by node_handled_by node_introduced_by system_lock_call system_wait_for_lock system_behind_sync system_go_on_call system_call_received system_connect system_delivered system_slowed system_waited_for system_booted system_called system_fired_next system_ticked system_is_ticked system_down_told system_taken_down system_ended system_stopped system_join system_has_seen system_boot_next system_made system_rested system_forgotten system_told system_after system_take_lock system_gone system_handled system_work system_mailed
last_two_is = refl

abbrev pub live_two : LiveSimView
live_two = with_step (cells_behind (net_in live_one) 2 last_two) live_one

-- ---- live nodes are at rest behind each boot

abbrev pub IsLater : EntryView → Type 0
IsLater e = 0 < e.timeout

pub no_timeouts : (k : ℕ) → All IsLater (own_at (held new_live) (numbered k)).entries
unfolding forgotten
no_timeouts zero = All-cons IsLater _ [] (omega arith) (All-nil IsLater)
no_timeouts (suc zero) = All-cons IsLater _ [] (omega arith) (All-nil IsLater)
no_timeouts (suc (suc k)) = All-nil IsLater

first_at_rest : AreBothAtRest new_sim new_live
first_at_rest = first_rest two First (file ∷ file ∷ []) FirstComes within (λ n. no_timeouts n.0)

starts_one : Acts (held new_live) (live_booted a (held new_live))
unfolding forgotten
starts_one = begins (held new_live) a (never_begun, refl) refl

one_reached : IsReached last_one
one_reached =
    let up : SystemView = live_booted a (held new_live) in
    let over : SystemView = settled most_moves FirstComes up in
    subst IsReached last_one_is
    (later over (rested over)
    (commands_reached.settles_there most_moves FirstComes up
    (later (held new_live) up first_at_rest.reached (acts (held new_live) up starts_one))) (rests over))

one_alive : (k i : ℕ) → slice_get (a ∷ []) i ≡ Some (numbered k) → is_alive_at last_one (numbered k) ≡ true
one_alive k zero is = ap (λ (n : Node). is_alive_at last_one n) (sym (same_Some a (numbered k) is))
one_alive k (suc i) is = absurd (none-some (numbered k) is)

waiting_free : IsUnoccupied dist_waiting
waiting_free = record {
  stand = inr refl;
  mail = All-nil (λ (m : Message). takes stand.ForGo m ≡ false);
  permits = refl;
  parked = refl;
}

one_dists : (k : ℕ) (d : DistView) → (node_at last_one (numbered k)).dist ≡ Some d → IsUnoccupied d
one_dists zero d has = subst IsUnoccupied (same_Some dist_waiting d has) waiting_free
one_dists (suc zero) d has = absurd (none-some d has)
one_dists (suc (suc zero)) d has = absurd (none-some d has)
one_dists (suc (suc (suc k))) d has = absurd (none-some d has)

one_ends : (k : ℕ) → (is_ending (node_at last_one (numbered k)) && not (node_at last_one (numbered k)).is_stopped) ≡ false
one_ends zero = refl
one_ends (suc zero) = refl
one_ends (suc (suc zero)) = refl
one_ends (suc (suc (suc k))) = refl

one_nobody : (k : ℕ) → k ≡ 2 → is_alive_at last_one (numbered k) ≡ false
one_nobody k is = ap (λ (j : ℕ). is_alive_at last_one (numbered j)) is

pub one_over : IsOver new_live last_one
one_over = record {
  inside = omega arith;
  idle = record {
    calls = refl;
    listed = λ n among. one_alive n.0 among.0 among.1;
    dists = λ n d alive has. one_dists n.0 d has;
    ends = λ n alive. one_ends n.0;
  };
  reached = one_reached;
  is_quiet = (refl, refl);
  cluster = refl;
  files = refl;
  nobody = λ n there. one_nobody n.0 there;
}

starts_two : Acts (held live_one) (live_booted b (held live_one))
unfolding forgotten
starts_two = begins (held live_one) b (never_begun, refl) refl

two_reached : IsReached last_two
two_reached =
    let up : SystemView = live_booted b (held live_one) in
    let over : SystemView = settled most_moves FirstComes up in
    subst IsReached last_two_is
    (later over (rested over)
    (commands_reached.settles_there most_moves FirstComes up
    (later (held live_one) up (reached_again new_live last_one one_over) (acts (held live_one) up starts_two))) (rests over))

two_alive : (k i : ℕ) → slice_get (a ∷ b ∷ []) i ≡ Some (numbered k) → is_alive_at last_two (numbered k) ≡ true
two_alive k zero is = ap (λ (n : Node). is_alive_at last_two n) (sym (same_Some a (numbered k) is))
two_alive k (suc zero) is = ap (λ (n : Node). is_alive_at last_two n) (sym (same_Some b (numbered k) is))
two_alive k (suc (suc i)) is = absurd (none-some (numbered k) is)

up_free : (known : List Node) → IsUnoccupied (dist_up known)
up_free known = record {
  stand = inl refl;
  mail = All-nil (λ (m : Message). takes stand.Idle m ≡ false);
  permits = refl;
  parked = refl;
}

two_dists : (k : ℕ) (d : DistView) → (node_at last_two (numbered k)).dist ≡ Some d → IsUnoccupied d
two_dists zero d has = subst IsUnoccupied (same_Some (dist_up (b ∷ a ∷ [])) d has) (up_free (b ∷ a ∷ []))
two_dists (suc zero) d has = subst IsUnoccupied (same_Some (dist_up (a ∷ b ∷ [])) d has) (up_free (a ∷ b ∷ []))
two_dists (suc (suc zero)) d has = absurd (none-some d has)
two_dists (suc (suc (suc k))) d has = absurd (none-some d has)

two_ends : (k : ℕ) → (is_ending (node_at last_two (numbered k)) && not (node_at last_two (numbered k)).is_stopped) ≡ false
two_ends zero = refl
two_ends (suc zero) = refl
two_ends (suc (suc zero)) = refl
two_ends (suc (suc (suc k))) = refl

two_nobody : (k : ℕ) → k ≡ 2 → is_alive_at last_two (numbered k) ≡ false
two_nobody k is = ap (λ (j : ℕ). is_alive_at last_two (numbered j)) is

two_over : IsOver live_one last_two
two_over = record {
  inside = omega arith;
  idle = record {
    calls = refl;
    listed = λ n among. two_alive n.0 among.0 among.1;
    dists = λ n d alive has. two_dists n.0 d has;
    ends = λ n alive. two_ends n.0;
  };
  reached = two_reached;
  is_quiet = (refl, refl);
  cluster = refl;
  files = refl;
  nobody = λ n there. two_nobody n.0 there;
}

-- ---- both tell the same behind each boot, and are at rest

abbrev pub sim_one : SimView
sim_one = with_event new_sim (event.Boot a)

abbrev pub sim_two : SimView
sim_two = with_event sim_one (event.Boot b)

pub state_two_is : state_of sim_two ≡ state_two
state_two_is = ap (λ (s : StateView). step First s (event.Boot b)) one_is ∙ two_is

modes_one : (k : ℕ) → k < 2 → mode_of_phase (phase_in live_one (numbered k)) ≡ mode_of state_one (numbered k)
modes_one zero inside = refl
modes_one (suc zero) inside = refl
modes_one (suc (suc k)) inside = absurd (omega (arith, inside))

begun_one : (k : ℕ) → k < 2
    → (life_in live_one (numbered k) ≡ incarnation_of state_one (numbered k)) × (incarnation_of state_one (numbered k) ≤ incarnation_limit)
begun_one zero inside = (refl, omega arith)
begun_one (suc zero) inside = (refl, omega arith)
begun_one (suc (suc k)) inside = absurd (omega (arith, inside))

tells_one : TellTheSame state_one live_one
tells_one = record {
  cluster = refl;
  clock = refl;
  modes = λ n inside. modes_one n.0 inside;
  begun = λ n inside. (begun_one n.0 inside).0;
  limited = λ n inside. (begun_one n.0 inside).1;
  cells = omega arith;
}

pub together_one : GoTogether sim_one live_one
together_one =
    one_more new_sim new_live (event.Boot a) (cells_behind (net_in new_live) 2 last_one)
    (begin_together two First (file ∷ file ∷ []) FirstComes) (subst (λ (s : StateView). TellTheSame s live_one) (sym one_is) tells_one)

modes_two : (k : ℕ) → k < 2 → mode_of_phase (phase_in live_two (numbered k)) ≡ mode_of state_two (numbered k)
modes_two zero inside = refl
modes_two (suc zero) inside = refl
modes_two (suc (suc k)) inside = absurd (omega (arith, inside))

begun_two : (k : ℕ) → k < 2
    → (life_in live_two (numbered k) ≡ incarnation_of state_two (numbered k)) × (incarnation_of state_two (numbered k) ≤ incarnation_limit)
begun_two zero inside = (refl, omega arith)
begun_two (suc zero) inside = (refl, omega arith)
begun_two (suc (suc k)) inside = absurd (omega (arith, inside))

tells_two : TellTheSame state_two live_two
tells_two = record {
  cluster = refl;
  clock = refl;
  modes = λ n inside. modes_two n.0 inside;
  begun = λ n inside. (begun_two n.0 inside).0;
  limited = λ n inside. (begun_two n.0 inside).1;
  cells = omega arith;
}

pub together_two : GoTogether sim_two live_two
together_two =
    one_more sim_one live_one (event.Boot b) (cells_behind (net_in live_one) 2 last_two) together_one
    (subst (λ (s : StateView). TellTheSame s live_two) (sym state_two_is) tells_two)

accepted_one : refused (first two) (event.Boot a) ≡ None
unfolding refused
accepted_one = refl

accepted_two : refused state_one (event.Boot b) ≡ None
unfolding refused
accepted_two = refl

pub valid_one : IsValid (state_of sim_one)
unfolding step
valid_one = next_valid (first two) (event.Boot a) First (first_valid two within) accepted_one

valid_two : IsValid (state_of sim_two)
unfolding step
valid_two =
    next_valid (state_of sim_one) (event.Boot b) First valid_one
    (ap (λ (s : StateView). refused s (event.Boot b)) one_is ∙ accepted_two)

pub at_rest_two : AreBothAtRest sim_two live_two
unfolding forgotten
at_rest_two = record {
  valid = valid_two;
  reached = reached_again live_one last_two two_over;
  rest = rests_again live_one last_two two_over;
  later = λ n. no_timeouts n.0;
}
