-- A tick that the law is of. Of two nodes the one at which two applications ran has crashed. Behind 5 seconds the one is started at the
-- other, behind 7 the other one, and behind 12 the timers of both nodes' waits for one another fire, which are left over.
use Rattle.std.proofs.Common.{◌≡◌, ◌≢◌, ◌⊎◌, ◌≤◌, ◌==◌, ◌||◌, ℕ, zero, suc, Bool, true, false, cond, length, [], ◌∷◌, unwrap_or, is_some, Option, Some, None, refl, sym, subst, ◌∙◌, inl, inr, arith}
use Rattle.std.specs.Prelude.{All}
use Rattle.std.proofs.lemmas.Bool.{false≢true, cases_eq}
use Rattle.std.proofs.lemmas.List.Elements.{All-nil, All-cons}
use Rattle.std.proofs.lemmas.Option.{same_Some}
use Rattle.rh_model.specs.ClusterView.{ClusterView, NodeView, numbered, app_numbered}
use Rattle.rh_model.specs.declared.node.App.{App}
use Rattle.rh_model.specs.declared.node.Node.{Node}
use Rattle.rh_model.specs.declared.settings.Restart.TheVariants.{Permanent}
use Rattle.rh_model.specs.declared.settings.SyncWait.TheVariants.{After}
use Rattle.rh_otp_model.specs.declared.message.Message.{Message}
use Rattle.rh_otp_model.specs.declared.message.Message.TheVariants as message
use Rattle.rh_otp_model.specs.declared.process.Role.TheVariants as role
use Rattle.rh_otp_model.specs.declared.wait.OwnFile.{OwnFile}
use Rattle.rh_otp_model.specs.declared.wait.Wait.TheVariants as wait
use Rattle.rh_otp_model.specs.Own.{EntryView}
use Rattle.rh_otp_model.specs.Rows.{keyfind}
use Rattle.rh_otp_controller.specs.Calls.{start as controller_start, stop as controller_stop, permit as controller_permit, top_ends as controller_top_ends}
use Rattle.rh_otp_controller.specs.Changes.{do_start as controller_do_start, change as controller_change, received as controller_received}
use Rattle.rh_otp_controller.specs.Starting.{spawn_starter as controller_spawn_starter, reply_to_requester as controller_reply_to_requester, has_started as controller_has_started, start_reply as controller_start_reply}
use Rattle.rh_otp_dist.specs.Attempts.{finish as dist_finish, runs_elsewhere as dist_runs_elsewhere}
use Rattle.rh_otp_dist.specs.Calls.{take_over as dist_take_over, permit as dist_permit, get_nodes as dist_get_nodes}
use Rattle.rh_otp_dist.specs.Choosing.{start_here as dist_start_here, is_to_start as dist_is_to_start, find_start_node as dist_find_start_node, start_distributed as dist_start_distributed, start_appl as dist_start_appl}
use Rattle.rh_otp_dist.specs.Down.{check_waiting as dist_check_waiting, node_down as dist_node_down}
use Rattle.rh_otp_dist.specs.Outside.{introduced_to as dist_introduced_to}
use Rattle.rh_otp_dist.specs.Received.{handle_next as dist_handle_next}
use Rattle.rh_otp_dist.specs.Sending.{del_t_reqs as dist_del_t_reqs}
use Rattle.rh_otp_dist.specs.Told.{run as dist_run, answer_ends as dist_answer_ends, not_run as dist_not_run, stopped as dist_stopped, new_node as dist_new_node, answer_permits as dist_answer_permits, app_started as dist_app_started, app_stopped as dist_app_stopped, weight_told as dist_weight_told, restart as dist_restart, new_permission as dist_new_permission}
use Rattle.rh_otp_net.specs.Links.{to_connect as net_to_connect}
use Rattle.rh_otp_node.specs.Turns.{controlled_by as node_controlled_by, terminated_by as node_terminated_by, handled_by as node_handled_by, introduced_by as node_introduced_by}
use Rattle.rh_otp_system.specs.Calling.{lock_call as system_lock_call, wait_for_lock as system_wait_for_lock, behind_sync as system_behind_sync, go_on_call as system_go_on_call, call_received as system_call_received}
use Rattle.rh_otp_system.specs.Connecting.{connect as system_connect}
use Rattle.rh_otp_system.specs.Delivering.{delivered as system_delivered, slowed as system_slowed}
use Rattle.rh_otp_system.specs.Doing.{waited_for as system_waited_for, booted as system_booted, called as system_called, fired_next as system_fired_next, ticked as system_ticked, is_ticked as system_is_ticked}
use Rattle.rh_otp_system.specs.Ending.{down_told as system_down_told, taken_down as system_taken_down, ended as system_ended, stopped as system_stopped}
use Rattle.rh_otp_system.specs.Joining.{join as system_join, has_seen as system_has_seen, boot_next as system_boot_next}
use Rattle.rh_otp_system.specs.Moves.{made as system_made}
use Rattle.rh_otp_system.specs.Resting.{rested as system_rested, forgotten as system_forgotten}
use Rattle.rh_otp_system.specs.Sending.{told as system_told, after as system_after}
use Rattle.rh_otp_system.specs.Working.{take_lock as system_take_lock, gone as system_gone, handled as system_handled, work as system_work, mailed as system_mailed}
use Rattle.rh_otp_controller.specs.declared.state.Place.TheVariants.{Here}
use Rattle.rh_otp_controller.specs.Starting.{lacks_running}
use Rattle.rh_otp_dist.specs.declared.state.Stand.TheVariants as stand
use Rattle.rh_otp_dist.specs.declared.state.Standing.TheVariants as standing
use Rattle.rh_otp_dist.specs.Choosing.{places_of, candidates_of, remote}
use Rattle.rh_otp_dist.specs.State.{DistView, beginning, standing_of}
use Rattle.rh_otp_dist.specs.Waiting.{takes}
use Rattle.rh_otp_net.specs.declared.order.Order.TheVariants.{FirstComes}
use Rattle.rh_otp_net.specs.declared.timers.Timer.{Timer}
use Rattle.rh_otp_net.specs.Links.{are_linked}
use Rattle.rh_otp_net.specs.Timers.{next_due, fired}
use Rattle.rh_otp_node.specs.Live.{LiveView, never_begun}
use Rattle.rh_otp_node.specs.Turns.{controller_turn}
use Rattle.rh_otp_system.specs.declared.cell.Cell.TheVariants as cell
use Rattle.rh_otp_system.specs.declared.moves.Move.{Move}
use Rattle.rh_otp_system.specs.Doing.{booted, fired_next, next_until}
use Rattle.rh_otp_system.specs.Moves.{next_move, moved_by, moved, is_quiet_by, is_quiet_behind, IsSettled, settled, is_settled_by}
use Rattle.rh_otp_system.specs.Resting.{crashed}
use Rattle.rh_otp_system.specs.State.{SystemView, system_of, node_at, own_at, live_at, is_alive_at, is_up_at, lives}
use Rattle.rh_otp_system.specs.Views.{NetView}
use Rattle.rh_otp_system.proofs.Moving.{settles}
use Rattle.rh_otp_laws.specs.Acting.{IsReached, new, later, acts, begins, crashes}
use Rattle.rh_otp_laws.proofs.Commands.{commands_reached}
use Rattle.rh_otp_commands.specs.Commands.{TickEndsAlike}
use Rattle.rh_otp_crashes.specs.Crashes.{IsUnoccupied, AreAtRest}
use Rattle.rh_otp_crashes.specs.Failovers.{FailsOverAt, StandsBy, IsOver, first_of, lost_attempt}
use Rattle.rh_otp_ticks.specs.LeftOver.{AreLeftOver, IsLeftOver, gone, up, behind_timers}
use Rattle.rh_otp_ticks.specs.Moments.{passing, EachMomentIsCovered, over, left_over, fails_over}
use Rattle.rh_otp_ticks.proofs.Ticking.{moments_alike}

-- ---- the cluster

abbrev pub n1 : Node
n1 = numbered 0

abbrev pub n2 : Node
n2 = numbered 1

abbrev pub d1 : App
d1 = app_numbered 0

abbrev pub d2 : App
d2 = app_numbered 1

-- it waits for the other one, and starts both applications
abbrev node_of : Node → NodeView
node_of other = record {
  mandatory = [];
  optional = other ∷ [];
  sync_wait = After 12000;
  boot = (d1, Permanent) ∷ (d2, Permanent) ∷ [];
  permissions = true ∷ true ∷ [];
  platforms = [];
}

abbrev cluster : ClusterView
cluster = record {
  profile = 1;
  node_names = (97 ∷ []) ∷ (98 ∷ []) ∷ [];
  app_names = (97 ∷ []) ∷ (98 ∷ []) ∷ [];
  platform_names = [];
  nodes = node_of n2 ∷ node_of n1 ∷ [];
  apps = record {
    deps = [];
    start_arg = None;
    phases = false;
    spread = Some (record { timeout = 5000; groups = (n1 ∷ []) ∷ (n2 ∷ []) ∷ [] });
  } ∷ record {
    deps = [];
    start_arg = None;
    phases = false;
    spread = Some (record { timeout = 7000; groups = (n1 ∷ []) ∷ (n2 ∷ []) ∷ [] });
  } ∷ [];
}

abbrev entry : App → ℕ → EntryView
entry a timeout = record {
  app = a;
  timeout = timeout;
  places = record { is_tuple = false; nodes = n1 ∷ [] } ∷ record { is_tuple = false; nodes = n2 ∷ [] } ∷ [];
}

abbrev file : OwnFile
file = record { own = record { has_dist = true; entries = entry d1 5000 ∷ entry d2 7000 ∷ [] }; wait = wait.After 12000 }

-- ---- what happens

abbrev pub no_net : NetView
no_net = record {
  clock = 0;
  step = 0;
  last_call = 0;
  alive = [];
  links = [];
  locks = [];
  timers = [];
  calls = [];
  asleep = [];
  told = [];
}

abbrev none_begun : SystemView
none_begun = system_of cluster (file ∷ file ∷ []) (cell.Node never_begun ∷ cell.Node never_begun ∷ cell.Net no_net ∷ []) no_net false

-- all that comes of it, in one order
abbrev pub quiet : SystemView → SystemView
quiet s = settled 1000 FirstComes s

abbrev one_up : SystemView
one_up = quiet (booted n1 none_begun)

abbrev both_up : SystemView
both_up = quiet (booted n2 one_up)

-- both applications are lost
abbrev pub lost : SystemView
lost = quiet (crashed n1 both_up)

-- time begins to pass, and behind each of the first two moments
abbrev first : SystemView
first = passing lost

abbrev second : SystemView
second = quiet (fired_next 5000 first)

abbrev third : SystemView
third = quiet (fired_next 7000 second)

-- ---- what the prover computes of it

abbrev pub dist_of : SystemView → DistView
dist_of s = unwrap_or (node_at s n2).dist (beginning 0 0 n2 [])

-- the timer of the loss of an application
abbrev pub loss_of : App → ℕ → ℕ → Timer
loss_of a due life = record {
  due = due;
  step = 0;
  to = record { role = role.DistAc; node = n2; life = life };
  message = message.RestartAppl a 1;
}

-- the second node's dist_ac takes whatever comes, and does nothing
pub record IsIdle (s : SystemView) : Type 0 where
  pub has : is_some (node_at s n2).dist ≡ true
  pub takes_all : (dist_of s).stand ≡ stand.Idle
  pub mail : (dist_of s).mail ≡ []
  pub permits : (dist_of s).p_reqs ≡ []
  pub parked : (dist_of s).parked ≡ []

-- An application was lost at the second node, and is to be started there next.
pub record IsLost (a : App) (due : ℕ) (s : SystemView) : Type 0 where
  pub idle : IsIdle s
  pub calls : s.calls ≡ []
  pub next : next_due s.timers ≡ Some (due, 0)
  pub fire : fired s.timers ≡ loss_of a due 1 ∷ []
  pub life : (node_at s n2).life ≡ 1
  pub gone : standing_of (dist_of s) a ≡ standing.Failover n1
  pub first : first_of (candidates_of (own_at s n2) (lost_attempt (dist_of s) a)) (places_of (own_at s n2) a) ≡ Some n2
  pub unknown : remote (dist_of s) a ≡ None
  pub needs : lacks_running (controller_turn s.cluster (own_at s n2) n2 (node_at s n2)) a ≡ None
  pub requests : (node_at s n2).controller.start_req ≡ []
  pub takeovers : (dist_of s).t_reqs ≡ []

first_lost : IsLost d1 5000 first
unfolding controller_start controller_stop controller_permit controller_top_ends controller_do_start controller_change controller_received controller_spawn_starter controller_reply_to_requester controller_has_started controller_start_reply dist_finish dist_runs_elsewhere dist_take_over dist_permit dist_get_nodes dist_start_here dist_is_to_start dist_find_start_node dist_start_distributed dist_start_appl dist_check_waiting dist_node_down dist_introduced_to dist_handle_next dist_del_t_reqs dist_run dist_answer_ends dist_not_run dist_stopped dist_new_node dist_answer_permits dist_app_started dist_app_stopped dist_weight_told dist_restart dist_new_permission net_to_connect node_controlled_by node_terminated_by node_handled_by node_introduced_by system_lock_call system_wait_for_lock system_behind_sync system_go_on_call system_call_received system_connect system_delivered system_slowed system_waited_for system_booted system_called system_fired_next system_ticked system_is_ticked system_down_told system_taken_down system_ended system_stopped system_join system_has_seen system_boot_next system_made system_rested system_forgotten system_told system_after system_take_lock system_gone system_handled system_work system_mailed
first_lost = record {
  idle = record { has = refl; takes_all = refl; mail = refl; permits = refl; parked = refl };
  calls = refl;
  next = refl;
  fire = refl;
  life = refl;
  gone = refl;
  first = refl;
  unknown = refl;
  needs = refl;
  requests = refl;
  takeovers = refl;
}

second_lost : IsLost d2 7000 second
unfolding controller_start controller_stop controller_permit controller_top_ends controller_do_start controller_change controller_received controller_spawn_starter controller_reply_to_requester controller_has_started controller_start_reply dist_finish dist_runs_elsewhere dist_take_over dist_permit dist_get_nodes dist_start_here dist_is_to_start dist_find_start_node dist_start_distributed dist_start_appl dist_check_waiting dist_node_down dist_introduced_to dist_handle_next dist_del_t_reqs dist_run dist_answer_ends dist_not_run dist_stopped dist_new_node dist_answer_permits dist_app_started dist_app_stopped dist_weight_told dist_restart dist_new_permission net_to_connect node_controlled_by node_terminated_by node_handled_by node_introduced_by system_lock_call system_wait_for_lock system_behind_sync system_go_on_call system_call_received system_connect system_delivered system_slowed system_waited_for system_booted system_called system_fired_next system_ticked system_is_ticked system_down_told system_taken_down system_ended system_stopped system_join system_has_seen system_boot_next system_made system_rested system_forgotten system_told system_after system_take_lock system_gone system_handled system_work system_mailed
second_lost = record {
  idle = record { has = refl; takes_all = refl; mail = refl; permits = refl; parked = refl };
  calls = refl;
  next = refl;
  fire = refl;
  life = refl;
  gone = refl;
  first = refl;
  unknown = refl;
  needs = refl;
  requests = refl;
  takeovers = refl;
}

-- no other node is alive
abbrev pub IsAlone : SystemView → Type 0
IsAlone s = (k : ℕ) → (k ≡ 1 → ⊥) → is_alive_at s (record { 0 = k }) ≡ false

first_alone : IsAlone first
unfolding controller_start controller_stop controller_permit controller_top_ends controller_do_start controller_change controller_received controller_spawn_starter controller_reply_to_requester controller_has_started controller_start_reply dist_finish dist_runs_elsewhere dist_take_over dist_permit dist_get_nodes dist_start_here dist_is_to_start dist_find_start_node dist_start_distributed dist_start_appl dist_check_waiting dist_node_down dist_introduced_to dist_handle_next dist_del_t_reqs dist_run dist_answer_ends dist_not_run dist_stopped dist_new_node dist_answer_permits dist_app_started dist_app_stopped dist_weight_told dist_restart dist_new_permission net_to_connect node_controlled_by node_terminated_by node_handled_by node_introduced_by system_lock_call system_wait_for_lock system_behind_sync system_go_on_call system_call_received system_connect system_delivered system_slowed system_waited_for system_booted system_called system_fired_next system_ticked system_is_ticked system_down_told system_taken_down system_ended system_stopped system_join system_has_seen system_boot_next system_made system_rested system_forgotten system_told system_after system_take_lock system_gone system_handled system_work system_mailed
first_alone zero other = refl
first_alone (suc zero) other = absurd (other refl)
first_alone (suc (suc zero)) other = refl
first_alone (suc (suc (suc k))) other = refl

second_alone : IsAlone second
unfolding controller_start controller_stop controller_permit controller_top_ends controller_do_start controller_change controller_received controller_spawn_starter controller_reply_to_requester controller_has_started controller_start_reply dist_finish dist_runs_elsewhere dist_take_over dist_permit dist_get_nodes dist_start_here dist_is_to_start dist_find_start_node dist_start_distributed dist_start_appl dist_check_waiting dist_node_down dist_introduced_to dist_handle_next dist_del_t_reqs dist_run dist_answer_ends dist_not_run dist_stopped dist_new_node dist_answer_permits dist_app_started dist_app_stopped dist_weight_told dist_restart dist_new_permission net_to_connect node_controlled_by node_terminated_by node_handled_by node_introduced_by system_lock_call system_wait_for_lock system_behind_sync system_go_on_call system_call_received system_connect system_delivered system_slowed system_waited_for system_booted system_called system_fired_next system_ticked system_is_ticked system_down_told system_taken_down system_ended system_stopped system_join system_has_seen system_boot_next system_made system_rested system_forgotten system_told system_after system_take_lock system_gone system_handled system_work system_mailed
second_alone zero other = refl
second_alone (suc zero) other = absurd (other refl)
second_alone (suc (suc zero)) other = refl
second_alone (suc (suc (suc k))) other = refl

-- the timer of the wait of a node
abbrev pub wait_of : Node → Timer
wait_of n = record {
  due = 12000;
  step = 0;
  to = record { role = role.KernelConfig; node = n; life = 1 };
  message = message.Timeout;
}

-- The waits are over, and nothing is due behind them; and both applications run.
pub record AreOver (s : SystemView) : Type 0 where
  pub next : next_due s.timers ≡ Some (12000, 0)
  pub fire : fired s.timers ≡ wait_of n1 ∷ wait_of n2 ∷ []
  pub dead : lives s (wait_of n1).to ≡ false
  pub up : is_up_at s n2 ≡ true
  pub none : next_until 20000 (behind_timers 12000 s) ≡ None
  pub one : keyfind d1 (node_at s n2).controller.running ≡ Some Here
  pub other : keyfind d2 (node_at s n2).controller.running ≡ Some Here

waits_over : AreOver third
unfolding controller_start controller_stop controller_permit controller_top_ends controller_do_start controller_change controller_received controller_spawn_starter controller_reply_to_requester controller_has_started controller_start_reply dist_finish dist_runs_elsewhere dist_take_over dist_permit dist_get_nodes dist_start_here dist_is_to_start dist_find_start_node dist_start_distributed dist_start_appl dist_check_waiting dist_node_down dist_introduced_to dist_handle_next dist_del_t_reqs dist_run dist_answer_ends dist_not_run dist_stopped dist_new_node dist_answer_permits dist_app_started dist_app_stopped dist_weight_told dist_restart dist_new_permission net_to_connect node_controlled_by node_terminated_by node_handled_by node_introduced_by system_lock_call system_wait_for_lock system_behind_sync system_go_on_call system_call_received system_connect system_delivered system_slowed system_waited_for system_booted system_called system_fired_next system_ticked system_is_ticked system_down_told system_taken_down system_ended system_stopped system_join system_has_seen system_boot_next system_made system_rested system_forgotten system_told system_after system_take_lock system_gone system_handled system_work system_mailed
waits_over = record { next = refl; fire = refl; dead = refl; up = refl; none = refl; one = refl; other = refl }

-- each comes to an end
record AreQuiet : Type 0 where
  begins : is_settled_by 1 FirstComes (record lost { is_ticking = true }) ≡ true
  one_ends : is_settled_by 1000 FirstComes (fired_next 5000 first) ≡ true
  other_ends : is_settled_by 1000 FirstComes (fired_next 7000 second) ≡ true

are_quiet : AreQuiet
unfolding controller_start controller_stop controller_permit controller_top_ends controller_do_start controller_change controller_received controller_spawn_starter controller_reply_to_requester controller_has_started controller_start_reply dist_finish dist_runs_elsewhere dist_take_over dist_permit dist_get_nodes dist_start_here dist_is_to_start dist_find_start_node dist_start_distributed dist_start_appl dist_check_waiting dist_node_down dist_introduced_to dist_handle_next dist_del_t_reqs dist_run dist_answer_ends dist_not_run dist_stopped dist_new_node dist_answer_permits dist_app_started dist_app_stopped dist_weight_told dist_restart dist_new_permission net_to_connect node_controlled_by node_terminated_by node_handled_by node_introduced_by system_lock_call system_wait_for_lock system_behind_sync system_go_on_call system_call_received system_connect system_delivered system_slowed system_waited_for system_booted system_called system_fired_next system_ticked system_is_ticked system_down_told system_taken_down system_ended system_stopped system_join system_has_seen system_boot_next system_made system_rested system_forgotten system_told system_after system_take_lock system_gone system_handled system_work system_mailed
are_quiet = record { begins = refl; one_ends = refl; other_ends = refl }

nobody_yet : (k : ℕ) → node_at none_begun (record { 0 = k }) ≡ never_begun
nobody_yet zero = refl
nobody_yet (suc zero) = refl
nobody_yet (suc (suc zero)) = refl
nobody_yet (suc (suc (suc k))) = refl

first_reached : IsReached none_begun
first_reached = new none_begun (record {
  nodes = λ n. nobody_yet n.0;
  alive = refl;
  links = refl;
  locks = refl;
  timers = refl;
  calls = refl;
  messages = refl;
  slow = refl;
})

begins_at : (s : SystemView) (n : Node) (v : LiveView) → live_at s n ≡ Some v → is_alive_at s n ≡ false → IsReached s
    → IsReached (quiet (booted n s))
begins_at s n v there dead reached =
    commands_reached.settles_there 1000 FirstComes (booted n s)
    (later s (booted n s) reached (acts s (booted n s) (begins s n (v, there) dead)))

both_reached : IsReached both_up
unfolding controller_start controller_stop controller_permit controller_top_ends controller_do_start controller_change controller_received controller_spawn_starter controller_reply_to_requester controller_has_started controller_start_reply dist_finish dist_runs_elsewhere dist_take_over dist_permit dist_get_nodes dist_start_here dist_is_to_start dist_find_start_node dist_start_distributed dist_start_appl dist_check_waiting dist_node_down dist_introduced_to dist_handle_next dist_del_t_reqs dist_run dist_answer_ends dist_not_run dist_stopped dist_new_node dist_answer_permits dist_app_started dist_app_stopped dist_weight_told dist_restart dist_new_permission net_to_connect node_controlled_by node_terminated_by node_handled_by node_introduced_by system_lock_call system_wait_for_lock system_behind_sync system_go_on_call system_call_received system_connect system_delivered system_slowed system_waited_for system_booted system_called system_fired_next system_ticked system_is_ticked system_down_told system_taken_down system_ended system_stopped system_join system_has_seen system_boot_next system_made system_rested system_forgotten system_told system_after system_take_lock system_gone system_handled system_work system_mailed
both_reached = begins_at one_up n2 never_begun refl refl (begins_at none_begun n1 never_begun refl refl first_reached)

-- ---- so the law is of it

stays : (next : Option Move) (x : SystemView) → is_quiet_by (is_quiet_behind 0 FirstComes) next x ≡ true
    → moved_by (moved 0 FirstComes) next x ≡ x
stays None x quiet = refl
stays (Some m) x quiet = absurd (false≢true quiet)

-- where nothing moves at once it is at rest
pub rest_so : (s : SystemView) → is_settled_by 1 FirstComes s ≡ true → IsSettled (record s { answers = [] })
rest_so s quiet =
    let afresh : SystemView = record s { answers = [] } in
    subst IsSettled (stays (next_move FirstComes afresh) afresh quiet) ((settles 1 FirstComes s).1 quiet)

pub has_it : (o : Option DistView) (d : DistView) → is_some o ≡ true → o ≡ Some (unwrap_or o d)
has_it None d is = absurd (false≢true is)
has_it (Some e) d is = refl

-- what is so of the second node is so of each that is alive
pub of_alive : (P : Node → Type 0) (s : SystemView) → IsAlone s → P n2 → (k : ℕ) → is_alive_at s (record { 0 = k }) ≡ true
    → P (record { 0 = k })
of_alive P s none is k alive =
    elim (cases_eq k 1) [
      | inl same ↦ subst (λ (j : ℕ). P (record { 0 = j })) (sym same) is
      | inr other ↦ absurd (false≢true (sym (none k other) ∙ alive))
    ]

dist_is : (s : SystemView) → IsIdle s → (node_at s n2).dist ≡ Some (dist_of s)
dist_is s is = has_it (node_at s n2).dist (beginning 0 0 n2 []) is.has

-- what is so of its dist_ac
pub of_dist : (P : DistView → Type 0) (s : SystemView) → IsIdle s → P (dist_of s) → (d : DistView) → (node_at s n2).dist ≡ Some d → P d
of_dist P s is so d has = subst P (same_Some (dist_of s) d (sym (dist_is s is) ∙ has)) so

pub at_ease : (s : SystemView) → IsIdle s → (d : DistView) → (node_at s n2).dist ≡ Some d → IsUnoccupied d
at_ease s is = of_dist IsUnoccupied s is (record {
  stand = inl is.takes_all;
  mail = subst (All (λ (m : Message). takes (dist_of s).stand m ≡ false)) (sym is.mail)
      (All-nil (λ (m : Message). takes (dist_of s).stand m ≡ false));
  permits = is.permits;
  parked = is.parked;
})

are_at_rest : (a : App) (due : ℕ) (s : SystemView) → IsLost a due s → IsAlone s → IsSettled s → AreAtRest s
are_at_rest a due s is none settled = record {
  settled = settled;
  calls = is.calls;
  dists = λ n d alive has.
      of_alive (λ (m : Node). (e : DistView) → (node_at s m).dist ≡ Some e → IsUnoccupied e) s none (at_ease s is.idle) n.0 alive d has;
}

once : (row : Node × ℕ) (b : Bool) → length (cond b (row ∷ []) []) ≤ 1
once row true = omega arith
once row false = omega arith

fails_at : (a : App) (due : ℕ) (s : SystemView) → IsLost a due s → IsAlone s → FailsOverAt n2 a s
fails_at a due s is none = record {
  due = due;
  step = 0;
  next = is.next;
  losses = (n2, 1) ∷ [];
  fire = is.fire ∙ (λ i. loss_of a due (sym is.life i) ∷ []);
  once = λ m. once (n2, 1) (1 == m.0);
  first = record {
    dist = dist_of s;
    has = dist_is s is.idle;
    takes_all = is.idle.takes_all;
    gone = n1;
    lost = is.gone;
    first = is.first;
    unknown = is.unknown;
  };
  able = record { needs = is.needs; requests = is.requests };
  sees_all = record {
    takeovers = of_dist (λ (d : DistView). d.t_reqs ≡ []) s is.idle is.takeovers;
    sees = λ d has m among alive. of_alive (λ (k : Node). (n2.0 == k.0 || are_linked n2 k s.links) ≡ true) s none refl m.0 alive;
  };
  others = λ m other among alive.
      of_alive (λ (k : Node). k.0 ≢ n2.0 → StandsBy k n2 a s ⊎ IsOver a (node_at s k)) s none (λ itself. absurd (itself refl)) m.0 alive
      other;
}

-- the timers of the waits
waits_at : (s : SystemView) → AreOver s → AreLeftOver s
waits_at s are = record {
  due = 12000;
  step = 0;
  next = are.next;
  all = subst (All (IsLeftOver s)) (sym are.fire)
      (All-cons (IsLeftOver s) (wait_of n1) (wait_of n2 ∷ []) (gone (wait_of n1) are.dead)
      (All-cons (IsLeftOver s) (wait_of n2) [] (up (wait_of n2) refl are.up) (All-nil (IsLeftOver s))));
}

first_settled : IsSettled first
first_settled = rest_so (record lost { is_ticking = true }) are_quiet.begins

pub lost_reached : IsReached lost
lost_reached =
    commands_reached.settles_there 1000 FirstComes (crashed n1 both_up)
    (later both_up (crashed n1 both_up) both_reached (acts both_up (crashed n1 both_up) (crashes both_up n1)))

-- so on behind it
pub fails_on : (a : App) (due end : ℕ) (s : SystemView) → IsLost a due s → IsAlone s → IsSettled s
    → is_settled_by 1000 FirstComes (fired_next due s) ≡ true
    → (IsSettled (quiet (fired_next due s)) → EachMomentIsCovered end (quiet (fired_next due s))) → EachMomentIsCovered end s
unfolding fails_at
fails_on a due end s is none settled ends more =
    let at : IsSettled (quiet (fired_next due s)) = (settles 1000 FirstComes (fired_next due s)).1 ends in
    fails_over s (quiet (fired_next due s)) n2 a (are_at_rest a due s is none settled) (fails_at a due s is none)
    (settles 1000 FirstComes (fired_next due s)).0 at (more at)

pub waits_on : (s : SystemView) → AreOver s → EachMomentIsCovered 20000 s
unfolding waits_at
waits_on s are = left_over s (waits_at s are) (over (record (behind_timers 12000 s) { answers = [] }) are.none)

covered : EachMomentIsCovered 20000 first
covered =
    fails_on d1 5000 20000 first first_lost first_alone first_settled are_quiet.one_ends
    (λ at. fails_on d2 7000 20000 second second_lost second_alone at are_quiet.other_ends (λ at_third. waits_on third waits_over))

-- There are such ticks: over two failovers, and over timers that are left over.
record Row : Type 0 where
  is_reached : IsReached lost
  is_settled : IsSettled first
  is_covered : EachMomentIsCovered 20000 first
  ends_alike : TickEndsAlike 20000 1000 FirstComes lost
  -- both applications run behind it
  one_runs : keyfind d1 (node_at third n2).controller.running ≡ Some Here
  other_runs : keyfind d2 (node_at third n2).controller.running ≡ Some Here

row : Row
row = record {
  is_reached = lost_reached;
  is_settled = first_settled;
  is_covered = covered;
  ends_alike = moments_alike lost 20000 1000 FirstComes lost_reached first_settled covered;
  one_runs = waits_over.one;
  other_runs = waits_over.other;
}
