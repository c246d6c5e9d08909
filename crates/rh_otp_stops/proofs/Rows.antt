-- Calls that the laws are of: of two nodes each runs an application that isn't distributed, and the first one that is.
use Rattle.std.proofs.Common.{◌≡◌, ◌==◌, ◌||◌, ℕ, zero, suc, true, false, [], ◌∷◌, unwrap_or, is_some, Option, Some, None, refl, sym, ap, subst, ◌∙◌, inl}
use Rattle.std.specs.Prelude.{All}
use Rattle.std.proofs.lemmas.Bool.{false≢true}
use Rattle.std.proofs.lemmas.List.Elements.{All-nil}
use Rattle.std.proofs.lemmas.Option.{same_Some}
use Rattle.rh_model.specs.ClusterView.{ClusterView, NodeView, numbered, app_numbered}
use Rattle.rh_model.specs.declared.node.App.{App}
use Rattle.rh_model.specs.declared.node.Node.{Node}
use Rattle.rh_model.specs.declared.settings.Restart.TheVariants.{Temporary}
use Rattle.rh_model.specs.declared.settings.SyncWait.TheVariants.{After}
use Rattle.rh_otp_model.specs.declared.message.Message.{Message}
use Rattle.rh_otp_model.specs.declared.wait.OwnFile.{OwnFile}
use Rattle.rh_otp_model.specs.declared.wait.Wait.TheVariants as wait
use Rattle.rh_otp_model.specs.Own.{controls}
use Rattle.rh_otp_model.specs.Rows.{keyfind}
use Rattle.rh_otp_controller.specs.declared.state.Place.TheVariants as place_of
use Rattle.rh_otp_controller.specs.Calls.{start as controller_start, stop as controller_stop, permit as controller_permit, top_ends as controller_top_ends}
use Rattle.rh_otp_controller.specs.Changes.{do_start as controller_do_start, change as controller_change, received as controller_received}
use Rattle.rh_otp_controller.specs.Starting.{spawn_starter as controller_spawn_starter, reply_to_requester as controller_reply_to_requester, has_started as controller_has_started, start_reply as controller_start_reply}
use Rattle.rh_otp_dist.specs.Attempts.{finish as dist_finish, runs_elsewhere as dist_runs_elsewhere}
use Rattle.rh_otp_dist.specs.Calls.{take_over as dist_take_over, permit as dist_permit, get_nodes as dist_get_nodes}
use Rattle.rh_otp_dist.specs.Choosing.{start_here as dist_start_here, is_to_start as dist_is_to_start, find_start_node as dist_find_start_node, start_distributed as dist_start_distributed, start_appl as dist_start_appl}
use Rattle.rh_otp_dist.specs.Down.{check_waiting as dist_check_waiting, node_down as dist_node_down}
use Rattle.rh_otp_dist.specs.Outside.{introduced_to as dist_introduced_to}
use Rattle.rh_otp_dist.specs.Received.{handle_next as dist_handle_next}
use Rattle.rh_otp_dist.specs.Sending.{del_t_reqs as dist_del_t_reqs}
use Rattle.rh_otp_dist.specs.Told.{run as dist_run, answer_ends as dist_answer_ends, not_run as dist_not_run, stopped as dist_stopped, new_node as dist_new_node, answer_permits as dist_answer_permits, app_started as dist_app_started, app_stopped as dist_app_stopped, weight_told as dist_weight_told, restart as dist_restart, new_permission as dist_new_permission}
use Rattle.rh_otp_net.specs.Links.{to_connect as net_to_connect}
use Rattle.rh_otp_node.specs.Turns.{controlled_by as node_controlled_by, terminated_by as node_terminated_by, handled_by as node_handled_by, introduced_by as node_introduced_by}
use Rattle.rh_otp_system.specs.Calling.{lock_call as system_lock_call, wait_for_lock as system_wait_for_lock, behind_sync as system_behind_sync, go_on_call as system_go_on_call, call_received as system_call_received}
use Rattle.rh_otp_system.specs.Connecting.{connect as system_connect}
use Rattle.rh_otp_system.specs.Delivering.{delivered as system_delivered, slowed as system_slowed}
use Rattle.rh_otp_system.specs.Doing.{waited_for as system_waited_for, booted as system_booted, called as system_called, fired_next as system_fired_next, ticked as system_ticked, is_ticked as system_is_ticked}
use Rattle.rh_otp_system.specs.Ending.{down_told as system_down_told, taken_down as system_taken_down, ended as system_ended, stopped as system_stopped}
use Rattle.rh_otp_system.specs.Joining.{join as system_join, has_seen as system_has_seen, boot_next as system_boot_next}
use Rattle.rh_otp_system.specs.Moves.{made as system_made}
use Rattle.rh_otp_system.specs.Resting.{rested as system_rested, forgotten as system_forgotten}
use Rattle.rh_otp_system.specs.Sending.{told as system_told, after as system_after}
use Rattle.rh_otp_system.specs.Working.{take_lock as system_take_lock, gone as system_gone, handled as system_handled, work as system_work, mailed as system_mailed}
use Rattle.rh_otp_dist.specs.declared.state.Stand.TheVariants as stand
use Rattle.rh_otp_dist.specs.declared.state.Standing.TheVariants as standing
use Rattle.rh_otp_dist.specs.State.{DistView, beginning, standing_of, is_among}
use Rattle.rh_otp_dist.specs.Waiting.{takes}
use Rattle.rh_otp_net.specs.declared.order.Order.TheVariants.{FirstComes}
use Rattle.rh_otp_net.specs.Links.{are_linked}
use Rattle.rh_otp_node.specs.Live.{LiveView, never_begun}
use Rattle.rh_otp_system.specs.declared.cell.Cell.TheVariants as cell
use Rattle.rh_otp_system.specs.Doing.{booted}
use Rattle.rh_otp_system.specs.Moves.{IsSettled, settled, is_settled_by}
use Rattle.rh_otp_system.specs.State.{SystemView, system_of, node_at, own_at, live_at, is_alive_at}
use Rattle.rh_otp_system.specs.Views.{NetView}
use Rattle.rh_otp_system.proofs.Moving.{settles}
use Rattle.rh_otp_laws.specs.Acting.{IsReached, new, later, acts, begins}
use Rattle.rh_otp_laws.proofs.Commands.{commands_reached}
use Rattle.rh_otp_crashes.specs.Crashes.{IsUnoccupied, AreAtRest}
use Rattle.rh_otp_stops.specs.Stops.{CanEnd, KeepsNode}

-- ---- the cluster

abbrev pub n1 : Node
n1 = numbered 0

abbrev pub n2 : Node
n2 = numbered 1

abbrev pub d1 : App
d1 = app_numbered 0

abbrev pub l1 : App
l1 = app_numbered 1

-- it waits for the other one, and starts both applications
abbrev node_of : Node → NodeView
node_of other = record {
  mandatory = [];
  optional = other ∷ [];
  sync_wait = After 12000;
  boot = (d1, Temporary) ∷ (l1, Temporary) ∷ [];
  permissions = true ∷ true ∷ [];
  platforms = [];
}

abbrev cluster : ClusterView
cluster = record {
  profile = 1;
  node_names = (97 ∷ []) ∷ (98 ∷ []) ∷ [];
  app_names = (97 ∷ []) ∷ (98 ∷ []) ∷ [];
  platform_names = [];
  nodes = node_of n2 ∷ node_of n1 ∷ [];
  apps = record {
    deps = [];
    start_arg = None;
    phases = false;
    spread = Some (record { timeout = 5000; groups = (n1 ∷ []) ∷ (n2 ∷ []) ∷ [] });
  } ∷ record { deps = []; start_arg = None; phases = false; spread = None } ∷ [];
}

abbrev pub file : OwnFile
file = record {
  own = record {
    has_dist = true;
    entries = record {
      app = d1;
      timeout = 5000;
      places = record { is_tuple = false; nodes = n1 ∷ [] } ∷ record { is_tuple = false; nodes = n2 ∷ [] } ∷ [];
    } ∷ [];
  };
  wait = wait.After 12000;
}

-- ---- what happens

abbrev pub no_net : NetView
no_net = record {
  clock = 0;
  step = 0;
  last_call = 0;
  alive = [];
  links = [];
  locks = [];
  timers = [];
  calls = [];
  asleep = [];
  told = [];
}

abbrev none_begun : SystemView
none_begun = system_of cluster (file ∷ file ∷ []) (cell.Node never_begun ∷ cell.Node never_begun ∷ cell.Net no_net ∷ []) no_net false

-- all that comes of it, in one order
abbrev pub quiet : SystemView → SystemView
quiet s = settled 1000 FirstComes s

abbrev one_up : SystemView
one_up = quiet (booted n1 none_begun)

abbrev pub both_up : SystemView
both_up = quiet (booted n2 one_up)

-- ---- what the prover computes of it

abbrev pub dist_of : SystemView → Node → DistView
dist_of s n = unwrap_or (node_at s n).dist (beginning 0 0 n [])

-- a node has a dist_ac, which does nothing
pub record IsThere (n : Node) (s : SystemView) : Type 0 where
  pub alive : is_alive_at s n ≡ true
  pub has : is_some (node_at s n).dist ≡ true
  pub takes_all : (dist_of s n).stand ≡ stand.Idle
  pub mail : (dist_of s n).mail ≡ []
  pub permits : (dist_of s n).p_reqs ≡ []
  pub parked : (dist_of s n).parked ≡ []

-- the first node runs both, and its dist_ac knows the second one
record Runs (s : SystemView) : Type 0 where
  listed : controls (own_at s n1) d1 ≡ true
  runs : keyfind d1 (node_at s n1).controller.running ≡ Some place_of.Here
  local : standing_of (dist_of s n1) d1 ≡ standing.Local
  knows : is_among n2 (dist_of s n1).known ≡ true
  takeovers : (dist_of s n1).t_reqs ≡ []
  ends : (dist_of s n1).s_reqs ≡ []
  sees : are_linked n1 n2 s.links ≡ true
  calls : s.calls ≡ []
  locks : s.locks ≡ []
  keeps : KeepsNode d1 false (node_at s n1).controller
  runs_alone : keyfind l1 (node_at s n1).controller.running ≡ Some place_of.Here
  unlisted : controls (own_at s n1) l1 ≡ false

-- there are two nodes
abbrev pub NoMore : SystemView → Type 0
NoMore s = (k : ℕ) → is_alive_at s (record { 0 = suc (suc k) }) ≡ false

pub first_there : IsThere n1 both_up
unfolding controller_start controller_stop controller_permit controller_top_ends controller_do_start controller_change controller_received controller_spawn_starter controller_reply_to_requester controller_has_started controller_start_reply dist_finish dist_runs_elsewhere dist_take_over dist_permit dist_get_nodes dist_start_here dist_is_to_start dist_find_start_node dist_start_distributed dist_start_appl dist_check_waiting dist_node_down dist_introduced_to dist_handle_next dist_del_t_reqs dist_run dist_answer_ends dist_not_run dist_stopped dist_new_node dist_answer_permits dist_app_started dist_app_stopped dist_weight_told dist_restart dist_new_permission net_to_connect node_controlled_by node_terminated_by node_handled_by node_introduced_by system_lock_call system_wait_for_lock system_behind_sync system_go_on_call system_call_received system_connect system_delivered system_slowed system_waited_for system_booted system_called system_fired_next system_ticked system_is_ticked system_down_told system_taken_down system_ended system_stopped system_join system_has_seen system_boot_next system_made system_rested system_forgotten system_told system_after system_take_lock system_gone system_handled system_work system_mailed
first_there = record { alive = refl; has = refl; takes_all = refl; mail = refl; permits = refl; parked = refl }

pub second_there : IsThere n2 both_up
unfolding controller_start controller_stop controller_permit controller_top_ends controller_do_start controller_change controller_received controller_spawn_starter controller_reply_to_requester controller_has_started controller_start_reply dist_finish dist_runs_elsewhere dist_take_over dist_permit dist_get_nodes dist_start_here dist_is_to_start dist_find_start_node dist_start_distributed dist_start_appl dist_check_waiting dist_node_down dist_introduced_to dist_handle_next dist_del_t_reqs dist_run dist_answer_ends dist_not_run dist_stopped dist_new_node dist_answer_permits dist_app_started dist_app_stopped dist_weight_told dist_restart dist_new_permission net_to_connect node_controlled_by node_terminated_by node_handled_by node_introduced_by system_lock_call system_wait_for_lock system_behind_sync system_go_on_call system_call_received system_connect system_delivered system_slowed system_waited_for system_booted system_called system_fired_next system_ticked system_is_ticked system_down_told system_taken_down system_ended system_stopped system_join system_has_seen system_boot_next system_made system_rested system_forgotten system_told system_after system_take_lock system_gone system_handled system_work system_mailed
second_there = record { alive = refl; has = refl; takes_all = refl; mail = refl; permits = refl; parked = refl }

runs : Runs both_up
unfolding controller_start controller_stop controller_permit controller_top_ends controller_do_start controller_change controller_received controller_spawn_starter controller_reply_to_requester controller_has_started controller_start_reply dist_finish dist_runs_elsewhere dist_take_over dist_permit dist_get_nodes dist_start_here dist_is_to_start dist_find_start_node dist_start_distributed dist_start_appl dist_check_waiting dist_node_down dist_introduced_to dist_handle_next dist_del_t_reqs dist_run dist_answer_ends dist_not_run dist_stopped dist_new_node dist_answer_permits dist_app_started dist_app_stopped dist_weight_told dist_restart dist_new_permission net_to_connect node_controlled_by node_terminated_by node_handled_by node_introduced_by system_lock_call system_wait_for_lock system_behind_sync system_go_on_call system_call_received system_connect system_delivered system_slowed system_waited_for system_booted system_called system_fired_next system_ticked system_is_ticked system_down_told system_taken_down system_ended system_stopped system_join system_has_seen system_boot_next system_made system_rested system_forgotten system_told system_after system_take_lock system_gone system_handled system_work system_mailed
runs = record {
  listed = refl;
  runs = refl;
  local = refl;
  knows = refl;
  takeovers = refl;
  ends = refl;
  sees = refl;
  calls = refl;
  locks = refl;
  keeps = refl;
  runs_alone = refl;
  unlisted = refl;
}

pub no_more : NoMore both_up
unfolding controller_start controller_stop controller_permit controller_top_ends controller_do_start controller_change controller_received controller_spawn_starter controller_reply_to_requester controller_has_started controller_start_reply dist_finish dist_runs_elsewhere dist_take_over dist_permit dist_get_nodes dist_start_here dist_is_to_start dist_find_start_node dist_start_distributed dist_start_appl dist_check_waiting dist_node_down dist_introduced_to dist_handle_next dist_del_t_reqs dist_run dist_answer_ends dist_not_run dist_stopped dist_new_node dist_answer_permits dist_app_started dist_app_stopped dist_weight_told dist_restart dist_new_permission net_to_connect node_controlled_by node_terminated_by node_handled_by node_introduced_by system_lock_call system_wait_for_lock system_behind_sync system_go_on_call system_call_received system_connect system_delivered system_slowed system_waited_for system_booted system_called system_fired_next system_ticked system_is_ticked system_down_told system_taken_down system_ended system_stopped system_join system_has_seen system_boot_next system_made system_rested system_forgotten system_told system_after system_take_lock system_gone system_handled system_work system_mailed
no_more zero = refl
no_more (suc k) = refl

is_quiet : is_settled_by 1000 FirstComes (booted n2 one_up) ≡ true
unfolding controller_start controller_stop controller_permit controller_top_ends controller_do_start controller_change controller_received controller_spawn_starter controller_reply_to_requester controller_has_started controller_start_reply dist_finish dist_runs_elsewhere dist_take_over dist_permit dist_get_nodes dist_start_here dist_is_to_start dist_find_start_node dist_start_distributed dist_start_appl dist_check_waiting dist_node_down dist_introduced_to dist_handle_next dist_del_t_reqs dist_run dist_answer_ends dist_not_run dist_stopped dist_new_node dist_answer_permits dist_app_started dist_app_stopped dist_weight_told dist_restart dist_new_permission net_to_connect node_controlled_by node_terminated_by node_handled_by node_introduced_by system_lock_call system_wait_for_lock system_behind_sync system_go_on_call system_call_received system_connect system_delivered system_slowed system_waited_for system_booted system_called system_fired_next system_ticked system_is_ticked system_down_told system_taken_down system_ended system_stopped system_join system_has_seen system_boot_next system_made system_rested system_forgotten system_told system_after system_take_lock system_gone system_handled system_work system_mailed
is_quiet = refl

nobody_yet : (k : ℕ) → node_at none_begun (record { 0 = k }) ≡ never_begun
nobody_yet zero = refl
nobody_yet (suc zero) = refl
nobody_yet (suc (suc zero)) = refl
nobody_yet (suc (suc (suc k))) = refl

first_reached : IsReached none_begun
first_reached = new none_begun (record {
  nodes = λ n. nobody_yet n.0;
  alive = refl;
  links = refl;
  locks = refl;
  timers = refl;
  calls = refl;
  messages = refl;
  slow = refl;
})

pub begins_at : (s : SystemView) (n : Node) (v : LiveView) → live_at s n ≡ Some v → is_alive_at s n ≡ false → IsReached s
    → IsReached (quiet (booted n s))
begins_at s n v there dead reached =
    commands_reached.settles_there 1000 FirstComes (booted n s)
    (later s (booted n s) reached (acts s (booted n s) (begins s n (v, there) dead)))

both_reached : IsReached both_up
unfolding controller_start controller_stop controller_permit controller_top_ends controller_do_start controller_change controller_received controller_spawn_starter controller_reply_to_requester controller_has_started controller_start_reply dist_finish dist_runs_elsewhere dist_take_over dist_permit dist_get_nodes dist_start_here dist_is_to_start dist_find_start_node dist_start_distributed dist_start_appl dist_check_waiting dist_node_down dist_introduced_to dist_handle_next dist_del_t_reqs dist_run dist_answer_ends dist_not_run dist_stopped dist_new_node dist_answer_permits dist_app_started dist_app_stopped dist_weight_told dist_restart dist_new_permission net_to_connect node_controlled_by node_terminated_by node_handled_by node_introduced_by system_lock_call system_wait_for_lock system_behind_sync system_go_on_call system_call_received system_connect system_delivered system_slowed system_waited_for system_booted system_called system_fired_next system_ticked system_is_ticked system_down_told system_taken_down system_ended system_stopped system_join system_has_seen system_boot_next system_made system_rested system_forgotten system_told system_after system_take_lock system_gone system_handled system_work system_mailed
both_reached = begins_at one_up n2 never_begun refl refl (begins_at none_begun n1 never_begun refl refl first_reached)

-- ---- so the laws are of it

has_it : (o : Option DistView) (d : DistView) → is_some o ≡ true → o ≡ Some (unwrap_or o d)
has_it None d is = absurd (false≢true is)
has_it (Some e) d is = refl

-- it is the dist_ac that was computed
pub is_it : (s : SystemView) (n : Node) (d : DistView) → IsThere n s → (node_at s n).dist ≡ Some d → dist_of s n ≡ d
is_it s n d is has = same_Some (dist_of s n) d (sym (has_it (node_at s n).dist (beginning 0 0 n []) is.has) ∙ has)

pub at_rest : (s : SystemView) (n : Node) → IsThere n s → (d : DistView) → (node_at s n).dist ≡ Some d → IsUnoccupied d
at_rest s n is d has = subst IsUnoccupied (is_it s n d is has) (record {
  stand = inl is.takes_all;
  mail = subst (All (λ (m : Message). takes (dist_of s n).stand m ≡ false)) (sym is.mail)
      (All-nil (λ (m : Message). takes (dist_of s n).stand m ≡ false));
  permits = is.permits;
  parked = is.parked;
})

-- what is so of both is so of all that are alive
pub of_both : (P : Node → Type 0) (s : SystemView) → NoMore s → P n1 → P n2 → (k : ℕ) → is_alive_at s (record { 0 = k }) ≡ true
    → P (record { 0 = k })
of_both P s none first second zero alive = first
of_both P s none first second (suc zero) alive = second
of_both P s none first second (suc (suc k)) alive = absurd (false≢true (sym (none k) ∙ alive))

are_at_rest : (s : SystemView) → IsThere n1 s → IsThere n2 s → Runs s → NoMore s → IsSettled s → AreAtRest s
are_at_rest s first second so none settled = record {
  settled = settled;
  calls = so.calls;
  dists = λ n d alive has.
      of_both (λ (m : Node). (e : DistView) → (node_at s m).dist ≡ Some e → IsUnoccupied e) s none
      (at_rest s n1 first) (at_rest s n2 second) n.0 alive d has;
}

can_end : (s : SystemView) → IsThere n1 s → Runs s → NoMore s → CanEnd n1 d1 s
can_end s first so none = record {
  tells = λ is. record {
    sees_all = record {
      takeovers = λ d has. ap (λ (x : DistView). x.t_reqs) (sym (is_it s n1 d first has)) ∙ so.takeovers;
      sees = λ d has m among alive.
          of_both (λ (k : Node). (n1.0 == k.0 || are_linked n1 k s.links) ≡ true) s none refl so.sees m.0 alive;
    };
    ends = λ d has. ap (λ (x : DistView). x.s_reqs) (sym (is_it s n1 d first has)) ∙ so.ends;
  };
}

-- There are such calls: stops and exits of an application that runs there and of which another node is told, and forbids of one that isn't
-- distributed and runs there.
pub record Row : Type 0 where
  pub is_reached : IsReached both_up
  pub is_at_rest : AreAtRest both_up
  can_end : CanEnd n1 d1 both_up
  keeps : KeepsNode d1 false (node_at both_up n1).controller
  listed : controls (own_at both_up n1) d1 ≡ true
  runs : keyfind d1 (node_at both_up n1).controller.running ≡ Some place_of.Here
  knows : is_among n2 (dist_of both_up n1).known ≡ true
  runs_alone : keyfind l1 (node_at both_up n1).controller.running ≡ Some place_of.Here
  unlisted : controls (own_at both_up n1) l1 ≡ false

pub row : Row
row = record {
  is_reached = both_reached;
  is_at_rest = are_at_rest both_up first_there second_there runs no_more ((settles 1000 FirstComes (booted n2 one_up)).1 is_quiet);
  can_end = can_end both_up first_there runs no_more;
  keeps = runs.keeps;
  listed = runs.listed;
  runs = runs.runs;
  knows = runs.knows;
  runs_alone = runs.runs_alone;
  unlisted = runs.unlisted;
}
