-- A state that the law is of: two nodes that have waited for one another have synchronised, and both boot scripts are to begin. Each is to
-- start two applications that are distributed, of which the lists prefer different nodes, and one of its own.
use Rattle.std.proofs.Common.{◌≡◌, ◌≢◌, ◌≤◌, ◌⊎◌, ◌==◌, ℕ, zero, suc, Bool, true, false, cond, List, [], ◌∷◌, filter, length, unwrap_or, is_some, slice_get, Option, Some, None, refl, sym, ap, subst, ◌∙◌, inl, inr, arith}
use Rattle.std.specs.Prelude.{All, if◌then◌else◌}
use Rattle.std.proofs.lemmas.Bool.{cases_eq, ne_eqb, false≢true}
use Rattle.std.proofs.lemmas.List.Elements.{All-nil, All-cons}
use Rattle.rh_model.specs.ClusterView.{ClusterView, NodeView, boot_of, app_numbered}
use Rattle.rh_model.specs.declared.node.App.{App}
use Rattle.rh_model.specs.declared.node.Node.{Node}
use Rattle.rh_model.specs.declared.settings.Restart.TheVariants.{Temporary}
use Rattle.rh_model.specs.declared.settings.SyncWait.TheVariants.{After}
use Rattle.rh_otp_model.specs.declared.wait.OwnFile.{OwnFile}
use Rattle.rh_otp_model.specs.declared.wait.Wait.TheVariants as wait
use Rattle.rh_otp_model.specs.Own.{EntryView}
use Rattle.rh_otp_controller.specs.Calls.{start as controller_start, stop as controller_stop, permit as controller_permit, top_ends as controller_top_ends}
use Rattle.rh_otp_controller.specs.Changes.{do_start as controller_do_start, change as controller_change, received as controller_received}
use Rattle.rh_otp_controller.specs.Starting.{spawn_starter as controller_spawn_starter, reply_to_requester as controller_reply_to_requester, has_started as controller_has_started, start_reply as controller_start_reply}
use Rattle.rh_otp_dist.specs.Attempts.{finish as dist_finish, runs_elsewhere as dist_runs_elsewhere}
use Rattle.rh_otp_dist.specs.Calls.{take_over as dist_take_over, permit as dist_permit, get_nodes as dist_get_nodes}
use Rattle.rh_otp_dist.specs.Choosing.{start_here as dist_start_here, is_to_start as dist_is_to_start, find_start_node as dist_find_start_node, start_distributed as dist_start_distributed, start_appl as dist_start_appl}
use Rattle.rh_otp_dist.specs.Down.{check_waiting as dist_check_waiting, node_down as dist_node_down}
use Rattle.rh_otp_dist.specs.Outside.{introduced_to as dist_introduced_to}
use Rattle.rh_otp_dist.specs.Received.{handle_next as dist_handle_next}
use Rattle.rh_otp_dist.specs.Sending.{del_t_reqs as dist_del_t_reqs}
use Rattle.rh_otp_dist.specs.Told.{run as dist_run, answer_ends as dist_answer_ends, not_run as dist_not_run, stopped as dist_stopped, new_node as dist_new_node, answer_permits as dist_answer_permits, app_started as dist_app_started, app_stopped as dist_app_stopped, weight_told as dist_weight_told, restart as dist_restart, new_permission as dist_new_permission}
use Rattle.rh_otp_net.specs.Links.{to_connect as net_to_connect}
use Rattle.rh_otp_node.specs.Turns.{controlled_by as node_controlled_by, terminated_by as node_terminated_by, handled_by as node_handled_by, introduced_by as node_introduced_by}
use Rattle.rh_otp_system.specs.Calling.{lock_call as system_lock_call, wait_for_lock as system_wait_for_lock, behind_sync as system_behind_sync, go_on_call as system_go_on_call, call_received as system_call_received}
use Rattle.rh_otp_system.specs.Connecting.{connect as system_connect}
use Rattle.rh_otp_system.specs.Delivering.{delivered as system_delivered, slowed as system_slowed}
use Rattle.rh_otp_system.specs.Doing.{waited_for as system_waited_for, booted as system_booted, called as system_called, fired_next as system_fired_next, ticked as system_ticked, is_ticked as system_is_ticked}
use Rattle.rh_otp_system.specs.Ending.{down_told as system_down_told, taken_down as system_taken_down, ended as system_ended, stopped as system_stopped}
use Rattle.rh_otp_system.specs.Joining.{join as system_join, has_seen as system_has_seen, boot_next as system_boot_next}
use Rattle.rh_otp_system.specs.Moves.{made as system_made}
use Rattle.rh_otp_system.specs.Resting.{rested as system_rested, forgotten as system_forgotten}
use Rattle.rh_otp_system.specs.Sending.{told as system_told, after as system_after}
use Rattle.rh_otp_system.specs.Working.{take_lock as system_take_lock, gone as system_gone, handled as system_handled, work as system_work, mailed as system_mailed}
use Rattle.rh_otp_controller.specs.First.{first}
use Rattle.rh_otp_dist.specs.declared.state.Appl.{Appl}
use Rattle.rh_otp_dist.specs.declared.state.Stand.TheVariants as stand
use Rattle.rh_otp_dist.specs.declared.state.Standing.TheVariants as standing
use Rattle.rh_otp_dist.specs.State.{DistView, unknown_appl, beginning}
use Rattle.rh_otp_net.specs.declared.order.Order.TheVariants.{FirstComes}
use Rattle.rh_otp_net.specs.Links.{are_linked}
use Rattle.rh_otp_node.specs.declared.node.Phase.TheVariants as phase
use Rattle.rh_otp_node.specs.Live.{never_begun, permission_rows}
use Rattle.rh_otp_system.specs.declared.cell.Cell.TheVariants as cell
use Rattle.rh_otp_system.specs.declared.slow.Slow.TheVariants.{Boot}
use Rattle.rh_otp_system.specs.Doing.{booted}
use Rattle.rh_otp_system.specs.Moves.{settled}
use Rattle.rh_otp_system.specs.State.{SystemView, system_of, node_at, own_at, is_alive_at, has_dist_at}
use Rattle.rh_otp_laws.proofs.Nodes.{alive_is_there}
use Rattle.rh_otp_crashes.proofs.Crossing.{same_node}
use Rattle.rh_otp_stops.proofs.Rows.{n1, n2, d1, l1, no_net, quiet, dist_of}
use Rattle.rh_otp_gathers.specs.Gathers.{times}
use Rattle.rh_otp_together.specs.Together.{IsBefore, InOrder, distributed_of, boots_at, strangers_of, LeavesTo, IsToBoot, BootTogether}
use Rattle.rh_otp_together.proofs.Sharing.{few_left_to_one}

-- ---- the cluster

-- the other application that is distributed
abbrev pub d2 : App
d2 = app_numbered 2

-- it waits for these, and starts all three applications
abbrev node_of : List Node → List Node → NodeView
node_of mandatory optional = record {
  mandatory = mandatory;
  optional = optional;
  sync_wait = After 12000;
  boot = (d1, Temporary) ∷ (l1, Temporary) ∷ (d2, Temporary) ∷ [];
  permissions = true ∷ true ∷ true ∷ [];
  platforms = [];
}

abbrev cluster : ClusterView
cluster = record {
  profile = 1;
  node_names = (97 ∷ []) ∷ (98 ∷ []) ∷ [];
  app_names = (97 ∷ []) ∷ (98 ∷ []) ∷ (99 ∷ []) ∷ [];
  platform_names = [];
  nodes = node_of (n2 ∷ []) [] ∷ node_of [] (n1 ∷ []) ∷ [];
  apps = record {
    deps = [];
    start_arg = None;
    phases = false;
    spread = Some (record { timeout = 5000; groups = (n1 ∷ []) ∷ (n2 ∷ []) ∷ [] });
  } ∷ record { deps = []; start_arg = None; phases = false; spread = None } ∷ record {
    deps = [];
    start_arg = None;
    phases = false;
    spread = Some (record { timeout = 5000; groups = (n2 ∷ []) ∷ (n1 ∷ []) ∷ [] });
  } ∷ [];
}

-- the application is to run at the first of these nodes
abbrev entry : App → Node → Node → EntryView
entry a one other = record {
  app = a;
  timeout = 5000;
  places = record { is_tuple = false; nodes = one ∷ [] } ∷ record { is_tuple = false; nodes = other ∷ [] } ∷ [];
}

abbrev file : OwnFile
file = record { own = record { has_dist = true; entries = entry d1 n1 n2 ∷ entry d2 n2 n1 ∷ [] }; wait = wait.Forever }

abbrev none_begun : SystemView
none_begun =
    system_of cluster (file ∷ file ∷ []) (cell.Node never_begun ∷ cell.Node never_begun ∷ cell.Net no_net ∷ []) no_net true

abbrev one_waits : SystemView
one_waits = quiet (booted n1 none_begun)

-- behind so many moves both have joined, and their dist_acs know one another
abbrev pub gathered : SystemView
gathered = settled 7 FirstComes (booted n2 one_waits)

-- where each is to run
abbrev pub runs_at : App → Node
runs_at a = if a.0 == 0 then n1 else n2

abbrev pub shared : List App
shared = d1 ∷ d2 ∷ []

-- ---- what the prover computes of it

abbrev pub flags : List Bool
flags = true ∷ false ∷ true ∷ []

record At (m other : Node) (s : SystemView) : Type 0 where
  alive : is_alive_at s m ≡ true
  up : (node_at s m).phase ≡ phase.Up
  place : (node_at s m).place ≡ 0
  controller : (node_at s m).controller ≡ first (permission_rows cluster m)
  has : is_some (node_at s m).dist ≡ true
  idle : (dist_of s m).stand ≡ stand.Idle
  mail : (dist_of s m).mail ≡ []
  runs : (dist_of s m).remote_started ≡ []
  started : (dist_of s m).started ≡ []
  locals : (dist_of s m).tmp_locals ≡ []
  weights : (dist_of s m).tmp_weights ≡ []
  takeovers : (dist_of s m).t_reqs ≡ []
  monitored : (dist_of s m).monitored ≡ []
  parked : (dist_of s m).parked ≡ []
  appls : (dist_of s m).appls ≡ unknown_appl ∷ unknown_appl ∷ unknown_appl ∷ []
  may : (dist_of s m).may ≡ flags ∷ flags ∷ []
  known : (dist_of s m).known ≡ other ∷ m ∷ []
  sees : are_linked m other s.links ≡ true

record Both (s : SystemView) : Type 0 where
  cluster : s.cluster ≡ cluster
  files : s.files ≡ file ∷ file ∷ []
  alive : s.alive ≡ n1 ∷ n2 ∷ []
  slow : s.slow ≡ Boot n2 ∷ Boot n1 ∷ []
  messages : s.messages ≡ []
  calls : s.calls ≡ []
  locks : s.locks ≡ []

both : Both gathered
unfolding controller_start controller_stop controller_permit controller_top_ends controller_do_start controller_change controller_received controller_spawn_starter controller_reply_to_requester controller_has_started controller_start_reply dist_finish dist_runs_elsewhere dist_take_over dist_permit dist_get_nodes dist_start_here dist_is_to_start dist_find_start_node dist_start_distributed dist_start_appl dist_check_waiting dist_node_down dist_introduced_to dist_handle_next dist_del_t_reqs dist_run dist_answer_ends dist_not_run dist_stopped dist_new_node dist_answer_permits dist_app_started dist_app_stopped dist_weight_told dist_restart dist_new_permission net_to_connect node_controlled_by node_terminated_by node_handled_by node_introduced_by system_lock_call system_wait_for_lock system_behind_sync system_go_on_call system_call_received system_connect system_delivered system_slowed system_waited_for system_booted system_called system_fired_next system_ticked system_is_ticked system_down_told system_taken_down system_ended system_stopped system_join system_has_seen system_boot_next system_made system_rested system_forgotten system_told system_after system_take_lock system_gone system_handled system_work system_mailed
both = record { cluster = refl; files = refl; alive = refl; slow = refl; messages = refl; calls = refl; locks = refl }

one_is : At n1 n2 gathered
unfolding controller_start controller_stop controller_permit controller_top_ends controller_do_start controller_change controller_received controller_spawn_starter controller_reply_to_requester controller_has_started controller_start_reply dist_finish dist_runs_elsewhere dist_take_over dist_permit dist_get_nodes dist_start_here dist_is_to_start dist_find_start_node dist_start_distributed dist_start_appl dist_check_waiting dist_node_down dist_introduced_to dist_handle_next dist_del_t_reqs dist_run dist_answer_ends dist_not_run dist_stopped dist_new_node dist_answer_permits dist_app_started dist_app_stopped dist_weight_told dist_restart dist_new_permission net_to_connect node_controlled_by node_terminated_by node_handled_by node_introduced_by system_lock_call system_wait_for_lock system_behind_sync system_go_on_call system_call_received system_connect system_delivered system_slowed system_waited_for system_booted system_called system_fired_next system_ticked system_is_ticked system_down_told system_taken_down system_ended system_stopped system_join system_has_seen system_boot_next system_made system_rested system_forgotten system_told system_after system_take_lock system_gone system_handled system_work system_mailed
one_is = record {
  alive = refl;
  up = refl;
  place = refl;
  controller = refl;
  has = refl;
  idle = refl;
  mail = refl;
  runs = refl;
  started = refl;
  locals = refl;
  weights = refl;
  takeovers = refl;
  monitored = refl;
  parked = refl;
  appls = refl;
  may = refl;
  known = refl;
  sees = refl;
}

two_is : At n2 n1 gathered
unfolding controller_start controller_stop controller_permit controller_top_ends controller_do_start controller_change controller_received controller_spawn_starter controller_reply_to_requester controller_has_started controller_start_reply dist_finish dist_runs_elsewhere dist_take_over dist_permit dist_get_nodes dist_start_here dist_is_to_start dist_find_start_node dist_start_distributed dist_start_appl dist_check_waiting dist_node_down dist_introduced_to dist_handle_next dist_del_t_reqs dist_run dist_answer_ends dist_not_run dist_stopped dist_new_node dist_answer_permits dist_app_started dist_app_stopped dist_weight_told dist_restart dist_new_permission net_to_connect node_controlled_by node_terminated_by node_handled_by node_introduced_by system_lock_call system_wait_for_lock system_behind_sync system_go_on_call system_call_received system_connect system_delivered system_slowed system_waited_for system_booted system_called system_fired_next system_ticked system_is_ticked system_down_told system_taken_down system_ended system_stopped system_join system_has_seen system_boot_next system_made system_rested system_forgotten system_told system_after system_take_lock system_gone system_handled system_work system_mailed
two_is = record {
  alive = refl;
  up = refl;
  place = refl;
  controller = refl;
  has = refl;
  idle = refl;
  mail = refl;
  runs = refl;
  started = refl;
  locals = refl;
  weights = refl;
  takeovers = refl;
  monitored = refl;
  parked = refl;
  appls = refl;
  may = refl;
  known = refl;
  sees = refl;
}

-- ---- so the law is of it

abbrev pair : List Node
pair = n1 ∷ n2 ∷ []

-- a node is the first, the second, or neither
which : (m : Node) → (m ≡ n1) ⊎ ((m ≡ n2) ⊎ (times m pair ≡ 0))
which m = by (cases_eq m.0 0) (cases_eq m.0 1)
  where
    by : (m.0 ≡ 0) ⊎ (m.0 ≢ 0) → (m.0 ≡ 1) ⊎ (m.0 ≢ 1) → (m ≡ n1) ⊎ ((m ≡ n2) ⊎ (times m pair ≡ 0))
    by (inl is) c = inl (same_node m n1 is)
    by (inr other) (inl is) = inr (inl (same_node m n2 is))
    by (inr other) (inr another) = inr (inr (λ i. length (cond (ne_eqb 0 m.0 (λ is. other (sym is)) i)
        (n1 ∷ cond (ne_eqb 1 m.0 (λ is. another (sym is)) i) (n2 ∷ []) []) (cond (ne_eqb 1 m.0 (λ is. another (sym is)) i) (n2 ∷ []) []))))

once : (m : Node) → times m pair ≤ 1
once m = by (which m)
  where
    by : (m ≡ n1) ⊎ ((m ≡ n2) ⊎ (times m pair ≡ 0)) → times m pair ≤ 1
    by (inl is) = subst (λ (x : Node). times x pair ≤ 1) (sym is) (omega arith)
    by (inr (inl is)) = subst (λ (x : Node). times x pair ≤ 1) (sym is) (omega arith)
    by (inr (inr none)) = omega (arith, none)

turned : (x : Node) → times x (n2 ∷ n1 ∷ []) ≡ times x pair
turned x = by (0 == x.0) (1 == x.0)
  where
    by : (c d : Bool) → length (cond d (n2 ∷ cond c (n1 ∷ []) []) (cond c (n1 ∷ []) []))
        ≡ length (cond c (n1 ∷ cond d (n2 ∷ []) []) (cond d (n2 ∷ []) []))
    by true true = refl
    by true false = refl
    by false true = refl
    by false false = refl

-- the same system, with its cluster and its files in front of us
abbrev clear : SystemView → SystemView
clear s = record s { cluster = cluster; files = file ∷ file ∷ [] }

is_clear : (s : SystemView) → Both s → clear s ≡ s
is_clear s so = λ i. record s { cluster = sym so.cluster i; files = sym so.files i }

pub has_it : (o : Option DistView) (d : DistView) → is_some o ≡ true → o ≡ Some (unwrap_or o d)
has_it None d is = absurd (false≢true is)
has_it (Some e) d is = refl

pub unknown_each : (a : App) → (unwrap_or (slice_get (unknown_appl ∷ unknown_appl ∷ unknown_appl ∷ []) a.0) unknown_appl).standing
    ≡ standing.Undefined
unknown_each a = by a.0
  where
    by : (k : ℕ) → (unwrap_or (slice_get (unknown_appl ∷ unknown_appl ∷ unknown_appl ∷ []) k) unknown_appl).standing ≡ standing.Undefined
    by zero = refl
    by (suc zero) = refl
    by (suc (suc zero)) = refl
    by (suc (suc (suc k))) = refl

-- what a node's own file and its boot list say
record Lists (m : Node) (s : SystemView) (d : DistView) : Type 0 where
  has_dist : has_dist_at s m ≡ true
  in_order : InOrder s m [] (boot_of s.cluster m)
  few : length (boot_of s.cluster m) ≡ 3
  distributed : distributed_of (own_at s m) (boot_of s.cluster m) ≡ filter (boots_at s m) shared
  leaves : All (λ (a : App). boots_at s m a ≡ true → LeavesTo m a d s (runs_at a)) shared
  strangers : strangers_of s m shared ≡ []

abbrev knowing : DistView → DistView
knowing d = record d { may = flags ∷ flags ∷ [] }

first_lists : (s : SystemView) (d : DistView) → Lists n1 (clear s) (knowing d)
first_lists s d = record {
  has_dist = refl;
  in_order = (
    refl,
    All-nil (IsBefore (clear s) n1 []),
    (λ local. refl),
    (
      refl,
      All-nil (IsBefore (clear s) n1 (d1 ∷ [])),
      (λ local. refl),
      (refl, All-nil (IsBefore (clear s) n1 (l1 ∷ d1 ∷ [])), (λ local. refl), tt),
    ),
  );
  few = refl;
  distributed = refl;
  leaves = All-cons Leaves d1 (d2 ∷ []) (λ boots. inl (refl, refl)) (All-cons Leaves d2 [] (λ boots. inl (refl, refl)) (All-nil Leaves));
  strangers = refl;
}
  where
    Leaves : App → Type 0
    Leaves a = boots_at (clear s) n1 a ≡ true → LeavesTo n1 a (knowing d) (clear s) (runs_at a)

second_lists : (s : SystemView) (d : DistView) → Lists n2 (clear s) (knowing d)
second_lists s d = record {
  has_dist = refl;
  in_order = (
    refl,
    All-nil (IsBefore (clear s) n2 []),
    (λ local. refl),
    (
      refl,
      All-nil (IsBefore (clear s) n2 (d1 ∷ [])),
      (λ local. refl),
      (refl, All-nil (IsBefore (clear s) n2 (l1 ∷ d1 ∷ [])), (λ local. refl), tt),
    ),
  );
  few = refl;
  distributed = refl;
  leaves = All-cons Leaves d1 (d2 ∷ []) (λ boots. inl (refl, refl)) (All-cons Leaves d2 [] (λ boots. inl (refl, refl)) (All-nil Leaves));
  strangers = refl;
}
  where
    Leaves : App → Type 0
    Leaves a = boots_at (clear s) n2 a ≡ true → LeavesTo n2 a (knowing d) (clear s) (runs_at a)

is_to_boot : (m other : Node) (s : SystemView) → Both s → At m other s → ((d : DistView) → Lists m (clear s) (knowing d))
    → ((x : Node) → times x (other ∷ m ∷ []) ≡ times x s.alive)
    → ((x : Node) → x.0 ≢ m.0 → 1 ≤ times x s.alive → x ≡ other) → IsToBoot shared runs_at m s
is_to_boot m other s so at clearly all others = record {
  there = alive_is_there s m at.alive;
  up = at.up;
  place = at.place;
  controller = at.controller ∙ ap (λ (c : ClusterView). first (permission_rows c m)) (sym so.cluster);
  has_dist = lists.has_dist;
  dist = dist_of s m;
  has = has_it (node_at s m).dist (beginning 0 0 m []) at.has;
  blank = record {
    idle = at.idle;
    mail = at.mail;
    runs = at.runs;
    started = at.started;
    locals = at.locals;
    weights = at.weights;
    takeovers = at.takeovers;
    monitored = at.monitored;
    parked = at.parked;
    unknown = λ a. ap (λ (l : List Appl). (unwrap_or (slice_get l a.0) unknown_appl).standing) at.appls ∙ unknown_each a;
  };
  known = λ x apart. ap (times x) at.known ∙ all x;
  sees = λ x apart some. ap (λ (y : Node). are_linked m y s.links) (others x apart some) ∙ at.sees;
  in_order = lists.in_order;
  short = (let few : length (boot_of s.cluster m) ≡ 3 = lists.few in omega (arith, few));
  distributed = lists.distributed;
  leaves = lists.leaves;
  strangers = few_left_to_one runs_at (strangers_of s m shared)
      (let none : length (strangers_of s m shared) ≡ 0 = ap (λ (l : List App). length l) lists.strangers in omega (arith, none));
}
  where
    lists : Lists m s (dist_of s m)
    lists =
        subst (Lists m s) (λ i. record (dist_of s m) { may = sym at.may i })
        (subst (λ (x : SystemView). Lists m x (knowing (dist_of s m))) (is_clear s so) (clearly (dist_of s m)))

boots_together : (s : SystemView) → Both s → At n1 n2 s → At n2 n1 s → BootTogether s
boots_together s so one two = record {
  once = λ m. subst (λ (l : List Node). times m l ≤ 1) (sym so.alive) (once m);
  apps = shared;
  at = runs_at;
  each = λ m some. by m (which m) (subst (λ (l : List Node). 1 ≤ times m l) so.alive some);
  runners = All-cons IsRunner d1 (d2 ∷ [])
      (subst (λ (l : List Node). 1 ≤ times n1 l) (sym so.alive) (omega arith), ap (λ (c : ClusterView). boots_by c n1 d1) so.cluster)
      (All-cons IsRunner d2 []
      (subst (λ (l : List Node). 1 ≤ times n2 l) (sym so.alive) (omega arith), ap (λ (c : ClusterView). boots_by c n2 d2) so.cluster)
      (All-nil IsRunner));
  nodes = n2 ∷ n1 ∷ [];
  slow = so.slow;
  all = λ m. turned m ∙ ap (times m) (sym so.alive);
  messages = so.messages;
  calls = so.calls;
  locks = so.locks;
}
  where
    IsRunner : App → Type 0
    IsRunner a = (1 ≤ times (runs_at a) s.alive) × (boots_at s (runs_at a) a ≡ true)

    boots_by : ClusterView → Node → App → Bool
    boots_by c m a = boots_at (record s { cluster = c }) m a

    not_one : (x : Node) → x.0 ≢ 0 → 1 ≤ times x s.alive → x ≡ n2
    not_one x apart some = at (which x)
      where
        at : (x ≡ n1) ⊎ ((x ≡ n2) ⊎ (times x pair ≡ 0)) → x ≡ n2
        at (inl is) = absurd (apart (ap (λ (y : Node). y.0) is))
        at (inr (inl is)) = is
        at (inr (inr none)) = absurd (let there_is : 1 ≤ times x pair = subst (λ (l : List Node). 1 ≤ times x l) so.alive some in
            omega (arith, none, there_is))

    not_two : (x : Node) → x.0 ≢ 1 → 1 ≤ times x s.alive → x ≡ n1
    not_two x apart some = at (which x)
      where
        at : (x ≡ n1) ⊎ ((x ≡ n2) ⊎ (times x pair ≡ 0)) → x ≡ n1
        at (inl is) = is
        at (inr (inl is)) = absurd (apart (ap (λ (y : Node). y.0) is))
        at (inr (inr none)) = absurd (let there_is : 1 ≤ times x pair = subst (λ (l : List Node). 1 ≤ times x l) so.alive some in
            omega (arith, none, there_is))

    first_boots : IsToBoot shared runs_at n1 s
    first_boots = is_to_boot n1 n2 s so one (first_lists s) (λ x. turned x ∙ ap (times x) (sym so.alive)) not_one

    second_boots : IsToBoot shared runs_at n2 s
    second_boots = is_to_boot n2 n1 s so two (second_lists s) (λ x. ap (times x) (sym so.alive)) not_two

    by : (m : Node) → (m ≡ n1) ⊎ ((m ≡ n2) ⊎ (times m pair ≡ 0)) → 1 ≤ times m pair → IsToBoot shared runs_at m s
    by m (inl is) some = subst (λ (x : Node). IsToBoot shared runs_at x s) (sym is) first_boots
    by m (inr (inl is)) some = subst (λ (x : Node). IsToBoot shared runs_at x s) (sym is) second_boots
    by m (inr (inr none)) some = absurd (omega (arith, none, some))

-- there is such a state
pub row : BootTogether gathered
row = boots_together gathered both one_is two_is
