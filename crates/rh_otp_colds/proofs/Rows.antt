-- A cluster that the laws are of: three nodes name one another, one of them boots one application less than the others; none has begun, and
-- two begin, one after the other.
use Rattle.std.proofs.Common.{◌≡◌, ◌≢◌, ◌<◌, ◌≤◌, ◌+◌, ◌-◌, ◌^◌, ◌==◌, ◌&&◌, ◌||◌, nat_lt, ℕ, zero, suc, Bool, true, false, not, List, [], ◌∷◌, filter, length, unwrap_or, Option, Some, None, refl, sym, ap, subst, ◌∙◌, arith}
use Rattle.std.specs.Prelude.{All, if◌then◌else◌}
use Rattle.std.proofs.lemmas.Bool.{and_parts, ltb-true, false_from_ne_true, ne_eqb}
use Rattle.std.proofs.lemmas.List.Elements.{All-nil, All-cons, All-head, All-tail}
use Rattle.std.proofs.lemmas.Option.{none-some}
use Rattle.rh_model.specs.ClusterView.{ClusterView, NodeView, numbered, app_numbered, is_in, mandatory_of, optional_of, boot_of, is_permitted}
use Rattle.rh_model.specs.declared.node.App.{App}
use Rattle.rh_model.specs.declared.node.Node.{Node}
use Rattle.rh_model.specs.declared.settings.Restart.{Restart}
use Rattle.rh_model.specs.declared.settings.Restart.TheVariants.{Temporary}
use Rattle.rh_model.specs.declared.settings.SyncWait.TheVariants.{After}
use Rattle.rh_otp_model.specs.declared.wait.OwnFile.{OwnFile}
use Rattle.rh_otp_model.specs.declared.wait.Wait.TheVariants as wait
use Rattle.rh_otp_controller.specs.Calls.{start as controller_start, stop as controller_stop, permit as controller_permit, top_ends as controller_top_ends}
use Rattle.rh_otp_controller.specs.Changes.{do_start as controller_do_start, change as controller_change, received as controller_received}
use Rattle.rh_otp_controller.specs.Starting.{spawn_starter as controller_spawn_starter, reply_to_requester as controller_reply_to_requester, has_started as controller_has_started, start_reply as controller_start_reply}
use Rattle.rh_otp_dist.specs.Attempts.{finish as dist_finish, runs_elsewhere as dist_runs_elsewhere}
use Rattle.rh_otp_dist.specs.Calls.{take_over as dist_take_over, permit as dist_permit, get_nodes as dist_get_nodes}
use Rattle.rh_otp_dist.specs.Choosing.{start_here as dist_start_here, is_to_start as dist_is_to_start, find_start_node as dist_find_start_node, start_distributed as dist_start_distributed, start_appl as dist_start_appl}
use Rattle.rh_otp_dist.specs.Down.{check_waiting as dist_check_waiting, node_down as dist_node_down}
use Rattle.rh_otp_dist.specs.Outside.{introduced_to as dist_introduced_to}
use Rattle.rh_otp_dist.specs.Received.{handle_next as dist_handle_next}
use Rattle.rh_otp_dist.specs.Sending.{del_t_reqs as dist_del_t_reqs}
use Rattle.rh_otp_dist.specs.Told.{run as dist_run, answer_ends as dist_answer_ends, not_run as dist_not_run, stopped as dist_stopped, new_node as dist_new_node, answer_permits as dist_answer_permits, app_started as dist_app_started, app_stopped as dist_app_stopped, weight_told as dist_weight_told, restart as dist_restart, new_permission as dist_new_permission}
use Rattle.rh_otp_net.specs.Links.{to_connect as net_to_connect}
use Rattle.rh_otp_node.specs.Turns.{controlled_by as node_controlled_by, terminated_by as node_terminated_by, handled_by as node_handled_by, introduced_by as node_introduced_by}
use Rattle.rh_otp_system.specs.Calling.{lock_call as system_lock_call, wait_for_lock as system_wait_for_lock, behind_sync as system_behind_sync, go_on_call as system_go_on_call, call_received as system_call_received}
use Rattle.rh_otp_system.specs.Connecting.{connect as system_connect}
use Rattle.rh_otp_system.specs.Delivering.{delivered as system_delivered, slowed as system_slowed}
use Rattle.rh_otp_system.specs.Doing.{waited_for as system_waited_for, booted as system_booted, called as system_called, fired_next as system_fired_next, ticked as system_ticked, is_ticked as system_is_ticked}
use Rattle.rh_otp_system.specs.Ending.{down_told as system_down_told, taken_down as system_taken_down, ended as system_ended, stopped as system_stopped}
use Rattle.rh_otp_system.specs.Joining.{join as system_join, has_seen as system_has_seen, boot_next as system_boot_next}
use Rattle.rh_otp_system.specs.Moves.{made as system_made}
use Rattle.rh_otp_system.specs.Resting.{rested as system_rested, forgotten as system_forgotten}
use Rattle.rh_otp_system.specs.Sending.{told as system_told, after as system_after}
use Rattle.rh_otp_system.specs.Working.{take_lock as system_take_lock, gone as system_gone, handled as system_handled, work as system_work, mailed as system_mailed}
use Rattle.rh_otp_net.specs.declared.order.Order.TheVariants.{FirstComes}
use Rattle.rh_otp_node.specs.Live.{LiveView, never_begun, is_alive}
use Rattle.rh_otp_system.specs.declared.cell.Cell.TheVariants as cell
use Rattle.rh_otp_system.specs.declared.slow.Answered.{Answered}
use Rattle.rh_otp_system.specs.Doing.{booted}
use Rattle.rh_otp_system.specs.Moves.{Reaches, is_settled_by}
use Rattle.rh_otp_system.specs.State.{SystemView, system_of, live_at, node_at, own_at, wait_at, has_dist_at, is_alive_at}
use Rattle.rh_otp_system.proofs.Moving.{settles}
use Rattle.rh_otp_laws.specs.Acting.{IsThere, IsNew, IsReached}
use Rattle.rh_otp_stops.proofs.Rows.{n1, n2, d1, l1, no_net, quiet}
use Rattle.rh_otp_waits.specs.Waits.{HasItWait}
use Rattle.rh_otp_gathers.specs.Gathers.{one_if}
use Rattle.rh_otp_gathers.specs.LastBoot.{IsLast}
use Rattle.rh_otp_together.specs.Together.{IsBefore, InOrder, distributed_of, boots_at, strangers_of}
use Rattle.rh_otp_together.proofs.Sharing.{few_left_to_one}
use Rattle.rh_otp_colds.specs.Colds.{is_there, NameEachOther, IsColdStart}
use Rattle.rh_otp_colds.specs.Wholes.{may_start, first_runner, CanStartTogether, IsLeft, IsStarting, none_yet, one_more}
use Rattle.rh_otp_colds.proofs.Boot.{colds_go_on}
use Rattle.rh_otp_colds.proofs.Each.{SoFar, so_far}

-- ---- the cluster

abbrev n3 : Node
n3 = numbered 2

abbrev d2 : App
d2 = app_numbered 2

-- it waits for these, and boots so
abbrev node_of : List Node → List Node → List (App × Restart) → NodeView
node_of mandatory optional boot = record {
  mandatory = mandatory;
  optional = optional;
  sync_wait = After 12000;
  boot = boot;
  permissions = true ∷ true ∷ true ∷ [];
  platforms = [];
}

-- the first node is in the list of the one distributed application, and the others are in those of both
abbrev one_of_both : List (App × Restart)
one_of_both = (d1, Temporary) ∷ (l1, Temporary) ∷ []

abbrev all_three : List (App × Restart)
all_three = (d1, Temporary) ∷ (l1, Temporary) ∷ (d2, Temporary) ∷ []

abbrev cluster : ClusterView
cluster = record {
  profile = 1;
  node_names = (97 ∷ []) ∷ (98 ∷ []) ∷ (99 ∷ []) ∷ [];
  app_names = (97 ∷ []) ∷ (98 ∷ []) ∷ (99 ∷ []) ∷ [];
  platform_names = [];
  nodes = node_of (n2 ∷ []) (n3 ∷ []) one_of_both ∷ node_of [] (n1 ∷ n3 ∷ []) all_three ∷ node_of (n1 ∷ n2 ∷ []) [] all_three ∷ [];
  apps = record {
    deps = [];
    start_arg = None;
    phases = false;
    spread = Some (record { timeout = 5000; groups = (n2 ∷ []) ∷ (n1 ∷ []) ∷ (n3 ∷ []) ∷ [] });
  } ∷ record { deps = []; start_arg = None; phases = false; spread = None } ∷ record {
    deps = [];
    start_arg = None;
    phases = false;
    spread = Some (record { timeout = 5000; groups = (n3 ∷ []) ∷ (n2 ∷ []) ∷ [] });
  } ∷ [];
}

-- All nodes have the same: the one application is to run at the second node, and the other one at the third.
abbrev file : OwnFile
file = record {
  own = record {
    has_dist = true;
    entries = record {
      app = d1;
      timeout = 5000;
      places = record { is_tuple = false; nodes = n2 ∷ [] } ∷ record { is_tuple = false; nodes = n1 ∷ [] }
          ∷ record { is_tuple = false; nodes = n3 ∷ [] } ∷ [];
    } ∷ record {
      app = d2;
      timeout = 5000;
      places = record { is_tuple = false; nodes = n3 ∷ [] } ∷ record { is_tuple = false; nodes = n2 ∷ [] } ∷ [];
    } ∷ [];
  };
  wait = wait.Forever;
}

-- ---- what happens

abbrev none_begun : SystemView
none_begun =
    system_of cluster (file ∷ file ∷ file ∷ [])
    (cell.Node never_begun ∷ cell.Node never_begun ∷ cell.Node never_begun ∷ cell.Net no_net ∷ []) no_net true

abbrev one_waits : SystemView
one_waits = quiet (booted n1 none_begun)

abbrev two_wait : SystemView
two_wait = quiet (booted n3 one_waits)

-- ---- none has begun

nobody_yet : (k : ℕ) → node_at none_begun (record { 0 = k }) ≡ never_begun
nobody_yet zero = refl
nobody_yet (suc zero) = refl
nobody_yet (suc (suc zero)) = refl
nobody_yet (suc (suc (suc zero))) = refl
nobody_yet (suc (suc (suc (suc k)))) = refl

is_new : IsNew none_begun
is_new = record {
  nodes = λ n. nobody_yet n.0;
  alive = refl;
  links = refl;
  locks = refl;
  timers = refl;
  calls = refl;
  messages = refl;
  slow = refl;
}

-- ---- the files

-- what is so of the three is so of all that are there
of_three : (P : Node → Type 0) → P n1 → P n2 → P n3 → (k : ℕ) → IsThere (record { 0 = k }) none_begun → P (record { 0 = k })
of_three P one two three zero there = one
of_three P one two three (suc zero) there = two
of_three P one two three (suc (suc zero)) there = three
of_three P one two three (suc (suc (suc zero))) there = absurd (none-some there.0 there.1)
of_three P one two three (suc (suc (suc (suc k)))) there = absurd (none-some there.0 there.1)

-- no list of these names another one
abbrev IsOne : Node → Type 0
IsOne y = y.0 < 3

out_of : (k : ℕ) (nodes : List Node) → All IsOne nodes → is_in (record { 0 = suc (suc (suc k)) }) nodes ≡ false
out_of k [] all = refl
out_of k (y ∷ nodes) all =
    let first : y.0 < 3 = All-head IsOne y nodes all in
    ap (λ (c : Bool). c || is_in (record { 0 = suc (suc (suc k)) }) nodes) (ne_eqb (suc (suc (suc k))) y.0 (λ is. omega (arith, is, first)))
    ∙ out_of k nodes (All-tail IsOne y nodes all)

nobody_more : (k : ℕ) (n : Node) → (is_there none_begun (record { 0 = suc (suc (suc k)) }) && not (suc (suc (suc k)) == n.0)) ≡ false
nobody_more zero n = refl
nobody_more (suc k) n = refl

-- the node stands in one of the lists of the other one, and in that alone, or in none where it is to stand in none
abbrev IsListedOnce : Node → Node → Type 0
IsListedOnce n x =
    one_if (is_in x (mandatory_of cluster n)) + one_if (is_in x (optional_of cluster n))
    ≡ one_if (is_there none_begun x && not (x.0 == n.0))

lists_of : (n : Node) → All IsOne (mandatory_of cluster n) → All IsOne (optional_of cluster n) → IsListedOnce n n1 → IsListedOnce n n2
    → IsListedOnce n n3 → (k : ℕ) → IsListedOnce n (record { 0 = k })
lists_of n first second one two three zero = one
lists_of n first second one two three (suc zero) = two
lists_of n first second one two three (suc (suc zero)) = three
lists_of n first second one two three (suc (suc (suc k))) =
    (λ i. one_if (out_of k (mandatory_of cluster n) first i) + one_if (out_of k (optional_of cluster n) second i))
    ∙ sym (ap one_if (nobody_more k n))

one_of : (y : Node) → y.0 < 3 → All IsOne (y ∷ [])
one_of y less = All-cons IsOne y [] less (All-nil IsOne)

both_of : (y x : Node) → y.0 < 3 → x.0 < 3 → All IsOne (y ∷ x ∷ [])
both_of y x less less_too = All-cons IsOne y (x ∷ []) less (one_of x less_too)

names : NameEachOther none_begun
names = record {
  wait = λ n there. of_three (λ (m : Node). HasItWait (wait_at none_begun m)) tt tt tt n.0 there;
  lists = λ n x there.
      of_three (λ (m : Node). (k : ℕ) → IsListedOnce m (record { 0 = k }))
      (lists_of n1 (one_of n2 (omega arith)) (one_of n3 (omega arith)) refl refl refl)
      (lists_of n2 (All-nil IsOne) (both_of n1 n3 (omega arith) (omega arith)) refl refl refl)
      (lists_of n3 (both_of n1 n2 (omega arith) (omega arith)) (All-nil IsOne) refl refl refl) n.0 there x.0;
}

nodes_so : (k : ℕ) → is_there none_begun (record { 0 = k }) ≡ nat_lt k 3
nodes_so zero = refl
nodes_so (suc zero) = refl
nodes_so (suc (suc zero)) = refl
nodes_so (suc (suc (suc zero))) = refl
nodes_so (suc (suc (suc (suc k)))) =
    sym (false_from_ne_true _ (λ is.
    (let less : suc (suc (suc (suc k))) < 3 = ltb-true (suc (suc (suc (suc k)))) 3 is in omega (arith, less))))

-- where they are to run
abbrev runner_of : App → Node
runner_of a = if a.0 == 0 then n2 else n3

abbrev Runs : App → Type 0
Runs a = (boots_at none_begun (runner_of a) a ≡ true) × (may_start none_begun (runner_of a) a ≡ true)

abbrev IsFirst : Node → App → Type 0
IsFirst m a = boots_at none_begun m a ≡ true → first_runner none_begun m a ≡ Some (runner_of a)

can : CanStartTogether none_begun
can = record {
  nodes = λ m. nodes_so m.0;
  has_dist = λ m there. of_three (λ (n : Node). has_dist_at none_begun n ≡ true) refl refl refl m.0 there;
  in_order = λ m there.
      of_three (λ (n : Node). InOrder none_begun n [] (boot_of cluster n)) (first_two n1 refl) (three n2 refl) (three n3 refl) m.0 there;
  short = λ m there. of_three (λ (n : Node). length (boot_of cluster n) < 2 ^ 64 - 1) (omega arith) (omega arith) (omega arith) m.0 there;
  apps = d1 ∷ d2 ∷ [];
  distributed = λ m there.
      of_three (λ (n : Node). distributed_of (own_at none_begun n) (boot_of cluster n) ≡ filter (boots_at none_begun n) (d1 ∷ d2 ∷ []))
      refl refl refl m.0 there;
  strangers = λ m there. few_left_to_one runner_of (strangers_of none_begun m (d1 ∷ d2 ∷ []))
      (of_three (λ (n : Node). length (strangers_of none_begun n (d1 ∷ d2 ∷ [])) ≤ 1) (omega arith) (omega arith) (omega arith) m.0 there);
  at = runner_of;
  runners = both Runs (refl, refl) (refl, refl);
  first = λ m there.
      of_three (λ (n : Node). All (IsFirst n) (d1 ∷ d2 ∷ [])) (both (IsFirst n1) (λ boots. refl) (λ boots. refl))
      (both (IsFirst n2) (λ boots. refl) (λ boots. refl)) (both (IsFirst n3) (λ boots. refl) (λ boots. refl)) m.0 there;
}
  where
    both : (P : App → Type 0) → P d1 → P d2 → All P (d1 ∷ d2 ∷ [])
    both P one two = All-cons P d1 (d2 ∷ []) one (All-cons P d2 [] two (All-nil P))

    first_two : (m : Node) → (is_permitted cluster m d1 && is_permitted cluster m l1) ≡ true → InOrder none_begun m [] one_of_both
    first_two m may =
        let parts : (is_permitted cluster m d1 ≡ true) × (is_permitted cluster m l1 ≡ true) =
        and_parts (is_permitted cluster m d1) (is_permitted cluster m l1) may in
        (refl, All-nil (IsBefore none_begun m []), λ out. parts.0, (refl, All-nil (IsBefore none_begun m (d1 ∷ [])), λ out. parts.1, tt))

    three : (m : Node) → (is_permitted cluster m d1 && (is_permitted cluster m l1 && is_permitted cluster m d2)) ≡ true
        → InOrder none_begun m [] all_three
    three m may =
        let parts : (is_permitted cluster m d1 ≡ true) × ((is_permitted cluster m l1 && is_permitted cluster m d2) ≡ true) =
        and_parts (is_permitted cluster m d1) (is_permitted cluster m l1 && is_permitted cluster m d2) may in
        let more : (is_permitted cluster m l1 ≡ true) × (is_permitted cluster m d2 ≡ true) =
        and_parts (is_permitted cluster m l1) (is_permitted cluster m d2) parts.1 in (
          refl,
          All-nil (IsBefore none_begun m []),
          λ out. parts.0,
          (
            refl,
            All-nil (IsBefore none_begun m (d1 ∷ [])),
            λ out. more.0,
            (refl, All-nil (IsBefore none_begun m (l1 ∷ d1 ∷ [])), λ out. more.1, tt),
          ),
        )

-- ---- what the prover computes of it

record AtOne (s : SystemView) : Type 0 where
  alive : s.alive ≡ n1 ∷ []
  second : live_at s n2 ≡ Some never_begun
  third : live_at s n3 ≡ Some never_begun

at_one : AtOne one_waits
unfolding controller_start controller_stop controller_permit controller_top_ends controller_do_start controller_change controller_received controller_spawn_starter controller_reply_to_requester controller_has_started controller_start_reply dist_finish dist_runs_elsewhere dist_take_over dist_permit dist_get_nodes dist_start_here dist_is_to_start dist_find_start_node dist_start_distributed dist_start_appl dist_check_waiting dist_node_down dist_introduced_to dist_handle_next dist_del_t_reqs dist_run dist_answer_ends dist_not_run dist_stopped dist_new_node dist_answer_permits dist_app_started dist_app_stopped dist_weight_told dist_restart dist_new_permission net_to_connect node_controlled_by node_terminated_by node_handled_by node_introduced_by system_lock_call system_wait_for_lock system_behind_sync system_go_on_call system_call_received system_connect system_delivered system_slowed system_waited_for system_booted system_called system_fired_next system_ticked system_is_ticked system_down_told system_taken_down system_ended system_stopped system_join system_has_seen system_boot_next system_made system_rested system_forgotten system_told system_after system_take_lock system_gone system_handled system_work system_mailed
at_one = record { alive = refl; second = refl; third = refl }

one_quiet : is_settled_by 1000 FirstComes (booted n1 none_begun) ≡ true
unfolding controller_start controller_stop controller_permit controller_top_ends controller_do_start controller_change controller_received controller_spawn_starter controller_reply_to_requester controller_has_started controller_start_reply dist_finish dist_runs_elsewhere dist_take_over dist_permit dist_get_nodes dist_start_here dist_is_to_start dist_find_start_node dist_start_distributed dist_start_appl dist_check_waiting dist_node_down dist_introduced_to dist_handle_next dist_del_t_reqs dist_run dist_answer_ends dist_not_run dist_stopped dist_new_node dist_answer_permits dist_app_started dist_app_stopped dist_weight_told dist_restart dist_new_permission net_to_connect node_controlled_by node_terminated_by node_handled_by node_introduced_by system_lock_call system_wait_for_lock system_behind_sync system_go_on_call system_call_received system_connect system_delivered system_slowed system_waited_for system_booted system_called system_fired_next system_ticked system_is_ticked system_down_told system_taken_down system_ended system_stopped system_join system_has_seen system_boot_next system_made system_rested system_forgotten system_told system_after system_take_lock system_gone system_handled system_work system_mailed
one_quiet = refl

one_uncounted : (booted n1 none_begun).answers ≡ []
unfolding controller_start controller_stop controller_permit controller_top_ends controller_do_start controller_change controller_received controller_spawn_starter controller_reply_to_requester controller_has_started controller_start_reply dist_finish dist_runs_elsewhere dist_take_over dist_permit dist_get_nodes dist_start_here dist_is_to_start dist_find_start_node dist_start_distributed dist_start_appl dist_check_waiting dist_node_down dist_introduced_to dist_handle_next dist_del_t_reqs dist_run dist_answer_ends dist_not_run dist_stopped dist_new_node dist_answer_permits dist_app_started dist_app_stopped dist_weight_told dist_restart dist_new_permission net_to_connect node_controlled_by node_terminated_by node_handled_by node_introduced_by system_lock_call system_wait_for_lock system_behind_sync system_go_on_call system_call_received system_connect system_delivered system_slowed system_waited_for system_booted system_called system_fired_next system_ticked system_is_ticked system_down_told system_taken_down system_ended system_stopped system_join system_has_seen system_boot_next system_made system_rested system_forgotten system_told system_after system_take_lock system_gone system_handled system_work system_mailed
one_uncounted = refl

record AtTwo (s : SystemView) : Type 0 where
  alive : s.alive ≡ n1 ∷ n3 ∷ []
  first : is_alive_at s n1 ≡ true
  second : live_at s n2 ≡ Some never_begun
  third : is_alive_at s n3 ≡ true
  none : (k : ℕ) → live_at s (record { 0 = suc (suc (suc k)) }) ≡ None
  mandatory : (node_at s n1).mandatory ≡ n2 ∷ []
  optional : (node_at s n1).optional ≡ []
  others : (node_at s n3).mandatory ≡ n2 ∷ []

no_fourth : (k : ℕ) → live_at two_wait (record { 0 = suc (suc (suc k)) }) ≡ None
unfolding controller_start controller_stop controller_permit controller_top_ends controller_do_start controller_change controller_received controller_spawn_starter controller_reply_to_requester controller_has_started controller_start_reply dist_finish dist_runs_elsewhere dist_take_over dist_permit dist_get_nodes dist_start_here dist_is_to_start dist_find_start_node dist_start_distributed dist_start_appl dist_check_waiting dist_node_down dist_introduced_to dist_handle_next dist_del_t_reqs dist_run dist_answer_ends dist_not_run dist_stopped dist_new_node dist_answer_permits dist_app_started dist_app_stopped dist_weight_told dist_restart dist_new_permission net_to_connect node_controlled_by node_terminated_by node_handled_by node_introduced_by system_lock_call system_wait_for_lock system_behind_sync system_go_on_call system_call_received system_connect system_delivered system_slowed system_waited_for system_booted system_called system_fired_next system_ticked system_is_ticked system_down_told system_taken_down system_ended system_stopped system_join system_has_seen system_boot_next system_made system_rested system_forgotten system_told system_after system_take_lock system_gone system_handled system_work system_mailed
no_fourth zero = refl
no_fourth (suc k) = refl

at_two : AtTwo two_wait
unfolding controller_start controller_stop controller_permit controller_top_ends controller_do_start controller_change controller_received controller_spawn_starter controller_reply_to_requester controller_has_started controller_start_reply dist_finish dist_runs_elsewhere dist_take_over dist_permit dist_get_nodes dist_start_here dist_is_to_start dist_find_start_node dist_start_distributed dist_start_appl dist_check_waiting dist_node_down dist_introduced_to dist_handle_next dist_del_t_reqs dist_run dist_answer_ends dist_not_run dist_stopped dist_new_node dist_answer_permits dist_app_started dist_app_stopped dist_weight_told dist_restart dist_new_permission net_to_connect node_controlled_by node_terminated_by node_handled_by node_introduced_by system_lock_call system_wait_for_lock system_behind_sync system_go_on_call system_call_received system_connect system_delivered system_slowed system_waited_for system_booted system_called system_fired_next system_ticked system_is_ticked system_down_told system_taken_down system_ended system_stopped system_join system_has_seen system_boot_next system_made system_rested system_forgotten system_told system_after system_take_lock system_gone system_handled system_work system_mailed
at_two = record {
  alive = refl;
  first = refl;
  second = refl;
  third = refl;
  none = no_fourth;
  mandatory = refl;
  optional = refl;
  others = refl;
}

two_quiet : is_settled_by 1000 FirstComes (booted n3 one_waits) ≡ true
unfolding controller_start controller_stop controller_permit controller_top_ends controller_do_start controller_change controller_received controller_spawn_starter controller_reply_to_requester controller_has_started controller_start_reply dist_finish dist_runs_elsewhere dist_take_over dist_permit dist_get_nodes dist_start_here dist_is_to_start dist_find_start_node dist_start_distributed dist_start_appl dist_check_waiting dist_node_down dist_introduced_to dist_handle_next dist_del_t_reqs dist_run dist_answer_ends dist_not_run dist_stopped dist_new_node dist_answer_permits dist_app_started dist_app_stopped dist_weight_told dist_restart dist_new_permission net_to_connect node_controlled_by node_terminated_by node_handled_by node_introduced_by system_lock_call system_wait_for_lock system_behind_sync system_go_on_call system_call_received system_connect system_delivered system_slowed system_waited_for system_booted system_called system_fired_next system_ticked system_is_ticked system_down_told system_taken_down system_ended system_stopped system_join system_has_seen system_boot_next system_made system_rested system_forgotten system_told system_after system_take_lock system_gone system_handled system_work system_mailed
two_quiet = refl

two_uncounted : (booted n3 one_waits).answers ≡ []
unfolding controller_start controller_stop controller_permit controller_top_ends controller_do_start controller_change controller_received controller_spawn_starter controller_reply_to_requester controller_has_started controller_start_reply dist_finish dist_runs_elsewhere dist_take_over dist_permit dist_get_nodes dist_start_here dist_is_to_start dist_find_start_node dist_start_distributed dist_start_appl dist_check_waiting dist_node_down dist_introduced_to dist_handle_next dist_del_t_reqs dist_run dist_answer_ends dist_not_run dist_stopped dist_new_node dist_answer_permits dist_app_started dist_app_stopped dist_weight_told dist_restart dist_new_permission net_to_connect node_controlled_by node_terminated_by node_handled_by node_introduced_by system_lock_call system_wait_for_lock system_behind_sync system_go_on_call system_call_received system_connect system_delivered system_slowed system_waited_for system_booted system_called system_fired_next system_ticked system_is_ticked system_down_told system_taken_down system_ended system_stopped system_join system_has_seen system_boot_next system_made system_rested system_forgotten system_told system_after system_take_lock system_gone system_handled system_work system_mailed
two_uncounted = refl

-- ---- so the laws are of it

never : (s : SystemView) (n : Node) → live_at s n ≡ Some never_begun → is_alive_at s n ≡ false
never s n is = ap (λ (o : Option LiveView). is_alive (unwrap_or o never_begun)) is

reaches_rest : (s : SystemView) → s.answers ≡ [] → Reaches s (quiet s)
reaches_rest s none =
    subst (λ (l : List Answered). Reaches (record s { answers = l }) (quiet s)) (sym none) (settles 1000 FirstComes s).0

one_starting : AtOne one_waits → IsStarting one_waits
one_starting so =
    one_more none_begun one_waits n1 n2 (none_yet none_begun is_new names can) (never_begun, refl) refl (never_begun, refl) refl
    (λ is. omega (arith, is)) (reaches_rest (booted n1 none_begun) one_uncounted)
    ((settles 1000 FirstComes (booted n1 none_begun)).1 one_quiet)

two_starting : AtOne one_waits → IsStarting two_wait
two_starting so =
    one_more one_waits two_wait n3 n2 (one_starting so) (never_begun, so.third) (never one_waits n3 so.third) (never_begun, so.second)
    (never one_waits n2 so.second) (λ is. omega (arith, is)) (reaches_rest (booted n3 one_waits) two_uncounted)
    ((settles 1000 FirstComes (booted n3 one_waits)).1 two_quiet)

is_left : (s : SystemView) → AtTwo s → IsLeft n2 s
is_left s so = record {
  there = (never_begun, so.second);
  down = never s n2 so.second;
  others = λ m there apart. others m.0 there apart;
  other = n1;
  alive = so.first;
}
  where
    others : (k : ℕ) → IsThere (record { 0 = k }) s → k ≢ 1 → is_alive_at s (record { 0 = k }) ≡ true
    others zero there apart = so.first
    others (suc zero) there apart = absurd (apart refl)
    others (suc (suc zero)) there apart = so.third
    others (suc (suc (suc k))) there apart = absurd (none-some there.0 (sym (so.none k) ∙ there.1))

-- There are such nodes, of which none has begun; the first one, which doesn't boot one of the applications, begins, and the third one, and
-- then the second one is the last: the others wait for it alone.
record Row : Type 0 where
  is_new : IsNew none_begun
  names : NameEachOther none_begun
  can : CanStartTogether none_begun
  first_lacks : strangers_of none_begun n1 can.apps ≡ d2 ∷ []
  second_has_all : strangers_of none_begun n2 can.apps ≡ []
  runs_at : can.at d2 ≡ n3
  starting : IsStarting two_wait
  reached : IsReached two_wait
  cold : IsColdStart two_wait
  can_still : CanStartTogether two_wait
  left : IsLeft n2 two_wait
  last : IsLast n2 two_wait
  alive : two_wait.alive ≡ n1 ∷ n3 ∷ []
  first_waits : (node_at two_wait n1).mandatory ≡ n2 ∷ []
  third_waits : (node_at two_wait n3).mandatory ≡ n2 ∷ []

row : Row
unfolding can
row =
    let f : SoFar two_wait = so_far two_wait (two_starting at_one) in
    let left : IsLeft n2 two_wait = is_left two_wait at_two in
    record {
      is_new = is_new;
      names = names;
      can = can;
      first_lacks = refl;
      second_has_all = refl;
      runs_at = refl;
      starting = two_starting at_one;
      reached = f.reached;
      cold = f.cold;
      can_still = f.can;
      left = left;
      last = colds_go_on.last two_wait n2 left.other f.cold left.there left.down left.others left.alive;
      alive = at_two.alive;
      first_waits = at_two.mandatory;
      third_waits = at_two.others;
    }
