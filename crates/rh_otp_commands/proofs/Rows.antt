-- Systems that the laws are of: of three nodes two are alive, and each waits for the third one. The two systems differ in the order in which
-- the timers of these waits stand.
use Rattle.std.proofs.Common.{◌≡◌, ◌≢◌, ◌==◌, cond, Bool, ℕ, zero, suc, true, false, Some, None, [], ◌∷◌, slice_get, List, refl, sym, ap, subst, ◌∙◌, arith}
use Rattle.std.proofs.lemmas.Bool.{eqb-true}
use Rattle.std.proofs.lemmas.Option.{same_Some}
use Rattle.rh_model.specs.ClusterView.{ClusterView, NodeView, numbered}
use Rattle.rh_model.specs.declared.node.Node.{Node}
use Rattle.rh_model.specs.declared.settings.SyncWait.TheVariants.{After}
use Rattle.rh_otp_model.specs.declared.wait.OwnFile.{OwnFile}
use Rattle.rh_otp_model.specs.declared.wait.Wait.TheVariants as wait
use Rattle.rh_otp_net.specs.declared.order.Order.TheVariants.{FirstComes}
use Rattle.rh_otp_net.specs.declared.timers.Timer.{Timer}
use Rattle.rh_otp_node.specs.Live.{never_begun}
use Rattle.rh_otp_controller.specs.Calls.{start as controller_start, stop as controller_stop, permit as controller_permit, top_ends as controller_top_ends}
use Rattle.rh_otp_controller.specs.Changes.{do_start as controller_do_start, change as controller_change, received as controller_received}
use Rattle.rh_otp_controller.specs.Starting.{spawn_starter as controller_spawn_starter, reply_to_requester as controller_reply_to_requester, has_started as controller_has_started, start_reply as controller_start_reply}
use Rattle.rh_otp_dist.specs.Attempts.{finish as dist_finish, runs_elsewhere as dist_runs_elsewhere}
use Rattle.rh_otp_dist.specs.Calls.{take_over as dist_take_over, permit as dist_permit, get_nodes as dist_get_nodes}
use Rattle.rh_otp_dist.specs.Choosing.{start_here as dist_start_here, is_to_start as dist_is_to_start, find_start_node as dist_find_start_node, start_distributed as dist_start_distributed, start_appl as dist_start_appl}
use Rattle.rh_otp_dist.specs.Down.{check_waiting as dist_check_waiting, node_down as dist_node_down}
use Rattle.rh_otp_dist.specs.Outside.{introduced_to as dist_introduced_to}
use Rattle.rh_otp_dist.specs.Received.{handle_next as dist_handle_next}
use Rattle.rh_otp_dist.specs.Sending.{del_t_reqs as dist_del_t_reqs}
use Rattle.rh_otp_dist.specs.Told.{run as dist_run, answer_ends as dist_answer_ends, not_run as dist_not_run, stopped as dist_stopped, new_node as dist_new_node, answer_permits as dist_answer_permits, app_started as dist_app_started, app_stopped as dist_app_stopped, weight_told as dist_weight_told, restart as dist_restart, new_permission as dist_new_permission}
use Rattle.rh_otp_net.specs.Links.{to_connect as net_to_connect}
use Rattle.rh_otp_node.specs.Turns.{controlled_by as node_controlled_by, terminated_by as node_terminated_by, handled_by as node_handled_by, introduced_by as node_introduced_by}
use Rattle.rh_otp_system.specs.Calling.{lock_call as system_lock_call, wait_for_lock as system_wait_for_lock, behind_sync as system_behind_sync, go_on_call as system_go_on_call, call_received as system_call_received}
use Rattle.rh_otp_system.specs.Connecting.{connect as system_connect}
use Rattle.rh_otp_system.specs.Delivering.{delivered as system_delivered, slowed as system_slowed}
use Rattle.rh_otp_system.specs.Doing.{waited_for as system_waited_for, booted as system_booted, called as system_called, fired_next as system_fired_next, ticked as system_ticked, is_ticked as system_is_ticked}
use Rattle.rh_otp_system.specs.Ending.{down_told as system_down_told, taken_down as system_taken_down, ended as system_ended, stopped as system_stopped}
use Rattle.rh_otp_system.specs.Joining.{join as system_join, has_seen as system_has_seen, boot_next as system_boot_next}
use Rattle.rh_otp_system.specs.Moves.{made as system_made}
use Rattle.rh_otp_system.specs.Resting.{rested as system_rested, forgotten as system_forgotten}
use Rattle.rh_otp_system.specs.Sending.{told as system_told, after as system_after}
use Rattle.rh_otp_system.specs.Working.{take_lock as system_take_lock, gone as system_gone, handled as system_handled, work as system_work, mailed as system_mailed}
use Rattle.rh_otp_system.specs.declared.cell.Cell.TheVariants as cell
use Rattle.rh_otp_system.specs.Doing.{booted}
use Rattle.rh_otp_system.specs.Moves.{settled, is_settled_by, IsSettled}
use Rattle.rh_otp_system.specs.State.{SystemView, system_of, live_at, node_at, is_alive_at}
use Rattle.rh_otp_system.specs.Views.{NetView}
use Rattle.rh_otp_system.proofs.Moving.{settles}
use Rattle.rh_otp_laws.specs.Acting.{IsReached, new, later, acts, begins}
use Rattle.rh_otp_laws.proofs.Commands.{commands_reached}
use Rattle.rh_otp_orders.specs.Orders.{AreAlike, SameOfEach, node_of_timer}
use Rattle.rh_otp_commands.specs.Commands.{SettlesAlike}
use Rattle.rh_otp_commands.proofs.Alike.{alike_with_timers}
use Rattle.rh_otp_commands.proofs.OneWay.{rest_ends_alike}
use Rattle.rh_otp_orders.proofs.Confluence.{alike_itself}

abbrev n1 : Node
n1 = numbered 0

abbrev n2 : Node
n2 = numbered 1

-- it waits for the third node
abbrev node : NodeView
node = record {
  mandatory = [];
  optional = numbered 2 ∷ [];
  sync_wait = After 12000;
  boot = [];
  permissions = [];
  platforms = [];
}

abbrev cluster : ClusterView
cluster = record {
  profile = 1;
  node_names = (97 ∷ []) ∷ (98 ∷ []) ∷ (99 ∷ []) ∷ [];
  app_names = [];
  platform_names = [];
  nodes = node ∷ node ∷ node ∷ [];
  apps = [];
}

abbrev file : OwnFile
file = record { own = record { has_dist = false; entries = [] }; wait = wait.After 12000 }

abbrev no_net : NetView
no_net = record {
  clock = 0;
  step = 0;
  last_call = 0;
  alive = [];
  links = [];
  locks = [];
  timers = [];
  calls = [];
  asleep = [];
  told = [];
}

abbrev none_begun : SystemView
none_begun =
    system_of cluster (file ∷ file ∷ file ∷ [])
    (cell.Node never_begun ∷ cell.Node never_begun ∷ cell.Node never_begun ∷ cell.Net no_net ∷ []) no_net false

abbrev one_waits : SystemView
one_waits = settled 1000 FirstComes (booted n1 none_begun)

abbrev both_wait : SystemView
both_wait = settled 1000 FirstComes (booted n2 one_waits)

-- the other order
abbrev turned : List Timer → List Timer
turned (x ∷ y ∷ timers) = y ∷ x ∷ timers
turned timers = timers

abbrev otherwise : SystemView
otherwise = record both_wait { timers = turned both_wait.timers }

-- ---- what the prover computes

record Computed : Type 0 where
  quiet : is_settled_by 1000 FirstComes (booted n2 one_waits) ≡ true
  none_counted : both_wait.answers ≡ []
  first_dead : is_alive_at none_begun n1 ≡ false
  second_dead : is_alive_at one_waits n2 ≡ false
  first_there : live_at none_begun n1 ≡ Some never_begun
  second_there : live_at one_waits n2 ≡ Some never_begun
  timers : (x : Timer) × (y : Timer) × (both_wait.timers ≡ x ∷ y ∷ []) × (x.to.node.0 ≡ 0) × (y.to.node.0 ≡ 1)

computed : Computed
unfolding controller_start controller_stop controller_permit controller_top_ends controller_do_start controller_change controller_received controller_spawn_starter controller_reply_to_requester controller_has_started controller_start_reply dist_finish dist_runs_elsewhere dist_take_over dist_permit dist_get_nodes dist_start_here dist_is_to_start dist_find_start_node dist_start_distributed dist_start_appl dist_check_waiting dist_node_down dist_introduced_to dist_handle_next dist_del_t_reqs dist_run dist_answer_ends dist_not_run dist_stopped dist_new_node dist_answer_permits dist_app_started dist_app_stopped dist_weight_told dist_restart dist_new_permission net_to_connect node_controlled_by node_terminated_by node_handled_by node_introduced_by system_lock_call system_wait_for_lock system_behind_sync system_go_on_call system_call_received system_connect system_delivered system_slowed system_waited_for system_booted system_called system_fired_next system_ticked system_is_ticked system_down_told system_taken_down system_ended system_stopped system_join system_has_seen system_boot_next system_made system_rested system_forgotten system_told system_after system_take_lock system_gone system_handled system_work system_mailed
computed = record {
  quiet = refl;
  none_counted = refl;
  first_dead = refl;
  second_dead = refl;
  first_there = refl;
  second_there = refl;
  timers = (_, _, refl, refl, refl);
}

nobody_yet : (k : ℕ) → node_at none_begun (record { 0 = k }) ≡ never_begun
nobody_yet zero = refl
nobody_yet (suc zero) = refl
nobody_yet (suc (suc zero)) = refl
nobody_yet (suc (suc (suc zero))) = refl
nobody_yet (suc (suc (suc (suc k)))) = refl

-- ---- so the laws are of it

begins_at : (s : SystemView) (n : Node) → live_at s n ≡ Some never_begun → is_alive_at s n ≡ false → IsReached s
    → IsReached (settled 1000 FirstComes (booted n s))
begins_at s n there dead reached =
    commands_reached.settles_there 1000 FirstComes (booted n s)
    (later s (booted n s) reached (acts s (booted n s) (begins s n (never_begun, there) dead)))

reached : IsReached both_wait
reached =
    begins_at one_waits n2 computed.second_there computed.second_dead
    (begins_at none_begun n1 computed.first_there computed.first_dead (new none_begun (record {
      nodes = λ n. nobody_yet n.0;
      alive = refl;
      links = refl;
      locks = refl;
      timers = refl;
      calls = refl;
      messages = refl;
      slow = refl;
    })))

at_rest : IsSettled both_wait
at_rest = (settles 1000 FirstComes (booted n2 one_waits)).1 computed.quiet

ends_alike : SettlesAlike both_wait
ends_alike =
    rest_ends_alike (record both_wait { answers = [] })
    (subst IsSettled (λ i. record both_wait { answers = computed.none_counted i }) at_rest)

of_two : (x y : Timer) → x.to.node.0 ≡ 0 → y.to.node.0 ≡ 1 → SameOfEach node_of_timer (x ∷ y ∷ []) (y ∷ x ∷ [])
of_two x y first second None = refl
of_two x y first second (Some n) = by n.0 x.to.node.0 y.to.node.0 first second
  where
    both : (p q : Bool) → (p ≡ true → q ≡ true → ⊥)
        → cond p (x ∷ cond q (y ∷ []) []) (cond q (y ∷ []) []) ≡ cond q (y ∷ cond p (x ∷ []) []) (cond p (x ∷ []) [])
    both true true apart = absurd (apart refl refl)
    both true false apart = refl
    both false true apart = refl
    both false false apart = refl

    by : (n j k : ℕ) → j ≡ 0 → k ≡ 1
        → cond (n == j) (x ∷ cond (n == k) (y ∷ []) []) (cond (n == k) (y ∷ []) [])
        ≡ cond (n == k) (y ∷ cond (n == j) (x ∷ []) []) (cond (n == j) (x ∷ []) [])
    by n j k one other = both (n == j) (n == k) (λ at_j at_k.
        let first_is : n ≡ j = eqb-true n j at_j in
        let second_is : n ≡ k = eqb-true n k at_k in
        omega (arith, one, other, first_is, second_is))

alike : AreAlike both_wait otherwise
alike =
    alike_with_timers both_wait.timers (turned both_wait.timers) both_wait both_wait
    (subst (λ (l : List Timer). SameOfEach node_of_timer l (turned l)) (sym computed.timers.2)
    (of_two computed.timers.0 computed.timers.1 computed.timers.3 computed.timers.4)) (alike_itself both_wait)

-- they aren't the same
differ : both_wait.timers ≢ otherwise.timers
differ same =
    let l = computed.timers.2 in
    let heads : Some computed.timers.0 ≡ Some computed.timers.1 =
    ap (λ (xs : List Timer). slice_get xs 0) (sym l ∙ same ∙ ap turned l) in
    let numbers : computed.timers.0.to.node.0 ≡ computed.timers.1.to.node.0 =
    ap (λ (t : Timer). t.to.node.0) (same_Some computed.timers.0 computed.timers.1 heads) in
    let zero_is_one : 0 ≡ 1 = sym computed.timers.3 ∙ numbers ∙ computed.timers.4 in absurd (omega (arith, zero_is_one))

-- There are such systems, the one of which live nodes reach, and which aren't the same.
record Row : Type 0 where
  is_reached : IsReached both_wait
  are_alike : AreAlike both_wait otherwise
  differ : both_wait.timers ≢ otherwise.timers
  ends_alike : SettlesAlike both_wait

row : Row
row = record { is_reached = reached; are_alike = alike; differ = differ; ends_alike = ends_alike }
