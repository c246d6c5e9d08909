-- States that the laws are of. Of four nodes two wait for the others, and the third begins; the fourth is still lacking.
use Rattle.std.proofs.Common.{◌≡◌, ◌≢◌, ℕ, zero, suc, true, false, List, [], ◌∷◌, Some, refl, sym, subst, ◌∙◌, inr, arith}
use Rattle.std.specs.Prelude.{All}
use Rattle.std.proofs.lemmas.Bool.{eqb-false}
use Rattle.std.proofs.lemmas.List.Elements.{All-nil}
use Rattle.std.proofs.lemmas.Option.{none-some, same_Some}
use Rattle.rh_model.specs.ClusterView.{ClusterView, NodeView, numbered}
use Rattle.rh_model.specs.declared.node.Node.{Node}
use Rattle.rh_model.specs.declared.settings.SyncWait.TheVariants.{After}
use Rattle.rh_otp_model.specs.declared.message.Message.{Message}
use Rattle.rh_otp_model.specs.declared.wait.OwnFile.{OwnFile}
use Rattle.rh_otp_model.specs.declared.wait.Wait.{Wait}
use Rattle.rh_otp_model.specs.declared.wait.Wait.TheVariants as wait
use Rattle.rh_otp_controller.specs.Calls.{start as controller_start, stop as controller_stop, permit as controller_permit, top_ends as controller_top_ends}
use Rattle.rh_otp_controller.specs.Changes.{do_start as controller_do_start, change as controller_change, received as controller_received}
use Rattle.rh_otp_controller.specs.Starting.{spawn_starter as controller_spawn_starter, reply_to_requester as controller_reply_to_requester, has_started as controller_has_started, start_reply as controller_start_reply}
use Rattle.rh_otp_dist.specs.Attempts.{finish as dist_finish, runs_elsewhere as dist_runs_elsewhere}
use Rattle.rh_otp_dist.specs.Calls.{take_over as dist_take_over, permit as dist_permit, get_nodes as dist_get_nodes}
use Rattle.rh_otp_dist.specs.Choosing.{start_here as dist_start_here, is_to_start as dist_is_to_start, find_start_node as dist_find_start_node, start_distributed as dist_start_distributed, start_appl as dist_start_appl}
use Rattle.rh_otp_dist.specs.Down.{check_waiting as dist_check_waiting, node_down as dist_node_down}
use Rattle.rh_otp_dist.specs.Outside.{introduced_to as dist_introduced_to}
use Rattle.rh_otp_dist.specs.Received.{handle_next as dist_handle_next}
use Rattle.rh_otp_dist.specs.Sending.{del_t_reqs as dist_del_t_reqs}
use Rattle.rh_otp_dist.specs.Told.{run as dist_run, answer_ends as dist_answer_ends, not_run as dist_not_run, stopped as dist_stopped, new_node as dist_new_node, answer_permits as dist_answer_permits, app_started as dist_app_started, app_stopped as dist_app_stopped, weight_told as dist_weight_told, restart as dist_restart, new_permission as dist_new_permission}
use Rattle.rh_otp_net.specs.Links.{to_connect as net_to_connect}
use Rattle.rh_otp_node.specs.Turns.{controlled_by as node_controlled_by, terminated_by as node_terminated_by, handled_by as node_handled_by, introduced_by as node_introduced_by}
use Rattle.rh_otp_system.specs.Calling.{lock_call as system_lock_call, wait_for_lock as system_wait_for_lock, behind_sync as system_behind_sync, go_on_call as system_go_on_call, call_received as system_call_received}
use Rattle.rh_otp_system.specs.Connecting.{connect as system_connect}
use Rattle.rh_otp_system.specs.Delivering.{delivered as system_delivered, slowed as system_slowed}
use Rattle.rh_otp_system.specs.Doing.{waited_for as system_waited_for, booted as system_booted, called as system_called, fired_next as system_fired_next, ticked as system_ticked, is_ticked as system_is_ticked}
use Rattle.rh_otp_system.specs.Ending.{down_told as system_down_told, taken_down as system_taken_down, ended as system_ended, stopped as system_stopped}
use Rattle.rh_otp_system.specs.Joining.{join as system_join, has_seen as system_has_seen, boot_next as system_boot_next}
use Rattle.rh_otp_system.specs.Moves.{made as system_made}
use Rattle.rh_otp_system.specs.Resting.{rested as system_rested, forgotten as system_forgotten}
use Rattle.rh_otp_system.specs.Sending.{told as system_told, after as system_after}
use Rattle.rh_otp_system.specs.Working.{take_lock as system_take_lock, gone as system_gone, handled as system_handled, work as system_work, mailed as system_mailed}
use Rattle.rh_otp_dist.specs.declared.state.Stand.TheVariants as stand
use Rattle.rh_otp_dist.specs.State.{DistView}
use Rattle.rh_otp_dist.specs.Waiting.{takes}
use Rattle.rh_otp_net.specs.declared.order.Order.TheVariants.{FirstComes}
use Rattle.rh_otp_net.specs.Links.{are_linked}
use Rattle.rh_otp_node.specs.Live.{never_begun}
use Rattle.rh_otp_system.specs.declared.cell.Cell.TheVariants as cell
use Rattle.rh_otp_system.specs.Doing.{booted}
use Rattle.rh_otp_system.specs.Moves.{IsSettled, is_settled_by}
use Rattle.rh_otp_system.specs.State.{SystemView, system_of, node_at, wait_at, is_alive_at, is_up_at}
use Rattle.rh_otp_system.proofs.Moving.{settles}
use Rattle.rh_otp_laws.specs.Acting.{IsThere, IsNew, IsReached, new}
use Rattle.rh_otp_crashes.specs.Crashes.{IsUnoccupied, AreAtRest}
use Rattle.rh_otp_stops.proofs.Rows.{n1, n2, no_net, quiet, dist_of, NoMore, begins_at, of_both}
use Rattle.rh_otp_waits.specs.Together.{AllNameAll}
use Rattle.rh_otp_waits.specs.Waits.{HasItWait, is_listed, is_awaited, AllSeeAll, WaitsForMore, WaitsOn}

-- ---- the cluster

abbrev n3 : Node
n3 = numbered 2

abbrev n4 : Node
n4 = numbered 3

-- it waits for these
abbrev node_of : List Node → List Node → NodeView
node_of mandatory optional = record {
  mandatory = mandatory;
  optional = optional;
  sync_wait = After 12000;
  boot = [];
  permissions = [];
  platforms = [];
}

abbrev cluster : ClusterView
cluster = record {
  profile = 1;
  node_names = (97 ∷ []) ∷ (98 ∷ []) ∷ (99 ∷ []) ∷ (100 ∷ []) ∷ [];
  app_names = [];
  platform_names = [];
  nodes = node_of (n2 ∷ []) (n3 ∷ n4 ∷ []) ∷ node_of [] (n1 ∷ n3 ∷ n4 ∷ []) ∷ node_of (n4 ∷ []) (n1 ∷ n2 ∷ [])
      ∷ node_of (n1 ∷ n2 ∷ n3 ∷ []) [] ∷ [];
  apps = [];
}

abbrev file : Wait → OwnFile
file w = record { own = record { has_dist = true; entries = [] }; wait = w }

abbrev files : List OwnFile
files = file (wait.After 12000) ∷ file wait.Forever ∷ file (wait.After 5000) ∷ file (wait.After 12000) ∷ []

-- ---- what happens

abbrev none_begun : SystemView
none_begun =
    system_of cluster files
    (cell.Node never_begun ∷ cell.Node never_begun ∷ cell.Node never_begun ∷ cell.Node never_begun ∷ cell.Net no_net ∷ []) no_net false

abbrev one_waits : SystemView
one_waits = quiet (booted n1 none_begun)

abbrev two_wait : SystemView
two_wait = quiet (booted n2 one_waits)

-- ---- what the prover computes of it

-- the node waits, for the fourth one, too, and its dist_ac does nothing yet
record Waits (n : Node) (s : SystemView) : Type 0 where
  alive : is_alive_at s n ≡ true
  not_up : is_up_at s n ≡ false
  more : is_awaited (node_at s n) n4 ≡ true
  has : (node_at s n).dist ≡ Some (dist_of s n)
  stands : (dist_of s n).stand ≡ stand.ForGo
  mail : (dist_of s n).mail ≡ []
  permits : (dist_of s n).p_reqs ≡ []
  parked : (dist_of s n).parked ≡ []

first_waits : Waits n1 two_wait
unfolding controller_start controller_stop controller_permit controller_top_ends controller_do_start controller_change controller_received controller_spawn_starter controller_reply_to_requester controller_has_started controller_start_reply dist_finish dist_runs_elsewhere dist_take_over dist_permit dist_get_nodes dist_start_here dist_is_to_start dist_find_start_node dist_start_distributed dist_start_appl dist_check_waiting dist_node_down dist_introduced_to dist_handle_next dist_del_t_reqs dist_run dist_answer_ends dist_not_run dist_stopped dist_new_node dist_answer_permits dist_app_started dist_app_stopped dist_weight_told dist_restart dist_new_permission net_to_connect node_controlled_by node_terminated_by node_handled_by node_introduced_by system_lock_call system_wait_for_lock system_behind_sync system_go_on_call system_call_received system_connect system_delivered system_slowed system_waited_for system_booted system_called system_fired_next system_ticked system_is_ticked system_down_told system_taken_down system_ended system_stopped system_join system_has_seen system_boot_next system_made system_rested system_forgotten system_told system_after system_take_lock system_gone system_handled system_work system_mailed
first_waits = record {
  alive = refl;
  not_up = refl;
  more = refl;
  has = refl;
  stands = refl;
  mail = refl;
  permits = refl;
  parked = refl;
}

second_waits : Waits n2 two_wait
unfolding controller_start controller_stop controller_permit controller_top_ends controller_do_start controller_change controller_received controller_spawn_starter controller_reply_to_requester controller_has_started controller_start_reply dist_finish dist_runs_elsewhere dist_take_over dist_permit dist_get_nodes dist_start_here dist_is_to_start dist_find_start_node dist_start_distributed dist_start_appl dist_check_waiting dist_node_down dist_introduced_to dist_handle_next dist_del_t_reqs dist_run dist_answer_ends dist_not_run dist_stopped dist_new_node dist_answer_permits dist_app_started dist_app_stopped dist_weight_told dist_restart dist_new_permission net_to_connect node_controlled_by node_terminated_by node_handled_by node_introduced_by system_lock_call system_wait_for_lock system_behind_sync system_go_on_call system_call_received system_connect system_delivered system_slowed system_waited_for system_booted system_called system_fired_next system_ticked system_is_ticked system_down_told system_taken_down system_ended system_stopped system_join system_has_seen system_boot_next system_made system_rested system_forgotten system_told system_after system_take_lock system_gone system_handled system_work system_mailed
second_waits = record {
  alive = refl;
  not_up = refl;
  more = refl;
  has = refl;
  stands = refl;
  mail = refl;
  permits = refl;
  parked = refl;
}

-- the two see one another, and the third one is to begin
record Third (s : SystemView) : Type 0 where
  calls : s.calls ≡ []
  sees : are_linked n1 n2 s.links ≡ true
  sees_back : are_linked n2 n1 s.links ≡ true
  down : is_alive_at s n3 ≡ false
  fourth : is_alive_at s n4 ≡ false
  there : IsThere n3 s
  first_file : wait_at s n1 ≡ wait.After 12000
  second_file : wait_at s n2 ≡ wait.Forever
  third_file : wait_at s n3 ≡ wait.After 5000
  names_first : is_listed s.cluster n3 n1 ≡ true
  names_second : is_listed s.cluster n3 n2 ≡ true
  lacks_fourth : is_listed s.cluster n3 n4 ≡ true
  first_names : is_listed s.cluster n1 n2 ≡ true
  second_names : is_listed s.cluster n2 n1 ≡ true

third : Third two_wait
unfolding controller_start controller_stop controller_permit controller_top_ends controller_do_start controller_change controller_received controller_spawn_starter controller_reply_to_requester controller_has_started controller_start_reply dist_finish dist_runs_elsewhere dist_take_over dist_permit dist_get_nodes dist_start_here dist_is_to_start dist_find_start_node dist_start_distributed dist_start_appl dist_check_waiting dist_node_down dist_introduced_to dist_handle_next dist_del_t_reqs dist_run dist_answer_ends dist_not_run dist_stopped dist_new_node dist_answer_permits dist_app_started dist_app_stopped dist_weight_told dist_restart dist_new_permission net_to_connect node_controlled_by node_terminated_by node_handled_by node_introduced_by system_lock_call system_wait_for_lock system_behind_sync system_go_on_call system_call_received system_connect system_delivered system_slowed system_waited_for system_booted system_called system_fired_next system_ticked system_is_ticked system_down_told system_taken_down system_ended system_stopped system_join system_has_seen system_boot_next system_made system_rested system_forgotten system_told system_after system_take_lock system_gone system_handled system_work system_mailed
third = record {
  calls = refl;
  sees = refl;
  sees_back = refl;
  down = refl;
  fourth = refl;
  there = (never_begun, refl);
  first_file = refl;
  second_file = refl;
  third_file = refl;
  names_first = refl;
  names_second = refl;
  lacks_fourth = refl;
  first_names = refl;
  second_names = refl;
}

no_more : NoMore two_wait
unfolding controller_start controller_stop controller_permit controller_top_ends controller_do_start controller_change controller_received controller_spawn_starter controller_reply_to_requester controller_has_started controller_start_reply dist_finish dist_runs_elsewhere dist_take_over dist_permit dist_get_nodes dist_start_here dist_is_to_start dist_find_start_node dist_start_distributed dist_start_appl dist_check_waiting dist_node_down dist_introduced_to dist_handle_next dist_del_t_reqs dist_run dist_answer_ends dist_not_run dist_stopped dist_new_node dist_answer_permits dist_app_started dist_app_stopped dist_weight_told dist_restart dist_new_permission net_to_connect node_controlled_by node_terminated_by node_handled_by node_introduced_by system_lock_call system_wait_for_lock system_behind_sync system_go_on_call system_call_received system_connect system_delivered system_slowed system_waited_for system_booted system_called system_fired_next system_ticked system_is_ticked system_down_told system_taken_down system_ended system_stopped system_join system_has_seen system_boot_next system_made system_rested system_forgotten system_told system_after system_take_lock system_gone system_handled system_work system_mailed
no_more zero = refl
no_more (suc zero) = refl
no_more (suc (suc zero)) = refl
no_more (suc (suc (suc k))) = refl

is_quiet : is_settled_by 1000 FirstComes (booted n2 one_waits) ≡ true
unfolding controller_start controller_stop controller_permit controller_top_ends controller_do_start controller_change controller_received controller_spawn_starter controller_reply_to_requester controller_has_started controller_start_reply dist_finish dist_runs_elsewhere dist_take_over dist_permit dist_get_nodes dist_start_here dist_is_to_start dist_find_start_node dist_start_distributed dist_start_appl dist_check_waiting dist_node_down dist_introduced_to dist_handle_next dist_del_t_reqs dist_run dist_answer_ends dist_not_run dist_stopped dist_new_node dist_answer_permits dist_app_started dist_app_stopped dist_weight_told dist_restart dist_new_permission net_to_connect node_controlled_by node_terminated_by node_handled_by node_introduced_by system_lock_call system_wait_for_lock system_behind_sync system_go_on_call system_call_received system_connect system_delivered system_slowed system_waited_for system_booted system_called system_fired_next system_ticked system_is_ticked system_down_told system_taken_down system_ended system_stopped system_join system_has_seen system_boot_next system_made system_rested system_forgotten system_told system_after system_take_lock system_gone system_handled system_work system_mailed
is_quiet = refl

nobody_yet : (k : ℕ) → node_at none_begun (record { 0 = k }) ≡ never_begun
nobody_yet zero = refl
nobody_yet (suc zero) = refl
nobody_yet (suc (suc zero)) = refl
nobody_yet (suc (suc (suc zero))) = refl
nobody_yet (suc (suc (suc (suc zero)))) = refl
nobody_yet (suc (suc (suc (suc (suc k))))) = refl

is_new : IsNew none_begun
is_new = record {
  nodes = λ n. nobody_yet n.0;
  alive = refl;
  links = refl;
  locks = refl;
  timers = refl;
  calls = refl;
  messages = refl;
  slow = refl;
}

two_reached : IsReached two_wait
unfolding controller_start controller_stop controller_permit controller_top_ends controller_do_start controller_change controller_received controller_spawn_starter controller_reply_to_requester controller_has_started controller_start_reply dist_finish dist_runs_elsewhere dist_take_over dist_permit dist_get_nodes dist_start_here dist_is_to_start dist_find_start_node dist_start_distributed dist_start_appl dist_check_waiting dist_node_down dist_introduced_to dist_handle_next dist_del_t_reqs dist_run dist_answer_ends dist_not_run dist_stopped dist_new_node dist_answer_permits dist_app_started dist_app_stopped dist_weight_told dist_restart dist_new_permission net_to_connect node_controlled_by node_terminated_by node_handled_by node_introduced_by system_lock_call system_wait_for_lock system_behind_sync system_go_on_call system_call_received system_connect system_delivered system_slowed system_waited_for system_booted system_called system_fired_next system_ticked system_is_ticked system_down_told system_taken_down system_ended system_stopped system_join system_has_seen system_boot_next system_made system_rested system_forgotten system_told system_after system_take_lock system_gone system_handled system_work system_mailed
two_reached = begins_at one_waits n2 never_begun refl refl (begins_at none_begun n1 never_begun refl refl (new none_begun is_new))

-- the own file of each of the four has it wait, and its lists name each other one
all_name : (j k : ℕ) → IsThere (record { 0 = j }) none_begun → IsThere (record { 0 = k }) none_begun → j ≢ k
    → HasItWait (wait_at none_begun (record { 0 = j })) × (is_listed cluster (record { 0 = j }) (record { 0 = k }) ≡ true)
all_name zero zero there there_too apart = absurd (apart refl)
all_name zero (suc zero) there there_too apart = (omega arith, refl)
all_name zero (suc (suc zero)) there there_too apart = (omega arith, refl)
all_name zero (suc (suc (suc zero))) there there_too apart = (omega arith, refl)
all_name (suc zero) zero there there_too apart = (tt, refl)
all_name (suc zero) (suc zero) there there_too apart = absurd (apart refl)
all_name (suc zero) (suc (suc zero)) there there_too apart = (tt, refl)
all_name (suc zero) (suc (suc (suc zero))) there there_too apart = (tt, refl)
all_name (suc (suc zero)) zero there there_too apart = (omega arith, refl)
all_name (suc (suc zero)) (suc zero) there there_too apart = (omega arith, refl)
all_name (suc (suc zero)) (suc (suc zero)) there there_too apart = absurd (apart refl)
all_name (suc (suc zero)) (suc (suc (suc zero))) there there_too apart = (omega arith, refl)
all_name (suc (suc (suc zero))) zero there there_too apart = (omega arith, refl)
all_name (suc (suc (suc zero))) (suc zero) there there_too apart = (omega arith, refl)
all_name (suc (suc (suc zero))) (suc (suc zero)) there there_too apart = (omega arith, refl)
all_name (suc (suc (suc zero))) (suc (suc (suc zero))) there there_too apart = absurd (apart refl)
all_name j (suc (suc (suc (suc zero)))) there there_too apart = absurd (none-some there_too.0 there_too.1)
all_name j (suc (suc (suc (suc (suc k))))) there there_too apart = absurd (none-some there_too.0 there_too.1)
all_name (suc (suc (suc (suc zero)))) k there there_too apart = absurd (none-some there.0 there.1)
all_name (suc (suc (suc (suc (suc j))))) k there there_too apart = absurd (none-some there.0 there.1)

-- ---- so the laws are of it

unoccupied : (s : SystemView) (n : Node) → Waits n s → (d : DistView) → (node_at s n).dist ≡ Some d → IsUnoccupied d
unoccupied s n w d has = subst IsUnoccupied (same_Some (dist_of s n) d (sym w.has ∙ has)) (record {
  stand = inr w.stands;
  mail = subst (All (λ (m : Message). takes (dist_of s n).stand m ≡ false)) (sym w.mail)
      (All-nil (λ (m : Message). takes (dist_of s n).stand m ≡ false));
  permits = w.permits;
  parked = w.parked;
})

at_rest : (s : SystemView) → Waits n1 s → Waits n2 s → Third s → NoMore s → IsSettled s → AreAtRest s
at_rest s first second so none settled = record {
  settled = settled;
  calls = so.calls;
  dists = λ n d alive has.
      of_both (λ (m : Node). (e : DistView) → (node_at s m).dist ≡ Some e → IsUnoccupied e) s none
      (unoccupied s n1 first) (unoccupied s n2 second) n.0 alive d has;
}

all_see : (s : SystemView) → Third s → NoMore s → AllSeeAll s
all_see s so none m k alive alive_too apart =
    of_both (λ (i : Node). i.0 ≢ k.0 → are_linked i k s.links ≡ true) s none
    (λ other. of_both (λ (j : Node). n1.0 ≢ j.0 → are_linked n1 j s.links ≡ true) s none
    (λ itself. absurd (itself refl)) (λ is. so.sees) k.0 alive_too other)
    (λ other. of_both (λ (j : Node). n2.0 ≢ j.0 → are_linked n2 j s.links ≡ true) s none
    (λ is. so.sees_back) (λ itself. absurd (itself refl)) k.0 alive_too other)
    m.0 alive apart

more : (s : SystemView) (n : Node) → Waits n s → WaitsForMore n3 (node_at s n)
more s n w = record { more = n4; other = eqb-false 3 2 refl; awaited = w.more }

waits_on : (s : SystemView) → Waits n1 s → Waits n2 s → Third s → NoMore s → WaitsOn n3 s
waits_on s first second so none = record {
  down = so.down;
  file = subst HasItWait (sym so.third_file) (omega arith);
  names = λ m alive.
      of_both (λ (k : Node). is_listed s.cluster n3 k ≡ true) s none so.names_first so.names_second m.0 alive;
  lacks = n4;
  lacking = so.lacks_fourth;
  not_itself = eqb-false 3 2 refl;
  not_there = so.fourth;
  others = λ m alive not_up.
      of_both (λ (k : Node). WaitsForMore n3 (node_at s k)) s none (more s n1 first) (more s n2 second) m.0 alive;
}

-- There are such nodes, all of which name one another, and of which none has begun; and there is such a boot, while two of them wait, which
-- see one another.
record Row : Type 0 where
  is_new : IsNew none_begun
  all_name : AllNameAll none_begun
  is_reached : IsReached two_wait
  is_at_rest : AreAtRest two_wait
  is_there : IsThere n3 two_wait
  sees : AllSeeAll two_wait
  waits : WaitsOn n3 two_wait
  first_alive : is_alive_at two_wait n1 ≡ true
  first_not_up : is_up_at two_wait n1 ≡ false
  second_alive : is_alive_at two_wait n2 ≡ true
  first_file : HasItWait (wait_at two_wait n1)
  second_file : HasItWait (wait_at two_wait n2)
  first_names : is_listed two_wait.cluster n1 n2 ≡ true
  second_names : is_listed two_wait.cluster n2 n1 ≡ true

row : Row
row = record {
  is_new = is_new;
  all_name = λ n m there there_too apart. all_name n.0 m.0 there there_too apart;
  is_reached = two_reached;
  is_at_rest = at_rest two_wait first_waits second_waits third no_more ((settles 1000 FirstComes (booted n2 one_waits)).1 is_quiet);
  is_there = third.there;
  sees = all_see two_wait third no_more;
  waits = waits_on two_wait first_waits second_waits third no_more;
  first_alive = first_waits.alive;
  first_not_up = first_waits.not_up;
  second_alive = second_waits.alive;
  first_file = subst HasItWait (sym third.first_file) (omega arith);
  second_file = subst HasItWait (sym third.second_file) tt;
  first_names = third.first_names;
  second_names = third.second_names;
}
