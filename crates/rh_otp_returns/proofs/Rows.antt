-- A boot that the law is of: of two nodes the first one is up and runs an application of its own and one that is distributed. The second
-- one, which was up and has crashed, begins again: it waits for the first one, and its boot script starts both.
use Rattle.std.proofs.Common.{◌≡◌, ◌<◌, ◌||◌, ℕ, Bool, zero, suc, true, false, List, [], ◌∷◌, is_some, Option, Some, None, refl, sym, ap, subst, ◌∙◌, arith}
use Rattle.std.specs.Prelude.{All}
use Rattle.std.proofs.lemmas.Bool.{false≢true, ne_eqb}
use Rattle.std.proofs.lemmas.List.Elements.{All-nil, All-cons}
use Rattle.rh_model.specs.ClusterView.{ClusterView, boot_of, mandatory_of, optional_of, is_in}
use Rattle.rh_model.specs.declared.node.App.{App}
use Rattle.rh_model.specs.declared.node.Node.{Node}
use Rattle.rh_model.specs.declared.settings.Restart.{Restart}
use Rattle.rh_model.specs.declared.settings.Restart.TheVariants.{Temporary}
use Rattle.rh_otp_model.specs.declared.wait.OwnFile.{OwnFile}
use Rattle.rh_otp_model.specs.Own.{EntryView, WrittenView}
use Rattle.rh_otp_model.specs.Rows.{keyfind}
use Rattle.rh_otp_controller.specs.declared.state.Place.TheVariants as place_of
use Rattle.rh_otp_controller.specs.Calls.{start as controller_start, stop as controller_stop, permit as controller_permit, top_ends as controller_top_ends}
use Rattle.rh_otp_controller.specs.Changes.{do_start as controller_do_start, change as controller_change, received as controller_received}
use Rattle.rh_otp_controller.specs.Starting.{spawn_starter as controller_spawn_starter, reply_to_requester as controller_reply_to_requester, has_started as controller_has_started, start_reply as controller_start_reply}
use Rattle.rh_otp_dist.specs.Attempts.{finish as dist_finish, runs_elsewhere as dist_runs_elsewhere}
use Rattle.rh_otp_dist.specs.Calls.{take_over as dist_take_over, permit as dist_permit, get_nodes as dist_get_nodes}
use Rattle.rh_otp_dist.specs.Choosing.{start_here as dist_start_here, is_to_start as dist_is_to_start, find_start_node as dist_find_start_node, start_distributed as dist_start_distributed, start_appl as dist_start_appl}
use Rattle.rh_otp_dist.specs.Down.{check_waiting as dist_check_waiting, node_down as dist_node_down}
use Rattle.rh_otp_dist.specs.Outside.{introduced_to as dist_introduced_to}
use Rattle.rh_otp_dist.specs.Received.{handle_next as dist_handle_next}
use Rattle.rh_otp_dist.specs.Sending.{del_t_reqs as dist_del_t_reqs}
use Rattle.rh_otp_dist.specs.Told.{run as dist_run, answer_ends as dist_answer_ends, not_run as dist_not_run, stopped as dist_stopped, new_node as dist_new_node, answer_permits as dist_answer_permits, app_started as dist_app_started, app_stopped as dist_app_stopped, weight_told as dist_weight_told, restart as dist_restart, new_permission as dist_new_permission}
use Rattle.rh_otp_net.specs.Links.{to_connect as net_to_connect}
use Rattle.rh_otp_node.specs.Turns.{controlled_by as node_controlled_by, terminated_by as node_terminated_by, handled_by as node_handled_by, introduced_by as node_introduced_by}
use Rattle.rh_otp_system.specs.Calling.{lock_call as system_lock_call, wait_for_lock as system_wait_for_lock, behind_sync as system_behind_sync, go_on_call as system_go_on_call, call_received as system_call_received}
use Rattle.rh_otp_system.specs.Connecting.{connect as system_connect}
use Rattle.rh_otp_system.specs.Delivering.{delivered as system_delivered, slowed as system_slowed}
use Rattle.rh_otp_system.specs.Doing.{waited_for as system_waited_for, booted as system_booted, called as system_called, fired_next as system_fired_next, ticked as system_ticked, is_ticked as system_is_ticked}
use Rattle.rh_otp_system.specs.Ending.{down_told as system_down_told, taken_down as system_taken_down, ended as system_ended, stopped as system_stopped}
use Rattle.rh_otp_system.specs.Joining.{join as system_join, has_seen as system_has_seen, boot_next as system_boot_next}
use Rattle.rh_otp_system.specs.Moves.{made as system_made}
use Rattle.rh_otp_system.specs.Resting.{rested as system_rested, forgotten as system_forgotten}
use Rattle.rh_otp_system.specs.Sending.{told as system_told, after as system_after}
use Rattle.rh_otp_system.specs.Working.{take_lock as system_take_lock, gone as system_gone, handled as system_handled, work as system_work, mailed as system_mailed}
use Rattle.rh_otp_dist.specs.declared.state.Stand.TheVariants as stand
use Rattle.rh_otp_dist.specs.State.{DistView}
use Rattle.rh_otp_net.specs.declared.order.Order.TheVariants.{FirstComes}
use Rattle.rh_otp_node.specs.Live.{LiveView, never_begun}
use Rattle.rh_otp_system.specs.Doing.{booted}
use Rattle.rh_otp_system.specs.Moves.{IsSettled, is_settled_by}
use Rattle.rh_otp_system.specs.State.{SystemView, node_at, live_at, wait_at, is_alive_at, is_up_at}
use Rattle.rh_otp_system.proofs.Moving.{settles}
use Rattle.rh_otp_system.specs.Resting.{crashed}
use Rattle.rh_otp_laws.specs.Acting.{IsReached, later, acts, crashes}
use Rattle.rh_otp_laws.proofs.Commands.{commands_reached}
use Rattle.rh_otp_crashes.specs.Crashes.{IsUnoccupied, AreAtRest, FailOverLater}
use Rattle.rh_otp_crashes.proofs.Turning.{own_in}
use Rattle.rh_otp_locks.specs.Holding.{stand_at}
use Rattle.rh_otp_stops.proofs.Rows.{n1, n2, d1, l1, file, quiet, IsThere, NoMore, begins_at, at_rest}
use Rattle.rh_otp_scripts.specs.Scripts.{HasNoTuple}
use Rattle.rh_otp_scripts.proofs.Rows.{cluster, none_begun, one_up, first_reached, later_in}
use Rattle.rh_otp_waits.specs.Waits.{HasItWait}
use Rattle.rh_otp_joins.specs.Joins.{ComesBack}
use Rattle.rh_otp_returns.specs.Returns.{CanBootThere}
use Rattle.rh_otp_returns.proofs.Return.{lists_still}

-- ---- what happens

abbrev both_up : SystemView
both_up = quiet (booted n2 one_up)

abbrev one_left : SystemView
one_left = quiet (crashed n2 both_up)

-- ---- what the prover computes of it

-- the first node is up and runs both, and the second one has begun once and isn't alive
record OneUp (s : SystemView) : Type 0 where
  nodes : s.cluster ≡ cluster
  files : s.files ≡ file ∷ file ∷ []
  calls : s.calls ≡ []
  soon : s.ends_soon ≡ true
  there : is_some (live_at s n2) ≡ true
  life : (node_at s n2).life ≡ 1
  down : is_alive_at s n2 ≡ false
  up : is_up_at s n1 ≡ true
  stands : stand_at s n1 ≡ Some stand.Idle
  runs : keyfind d1 (node_at s n1).controller.running ≡ Some place_of.Here
  runs_alone : keyfind l1 (node_at s n1).controller.running ≡ Some place_of.Here

first_there : IsThere n1 one_left
unfolding controller_start controller_stop controller_permit controller_top_ends controller_do_start controller_change controller_received controller_spawn_starter controller_reply_to_requester controller_has_started controller_start_reply dist_finish dist_runs_elsewhere dist_take_over dist_permit dist_get_nodes dist_start_here dist_is_to_start dist_find_start_node dist_start_distributed dist_start_appl dist_check_waiting dist_node_down dist_introduced_to dist_handle_next dist_del_t_reqs dist_run dist_answer_ends dist_not_run dist_stopped dist_new_node dist_answer_permits dist_app_started dist_app_stopped dist_weight_told dist_restart dist_new_permission net_to_connect node_controlled_by node_terminated_by node_handled_by node_introduced_by system_lock_call system_wait_for_lock system_behind_sync system_go_on_call system_call_received system_connect system_delivered system_slowed system_waited_for system_booted system_called system_fired_next system_ticked system_is_ticked system_down_told system_taken_down system_ended system_stopped system_join system_has_seen system_boot_next system_made system_rested system_forgotten system_told system_after system_take_lock system_gone system_handled system_work system_mailed
first_there = record { alive = refl; has = refl; takes_all = refl; mail = refl; permits = refl; parked = refl }

is_up : OneUp one_left
unfolding controller_start controller_stop controller_permit controller_top_ends controller_do_start controller_change controller_received controller_spawn_starter controller_reply_to_requester controller_has_started controller_start_reply dist_finish dist_runs_elsewhere dist_take_over dist_permit dist_get_nodes dist_start_here dist_is_to_start dist_find_start_node dist_start_distributed dist_start_appl dist_check_waiting dist_node_down dist_introduced_to dist_handle_next dist_del_t_reqs dist_run dist_answer_ends dist_not_run dist_stopped dist_new_node dist_answer_permits dist_app_started dist_app_stopped dist_weight_told dist_restart dist_new_permission net_to_connect node_controlled_by node_terminated_by node_handled_by node_introduced_by system_lock_call system_wait_for_lock system_behind_sync system_go_on_call system_call_received system_connect system_delivered system_slowed system_waited_for system_booted system_called system_fired_next system_ticked system_is_ticked system_down_told system_taken_down system_ended system_stopped system_join system_has_seen system_boot_next system_made system_rested system_forgotten system_told system_after system_take_lock system_gone system_handled system_work system_mailed
is_up = record {
  nodes = refl;
  files = refl;
  calls = refl;
  soon = refl;
  there = refl;
  life = refl;
  down = refl;
  up = refl;
  stands = refl;
  runs = refl;
  runs_alone = refl;
}

no_more : NoMore one_left
unfolding controller_start controller_stop controller_permit controller_top_ends controller_do_start controller_change controller_received controller_spawn_starter controller_reply_to_requester controller_has_started controller_start_reply dist_finish dist_runs_elsewhere dist_take_over dist_permit dist_get_nodes dist_start_here dist_is_to_start dist_find_start_node dist_start_distributed dist_start_appl dist_check_waiting dist_node_down dist_introduced_to dist_handle_next dist_del_t_reqs dist_run dist_answer_ends dist_not_run dist_stopped dist_new_node dist_answer_permits dist_app_started dist_app_stopped dist_weight_told dist_restart dist_new_permission net_to_connect node_controlled_by node_terminated_by node_handled_by node_introduced_by system_lock_call system_wait_for_lock system_behind_sync system_go_on_call system_call_received system_connect system_delivered system_slowed system_waited_for system_booted system_called system_fired_next system_ticked system_is_ticked system_down_told system_taken_down system_ended system_stopped system_join system_has_seen system_boot_next system_made system_rested system_forgotten system_told system_after system_take_lock system_gone system_handled system_work system_mailed
no_more zero = refl
no_more (suc k) = refl

is_quiet : is_settled_by 1000 FirstComes (crashed n2 both_up) ≡ true
unfolding controller_start controller_stop controller_permit controller_top_ends controller_do_start controller_change controller_received controller_spawn_starter controller_reply_to_requester controller_has_started controller_start_reply dist_finish dist_runs_elsewhere dist_take_over dist_permit dist_get_nodes dist_start_here dist_is_to_start dist_find_start_node dist_start_distributed dist_start_appl dist_check_waiting dist_node_down dist_introduced_to dist_handle_next dist_del_t_reqs dist_run dist_answer_ends dist_not_run dist_stopped dist_new_node dist_answer_permits dist_app_started dist_app_stopped dist_weight_told dist_restart dist_new_permission net_to_connect node_controlled_by node_terminated_by node_handled_by node_introduced_by system_lock_call system_wait_for_lock system_behind_sync system_go_on_call system_call_received system_connect system_delivered system_slowed system_waited_for system_booted system_called system_fired_next system_ticked system_is_ticked system_down_told system_taken_down system_ended system_stopped system_join system_has_seen system_boot_next system_made system_rested system_forgotten system_told system_after system_take_lock system_gone system_handled system_work system_mailed
is_quiet = refl

is_reached : IsReached one_left
unfolding controller_start controller_stop controller_permit controller_top_ends controller_do_start controller_change controller_received controller_spawn_starter controller_reply_to_requester controller_has_started controller_start_reply dist_finish dist_runs_elsewhere dist_take_over dist_permit dist_get_nodes dist_start_here dist_is_to_start dist_find_start_node dist_start_distributed dist_start_appl dist_check_waiting dist_node_down dist_introduced_to dist_handle_next dist_del_t_reqs dist_run dist_answer_ends dist_not_run dist_stopped dist_new_node dist_answer_permits dist_app_started dist_app_stopped dist_weight_told dist_restart dist_new_permission net_to_connect node_controlled_by node_terminated_by node_handled_by node_introduced_by system_lock_call system_wait_for_lock system_behind_sync system_go_on_call system_call_received system_connect system_delivered system_slowed system_waited_for system_booted system_called system_fired_next system_ticked system_is_ticked system_down_told system_taken_down system_ended system_stopped system_join system_has_seen system_boot_next system_made system_rested system_forgotten system_told system_after system_take_lock system_gone system_handled system_work system_mailed
is_reached =
    commands_reached.settles_there 1000 FirstComes (crashed n2 both_up)
    (later both_up (crashed n2 both_up)
    (begins_at one_up n2 never_begun refl refl (begins_at none_begun n1 never_begun refl refl first_reached))
    (acts both_up (crashed n2 both_up) (crashes both_up n2)))

-- ---- so the law is of it

-- what is so of the first node is so of all that are alive
of_first : (P : Node → Type 0) (s : SystemView) → NoMore s → OneUp s → P n1 → (k : ℕ) → is_alive_at s (record { 0 = k }) ≡ true
    → P (record { 0 = k })
of_first P s none so first zero alive = first
of_first P s none so first (suc zero) alive = absurd (false≢true (sym so.down ∙ alive))
of_first P s none so first (suc (suc k)) alive = absurd (false≢true (sym (none k) ∙ alive))

are_at_rest : (s : SystemView) → IsThere n1 s → OneUp s → NoMore s → IsSettled s → AreAtRest s
are_at_rest s first so none settled = record {
  settled = settled;
  calls = so.calls;
  dists = λ n d alive has.
      of_first (λ (m : Node). (e : DistView) → (node_at s m).dist ≡ Some e → IsUnoccupied e) s none so (at_rest s n1 first) n.0 alive d has;
}

is_there : (o : Option LiveView) → is_some o ≡ true → (v : LiveView) × (o ≡ Some v)
is_there None there = absurd (false≢true there)
is_there (Some v) there = (v, refl)

comes_back : (s : SystemView) → IsThere n1 s → OneUp s → NoMore s → ComesBack n2 s
comes_back s first so none = record {
  there = is_there (live_at s n2) so.there;
  down = so.down;
  waits = subst HasItWait (sym (ap (λ (files : List OwnFile). wait_at (record s { files = files }) n2) so.files)) (omega arith);
  listed = λ m. ap (λ (c : ClusterView). is_in m (mandatory_of c n2) || is_in m (optional_of c n2)) so.nodes ∙ listed m.0;
  up = λ m alive. of_first (λ (k : Node). is_up_at s k ≡ true) s none so so.up m.0 alive;
  ready = λ m alive has. of_first (λ (k : Node). stand_at s k ≡ Some stand.Idle) s none so so.stands m.0 alive;
  sees = λ m o alive alive_too apart. absurd (apart (is_first m alive ∙ sym (is_first o alive_too)));
}
  where
    is_first : (m : Node) → is_alive_at s m ≡ true → m.0 ≡ 0
    is_first m alive = of_first (λ (k : Node). k.0 ≡ 0) s none so refl m.0 alive

    -- its lists name the first node alone
    listed : (k : ℕ) → (is_in (record { 0 = k }) (mandatory_of cluster n2) || is_in (record { 0 = k }) (optional_of cluster n2))
        ≡ is_alive_at s (record { 0 = k })
    listed zero = sym first.alive
    listed (suc zero) = sym so.down
    listed (suc (suc k)) =
        ap (λ (b : Bool). b || false) (ne_eqb (suc (suc k)) 0 (λ is. omega (arith, is))) ∙ sym (none k)

-- no list of what the second node boots has a tuple
pub no_tuples : CanBootThere n2 none_begun
no_tuples =
    All-cons P (d1, Temporary) ((l1, Temporary) ∷ [])
    (All-cons Q (record { is_tuple = false; nodes = n1 ∷ [] }) (record { is_tuple = false; nodes = n2 ∷ [] } ∷ []) refl
    (All-cons Q (record { is_tuple = false; nodes = n2 ∷ [] }) [] refl (All-nil Q)))
    (All-cons P (l1, Temporary) [] (All-nil Q) (All-nil P))
  where
    P : App × Restart → Type 0
    P row = HasNoTuple file.own row.0

    Q : WrittenView → Type 0
    Q w = w.is_tuple ≡ false

fails_later : (s : SystemView) → OneUp s → FailOverLater s
fails_later s so n =
    subst (λ (files : List OwnFile). All (λ (e : EntryView). 0 < e.timeout) (own_in files n).entries) (sym so.files) (later_in n.0)

-- There is such a boot.
pub record Row : Type 0 where
  reached : IsReached one_left
  rest : AreAtRest one_left
  back : ComesBack n2 one_left
  can : CanBootThere n2 one_left
  life : (node_at one_left n2).life ≡ 1
  soon : one_left.ends_soon ≡ true
  later : FailOverLater one_left
  boots : boot_of one_left.cluster n2 ≡ (d1, Temporary) ∷ (l1, Temporary) ∷ []
  runs : keyfind d1 (node_at one_left n1).controller.running ≡ Some place_of.Here
  runs_alone : keyfind l1 (node_at one_left n1).controller.running ≡ Some place_of.Here

pub row : Row
row = record {
  reached = is_reached;
  rest = are_at_rest one_left first_there is_up no_more ((settles 1000 FirstComes (crashed n2 both_up)).1 is_quiet);
  back = comes_back one_left first_there is_up no_more;
  can = lists_still n2 none_begun one_left is_up.files is_up.nodes no_tuples;
  life = is_up.life;
  soon = is_up.soon;
  later = fails_later one_left is_up;
  boots = ap (λ (c : ClusterView). boot_of c n2) is_up.nodes;
  runs = is_up.runs;
  runs_alone = is_up.runs_alone;
}
