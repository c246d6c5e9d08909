-- An arrival that the law is of: of two nodes the second one boots alone, and waits for the first one, which is optional; when its time is
-- over it comes up, and its boot script starts an application of its own and one that is distributed.
use Rattle.std.proofs.Common.{◌≡◌, ◌≢◌, ℕ, zero, suc, true, false, [], ◌∷◌, Some, refl, sym, ap, subst, ◌∙◌, inr}
use Rattle.std.proofs.lemmas.Bool.{false≢true}
use Rattle.std.proofs.lemmas.List.Elements.{All-nil}
use Rattle.std.proofs.lemmas.Option.{same_Some}
use Rattle.rh_model.specs.ClusterView.{ClusterView, boot_of, node_count, app_count}
use Rattle.rh_model.specs.declared.node.Node.{Node}
use Rattle.rh_model.specs.declared.settings.Restart.TheVariants.{Temporary}
use Rattle.rh_otp_model.specs.declared.message.Message.{Message}
use Rattle.rh_otp_model.specs.declared.message.Message.TheVariants as message
use Rattle.rh_otp_model.specs.declared.process.Role.TheVariants as role
use Rattle.rh_otp_model.specs.Rows.{keyfind}
use Rattle.rh_otp_controller.specs.declared.state.Place.TheVariants as place_of
use Rattle.rh_otp_controller.specs.Calls.{start as controller_start, stop as controller_stop, permit as controller_permit, top_ends as controller_top_ends}
use Rattle.rh_otp_controller.specs.Changes.{do_start as controller_do_start, change as controller_change, received as controller_received}
use Rattle.rh_otp_controller.specs.Starting.{spawn_starter as controller_spawn_starter, reply_to_requester as controller_reply_to_requester, has_started as controller_has_started, start_reply as controller_start_reply}
use Rattle.rh_otp_dist.specs.Attempts.{finish as dist_finish, runs_elsewhere as dist_runs_elsewhere}
use Rattle.rh_otp_dist.specs.Calls.{take_over as dist_take_over, permit as dist_permit, get_nodes as dist_get_nodes}
use Rattle.rh_otp_dist.specs.Choosing.{start_here as dist_start_here, is_to_start as dist_is_to_start, find_start_node as dist_find_start_node, start_distributed as dist_start_distributed, start_appl as dist_start_appl}
use Rattle.rh_otp_dist.specs.Down.{check_waiting as dist_check_waiting, node_down as dist_node_down}
use Rattle.rh_otp_dist.specs.Outside.{introduced_to as dist_introduced_to}
use Rattle.rh_otp_dist.specs.Received.{handle_next as dist_handle_next}
use Rattle.rh_otp_dist.specs.Sending.{del_t_reqs as dist_del_t_reqs}
use Rattle.rh_otp_dist.specs.Told.{run as dist_run, answer_ends as dist_answer_ends, not_run as dist_not_run, stopped as dist_stopped, new_node as dist_new_node, answer_permits as dist_answer_permits, app_started as dist_app_started, app_stopped as dist_app_stopped, weight_told as dist_weight_told, restart as dist_restart, new_permission as dist_new_permission}
use Rattle.rh_otp_net.specs.Links.{to_connect as net_to_connect}
use Rattle.rh_otp_node.specs.Turns.{controlled_by as node_controlled_by, terminated_by as node_terminated_by, handled_by as node_handled_by, introduced_by as node_introduced_by}
use Rattle.rh_otp_system.specs.Calling.{lock_call as system_lock_call, wait_for_lock as system_wait_for_lock, behind_sync as system_behind_sync, go_on_call as system_go_on_call, call_received as system_call_received}
use Rattle.rh_otp_system.specs.Connecting.{connect as system_connect}
use Rattle.rh_otp_system.specs.Delivering.{delivered as system_delivered, slowed as system_slowed}
use Rattle.rh_otp_system.specs.Doing.{waited_for as system_waited_for, booted as system_booted, called as system_called, fired_next as system_fired_next, ticked as system_ticked, is_ticked as system_is_ticked}
use Rattle.rh_otp_system.specs.Ending.{down_told as system_down_told, taken_down as system_taken_down, ended as system_ended, stopped as system_stopped}
use Rattle.rh_otp_system.specs.Joining.{join as system_join, has_seen as system_has_seen, boot_next as system_boot_next}
use Rattle.rh_otp_system.specs.Moves.{made as system_made}
use Rattle.rh_otp_system.specs.Resting.{rested as system_rested, forgotten as system_forgotten}
use Rattle.rh_otp_system.specs.Sending.{told as system_told, after as system_after}
use Rattle.rh_otp_system.specs.Working.{take_lock as system_take_lock, gone as system_gone, handled as system_handled, work as system_work, mailed as system_mailed}
use Rattle.rh_otp_dist.specs.declared.state.Stand.TheVariants as stand
use Rattle.rh_otp_dist.specs.State.{DistView, beginning}
use Rattle.rh_otp_dist.specs.Waiting.{takes}
use Rattle.rh_otp_net.specs.declared.order.Order.TheVariants.{FirstComes}
use Rattle.rh_otp_net.specs.declared.timers.Timer.{Timer}
use Rattle.rh_otp_net.specs.Timers.{next_due, fired}
use Rattle.rh_otp_node.specs.Live.{never_begun, own_flags, first_dist}
use Rattle.rh_otp_system.specs.Doing.{booted, fired_next}
use Rattle.rh_otp_system.specs.Joining.{lacks_mandatory}
use Rattle.rh_otp_system.specs.Moves.{IsSettled, is_settled_by}
use Rattle.rh_otp_system.specs.State.{SystemView, node_at, is_alive_at, is_up_at}
use Rattle.rh_otp_system.proofs.Moving.{settles}
use Rattle.rh_otp_laws.specs.Acting.{IsReached}
use Rattle.rh_otp_crashes.specs.Crashes.{IsUnoccupied, AreAtRest, FailOverLater}
use Rattle.rh_otp_crashes.proofs.Turning.{own_in}
use Rattle.rh_otp_stops.specs.Stops.{EndsAlike}
use Rattle.rh_otp_stops.proofs.Rows.{n1, n2, d1, l1, file, quiet, NoMore, begins_at}
use Rattle.rh_otp_scripts.proofs.Rows.{cluster, none_begun, first_reached, later_in}
use Rattle.rh_otp_joins.specs.Joins.{uncounted}
use Rattle.rh_otp_returns.specs.Arrivals.{ComesUpInTime}
use Rattle.rh_otp_returns.specs.Returns.{CanBootThere}
use Rattle.rh_otp_returns.proofs.Arrival.{arrivals_alike}
use Rattle.rh_otp_returns.proofs.Return.{lists_still, fails_later}
use Rattle.rh_otp_returns.proofs.Rows.{no_tuples}

-- ---- what happens

-- the second node waits
abbrev pub waiting : SystemView
waiting = quiet (booted n2 none_begun)

-- its time is over
abbrev pub over : SystemView
over = quiet (fired_next 12000 waiting)

-- ---- what the prover computes of it

abbrev wait_of : Timer
wait_of = record {
  due = 12000;
  step = 0;
  to = record { role = role.KernelConfig; node = n2; life = 1 };
  message = message.Timeout;
}

-- its dist_ac, to which nothing has come
abbrev first_of_it : DistView
first_of_it = beginning (node_count cluster) (app_count cluster) n2 (own_flags cluster file.own n2)

-- it waits alone
record IsWaiting (s : SystemView) : Type 0 where
  nodes : s.cluster ≡ cluster
  files : s.files ≡ file ∷ file ∷ []
  next : next_due s.timers ≡ Some (12000, 0)
  fire : fired s.timers ≡ wait_of ∷ []
  life : (node_at s n2).life ≡ 1
  alive : is_alive_at s n2 ≡ true
  down : is_alive_at s n1 ≡ false
  waits : is_up_at s n2 ≡ false
  has : lacks_mandatory n2 s ≡ false
  dist : (node_at s n2).dist ≡ Some first_of_it
  requests : (node_at s n2).controller.start_req ≡ []
  calls : s.calls ≡ []
  soon : s.ends_soon ≡ true

it_waits : IsWaiting waiting
unfolding controller_start controller_stop controller_permit controller_top_ends controller_do_start controller_change controller_received controller_spawn_starter controller_reply_to_requester controller_has_started controller_start_reply dist_finish dist_runs_elsewhere dist_take_over dist_permit dist_get_nodes dist_start_here dist_is_to_start dist_find_start_node dist_start_distributed dist_start_appl dist_check_waiting dist_node_down dist_introduced_to dist_handle_next dist_del_t_reqs dist_run dist_answer_ends dist_not_run dist_stopped dist_new_node dist_answer_permits dist_app_started dist_app_stopped dist_weight_told dist_restart dist_new_permission net_to_connect node_controlled_by node_terminated_by node_handled_by node_introduced_by system_lock_call system_wait_for_lock system_behind_sync system_go_on_call system_call_received system_connect system_delivered system_slowed system_waited_for system_booted system_called system_fired_next system_ticked system_is_ticked system_down_told system_taken_down system_ended system_stopped system_join system_has_seen system_boot_next system_made system_rested system_forgotten system_told system_after system_take_lock system_gone system_handled system_work system_mailed
it_waits = record {
  nodes = refl;
  files = refl;
  next = refl;
  fire = refl;
  life = refl;
  alive = refl;
  down = refl;
  waits = refl;
  has = refl;
  dist = refl;
  requests = refl;
  calls = refl;
  soon = refl;
}

no_more : NoMore waiting
unfolding controller_start controller_stop controller_permit controller_top_ends controller_do_start controller_change controller_received controller_spawn_starter controller_reply_to_requester controller_has_started controller_start_reply dist_finish dist_runs_elsewhere dist_take_over dist_permit dist_get_nodes dist_start_here dist_is_to_start dist_find_start_node dist_start_distributed dist_start_appl dist_check_waiting dist_node_down dist_introduced_to dist_handle_next dist_del_t_reqs dist_run dist_answer_ends dist_not_run dist_stopped dist_new_node dist_answer_permits dist_app_started dist_app_stopped dist_weight_told dist_restart dist_new_permission net_to_connect node_controlled_by node_terminated_by node_handled_by node_introduced_by system_lock_call system_wait_for_lock system_behind_sync system_go_on_call system_call_received system_connect system_delivered system_slowed system_waited_for system_booted system_called system_fired_next system_ticked system_is_ticked system_down_told system_taken_down system_ended system_stopped system_join system_has_seen system_boot_next system_made system_rested system_forgotten system_told system_after system_take_lock system_gone system_handled system_work system_mailed
no_more zero = refl
no_more (suc k) = refl

-- it comes to an end, and the node is up and runs both
record Ends : Type 0 where
  waits : is_settled_by 1000 FirstComes (booted n2 none_begun) ≡ true
  ends : is_settled_by 1000 FirstComes (fired_next 12000 waiting) ≡ true
  up : is_up_at over n2 ≡ true
  runs : keyfind d1 (node_at over n2).controller.running ≡ Some place_of.Here
  runs_alone : keyfind l1 (node_at over n2).controller.running ≡ Some place_of.Here

it_ends : Ends
unfolding controller_start controller_stop controller_permit controller_top_ends controller_do_start controller_change controller_received controller_spawn_starter controller_reply_to_requester controller_has_started controller_start_reply dist_finish dist_runs_elsewhere dist_take_over dist_permit dist_get_nodes dist_start_here dist_is_to_start dist_find_start_node dist_start_distributed dist_start_appl dist_check_waiting dist_node_down dist_introduced_to dist_handle_next dist_del_t_reqs dist_run dist_answer_ends dist_not_run dist_stopped dist_new_node dist_answer_permits dist_app_started dist_app_stopped dist_weight_told dist_restart dist_new_permission net_to_connect node_controlled_by node_terminated_by node_handled_by node_introduced_by system_lock_call system_wait_for_lock system_behind_sync system_go_on_call system_call_received system_connect system_delivered system_slowed system_waited_for system_booted system_called system_fired_next system_ticked system_is_ticked system_down_told system_taken_down system_ended system_stopped system_join system_has_seen system_boot_next system_made system_rested system_forgotten system_told system_after system_take_lock system_gone system_handled system_work system_mailed
it_ends = record { waits = refl; ends = refl; up = refl; runs = refl; runs_alone = refl }

is_reached : IsReached waiting
is_reached = begins_at none_begun n2 never_begun refl refl first_reached

-- ---- so the law is of it

-- what is so of the second node is so of all that are alive
of_second : (P : Node → Type 0) (s : SystemView) → NoMore s → IsWaiting s → P n2 → (k : ℕ) → is_alive_at s (record { 0 = k }) ≡ true
    → P (record { 0 = k })
of_second P s none is second zero alive = absurd (false≢true (sym is.down ∙ alive))
of_second P s none is second (suc zero) alive = second
of_second P s none is second (suc (suc k)) alive = absurd (false≢true (sym (none k) ∙ alive))

at_ease : (s : SystemView) → IsWaiting s → (d : DistView) → (node_at s n2).dist ≡ Some d → IsUnoccupied d
at_ease s is d has =
    subst IsUnoccupied (same_Some first_of_it d (sym is.dist ∙ has)) (record {
      stand = inr refl;
      mail = All-nil (λ (m : Message). takes stand.ForGo m ≡ false);
      permits = refl;
      parked = refl;
    })

are_at_rest : (s : SystemView) → IsWaiting s → NoMore s → IsSettled s → AreAtRest s
are_at_rest s is none settled = record {
  settled = settled;
  calls = is.calls;
  dists = λ n d alive has.
      of_second (λ (m : Node). (e : DistView) → (node_at s m).dist ≡ Some e → IsUnoccupied e) s none is (at_ease s is) n.0 alive d has;
}

-- it is alone
no_other : (s : SystemView) → IsWaiting s → NoMore s → (k : ℕ) → is_alive_at s (record { 0 = k }) ≡ true → k ≢ 1 → ⊥
no_other s is none k alive = of_second (λ (m : Node). m.0 ≢ 1 → ⊥) s none is (λ other. other refl) k alive

comes_up : (s : SystemView) → IsWaiting s → NoMore s → ComesUpInTime n2 s
comes_up s is none = record {
  due = 12000;
  step = 0;
  next = is.next;
  alone = is.fire ∙ (λ i. record wait_of { to = record { role = role.KernelConfig; node = n2; life = sym is.life i } } ∷ []);
  alive = is.alive;
  waits = is.waits;
  has = is.has;
  fresh = is.dist ∙ (λ i. first_dist (sym is.nodes i) (own_in (sym is.files i) n2) n2);
  requests = is.requests;
  sees = λ m apart alive. absurd (no_other s is none m.0 alive apart);
  ready = λ m apart alive has. absurd (no_other s is none m.0 alive apart);
}

none_fails_over : FailOverLater none_begun
none_fails_over n = later_in n.0

later_there : waiting.ends_soon ≡ true → FailOverLater waiting
later_there soon = fails_later none_begun waiting it_waits.files (it_waits.soon) (λ is. none_fails_over) soon

-- There is such an arrival.
pub record Row : Type 0 where
  reached : IsReached waiting
  rest : AreAtRest waiting
  comes : ComesUpInTime n2 waiting
  can : CanBootThere n2 waiting
  soon : waiting.ends_soon ≡ true
  boots : boot_of waiting.cluster n2 ≡ (d1, Temporary) ∷ (l1, Temporary) ∷ []
  alike : EndsAlike (uncounted (fired_next 12000 waiting))
  up : is_up_at over n2 ≡ true
  runs : keyfind d1 (node_at over n2).controller.running ≡ Some place_of.Here
  runs_alone : keyfind l1 (node_at over n2).controller.running ≡ Some place_of.Here

pub row : Row
unfolding comes_up
row = record {
  reached = is_reached;
  rest = rest;
  comes = comes_up waiting it_waits no_more;
  can = can;
  soon = it_waits.soon;
  boots = ap (λ (c : ClusterView). boot_of c n2) it_waits.nodes;
  alike = arrivals_alike waiting n2 is_reached rest (comes_up waiting it_waits no_more) can later_there;
  up = it_ends.up;
  runs = it_ends.runs;
  runs_alone = it_ends.runs_alone;
}
  where
    rest : AreAtRest waiting
    rest = are_at_rest waiting it_waits no_more ((settles 1000 FirstComes (booted n2 none_begun)).1 it_ends.waits)

    can : CanBootThere n2 waiting
    can = lists_still n2 none_begun waiting it_waits.files it_waits.nodes no_tuples
