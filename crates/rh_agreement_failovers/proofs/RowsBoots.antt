-- Three live nodes boot one after the other, each of which is at rest behind each boot.
use Rattle.std.proofs.Common.{◌≡◌, ◌⊎◌, ◌<◌, ◌&&◌, ◌∙◌, ℕ, zero, suc, true, false, not, Some, List, [], ◌∷◌, length, slice_get, unwrap_or, Option, inl, inr, refl, sym, ap, subst, arith}
use Rattle.std.specs.Prelude.{All}
use Rattle.std.proofs.lemmas.Option.{none-some, same_Some}
use Rattle.std.proofs.lemmas.List.Elements.{All-nil, All-cons, All-head, All-tail}
use Rattle.rh_model.specs.ClusterView.{ClusterView, node_count, numbered}
use Rattle.rh_model.specs.declared.node.Node.{Node}
use Rattle.rh_rules.specs.declared.pick.Pick.TheVariants.{First}
use Rattle.rh_trail.specs.Lone.{opened}
use Rattle.rh_otp_model.specs.declared.message.Message.{Message}
use Rattle.rh_otp_model.specs.Own.{EntryView}
use Rattle.rh_otp_dist.specs.declared.state.Stand.TheVariants as stand
use Rattle.rh_otp_dist.specs.State.{DistView, beginning}
use Rattle.rh_otp_dist.specs.Waiting.{takes}
use Rattle.rh_otp_net.specs.declared.order.Order.TheVariants.{FirstComes}
use Rattle.rh_otp_node.specs.Live.{LiveView, never_begun, is_ending}
use Rattle.rh_otp_sim.specs.Acting.{most_moves}
use Rattle.rh_otp_sim.specs.Sim.{LiveSimView, net_in}
use Rattle.rh_otp_sim.specs.Sim.{opened as live_opened}
use Rattle.rh_otp_sim.specs.Stepping.{cells_behind, with_step}
use Rattle.rh_otp_system.specs.Doing.{booted as live_booted}
use Rattle.rh_otp_system.specs.Moves.{settled}
use Rattle.rh_otp_system.specs.Resting.{forgotten, rested, open_of}
use Rattle.rh_otp_system.specs.State.{SystemView, node_at, own_at, live_at, is_alive_at}
use Rattle.rh_otp_laws.specs.Acting.{IsReached, later, acts, begins, rests}
use Rattle.rh_otp_laws.proofs.Commands.{commands_reached}
use Rattle.rh_otp_crashes.specs.Crashes.{IsUnoccupied}
use Rattle.rh_agreement.specs.Resting.{AreBothAtRest, held}
use Rattle.rh_agreement.proofs.AtFirst.{first_rest}
use Rattle.rh_agreement.proofs.Rest.{IsOver, reached_again}
use Rattle.rh_otp_controller.specs.Calls.{start as controller_start, stop as controller_stop, permit as controller_permit, top_ends as controller_top_ends}
use Rattle.rh_otp_controller.specs.Changes.{do_start as controller_do_start, change as controller_change, received as controller_received}
use Rattle.rh_otp_controller.specs.Starting.{spawn_starter as controller_spawn_starter, reply_to_requester as controller_reply_to_requester, has_started as controller_has_started, start_reply as controller_start_reply}
use Rattle.rh_otp_dist.specs.Attempts.{finish as dist_finish, runs_elsewhere as dist_runs_elsewhere}
use Rattle.rh_otp_dist.specs.Calls.{take_over as dist_take_over, permit as dist_permit, get_nodes as dist_get_nodes}
use Rattle.rh_otp_dist.specs.Choosing.{start_here as dist_start_here, is_to_start as dist_is_to_start, find_start_node as dist_find_start_node, start_distributed as dist_start_distributed, start_appl as dist_start_appl}
use Rattle.rh_otp_dist.specs.Down.{check_waiting as dist_check_waiting, node_down as dist_node_down}
use Rattle.rh_otp_dist.specs.Outside.{introduced_to as dist_introduced_to}
use Rattle.rh_otp_dist.specs.Received.{handle_next as dist_handle_next}
use Rattle.rh_otp_dist.specs.Sending.{del_t_reqs as dist_del_t_reqs}
use Rattle.rh_otp_dist.specs.Told.{run as dist_run, answer_ends as dist_answer_ends, not_run as dist_not_run, stopped as dist_stopped, new_node as dist_new_node, answer_permits as dist_answer_permits, app_started as dist_app_started, app_stopped as dist_app_stopped, weight_told as dist_weight_told, restart as dist_restart, new_permission as dist_new_permission}
use Rattle.rh_otp_net.specs.Links.{to_connect as net_to_connect}
use Rattle.rh_otp_node.specs.Turns.{controlled_by as node_controlled_by, terminated_by as node_terminated_by, handled_by as node_handled_by, introduced_by as node_introduced_by}
use Rattle.rh_otp_system.specs.Calling.{lock_call as system_lock_call, wait_for_lock as system_wait_for_lock, behind_sync as system_behind_sync, go_on_call as system_go_on_call, call_received as system_call_received}
use Rattle.rh_otp_system.specs.Connecting.{connect as system_connect}
use Rattle.rh_otp_system.specs.Delivering.{delivered as system_delivered, slowed as system_slowed}
use Rattle.rh_otp_system.specs.Doing.{waited_for as system_waited_for, booted as system_booted, called as system_called, fired_next as system_fired_next, ticked as system_ticked, is_ticked as system_is_ticked}
use Rattle.rh_otp_system.specs.Ending.{down_told as system_down_told, taken_down as system_taken_down, ended as system_ended, stopped as system_stopped}
use Rattle.rh_otp_system.specs.Joining.{join as system_join, has_seen as system_has_seen, boot_next as system_boot_next}
use Rattle.rh_otp_system.specs.Moves.{made as system_made}
use Rattle.rh_otp_system.specs.Resting.{rested as system_rested, forgotten as system_forgotten}
use Rattle.rh_otp_system.specs.Sending.{told as system_told, after as system_after}
use Rattle.rh_otp_system.specs.Working.{take_lock as system_take_lock, gone as system_gone, handled as system_handled, work as system_work, mailed as system_mailed}
use Rattle.rh_agreement_failovers.proofs.RowsTrio.{a, b, c, three, file, within}

abbrev pub new_live : LiveSimView
new_live = live_opened three (file ∷ file ∷ file ∷ []) FirstComes

-- what comes of a boot
abbrev pub booted_then : Node → LiveSimView → SystemView
booted_then n l = rested (settled most_moves FirstComes (live_booted n (held l)))

abbrev pub then_of : Node → LiveSimView → LiveSimView
then_of n l = with_step (cells_behind (net_in l) 3 (booted_then n l)) l

abbrev pub live_one : LiveSimView
live_one = then_of a new_live

abbrev pub live_two : LiveSimView
live_two = then_of b live_one

abbrev pub live_three : LiveSimView
live_three = then_of c live_two

-- ---- what the prover computes of each

abbrev dist_of : LiveView → DistView
dist_of v = unwrap_or v.dist (beginning 0 0 a [])

-- its dist_ac does nothing, if it has one, and it hasn't to end
record IsFine (v : LiveView) : Type 0 where
  stand : ((dist_of v).stand ≡ stand.Idle) ⊎ ((dist_of v).stand ≡ stand.ForGo)
  mail : (dist_of v).mail ≡ []
  permits : (dist_of v).p_reqs ≡ []
  parked : (dist_of v).parked ≡ []
  stays : (is_ending v && not v.is_stopped) ≡ false

abbrev IsAlive : SystemView → Node → Type 0
IsAlive t m = is_alive_at t m ≡ true

-- nothing moves, and those that are alive are these
record Facts (l : LiveSimView) (t : SystemView) : Type 0 where
  count : length t.nodes.cells ≡ 4
  calls : open_of t.calls ≡ []
  messages : t.messages ≡ []
  slow : t.slow ≡ []
  cluster : t.cluster ≡ l.cluster
  files : t.files ≡ l.files
  nodes : List Node
  alive : t.alive ≡ nodes
  each : All (IsAlive t) nodes
  nobody : is_alive_at t (numbered 3) ≡ false

-- a node that has never begun begins
record Begins (n : Node) (l : LiveSimView) : Type 0 where
  there : live_at (held l) n ≡ Some never_begun
  down : is_alive_at (held l) n ≡ false

one_fine : (k : ℕ) → IsFine (node_at (booted_then a new_live) (numbered k))
unfolding controller_start controller_stop controller_permit controller_top_ends controller_do_start controller_change controller_received controller_spawn_starter controller_reply_to_requester controller_has_started controller_start_reply dist_finish dist_runs_elsewhere dist_take_over dist_permit dist_get_nodes dist_start_here dist_is_to_start dist_find_start_node dist_start_distributed dist_start_appl dist_check_waiting dist_node_down dist_introduced_to dist_handle_next dist_del_t_reqs dist_run dist_answer_ends dist_not_run dist_stopped dist_new_node dist_answer_permits dist_app_started dist_app_stopped dist_weight_told dist_restart dist_new_permission net_to_connect node_controlled_by node_terminated_by node_handled_by node_introduced_by system_lock_call system_wait_for_lock system_behind_sync system_go_on_call system_call_received system_connect system_delivered system_slowed system_waited_for system_booted system_called system_fired_next system_ticked system_is_ticked system_down_told system_taken_down system_ended system_stopped system_join system_has_seen system_boot_next system_made system_rested system_forgotten system_told system_after system_take_lock system_gone system_handled system_work system_mailed
one_fine zero = record { stand = inr refl; mail = refl; permits = refl; parked = refl; stays = refl }
one_fine (suc zero) = record { stand = inr refl; mail = refl; permits = refl; parked = refl; stays = refl }
one_fine (suc (suc zero)) = record { stand = inr refl; mail = refl; permits = refl; parked = refl; stays = refl }
one_fine (suc (suc (suc zero))) = record { stand = inr refl; mail = refl; permits = refl; parked = refl; stays = refl }
one_fine (suc (suc (suc (suc k)))) = record { stand = inr refl; mail = refl; permits = refl; parked = refl; stays = refl }

two_fine : (k : ℕ) → IsFine (node_at (booted_then b live_one) (numbered k))
unfolding controller_start controller_stop controller_permit controller_top_ends controller_do_start controller_change controller_received controller_spawn_starter controller_reply_to_requester controller_has_started controller_start_reply dist_finish dist_runs_elsewhere dist_take_over dist_permit dist_get_nodes dist_start_here dist_is_to_start dist_find_start_node dist_start_distributed dist_start_appl dist_check_waiting dist_node_down dist_introduced_to dist_handle_next dist_del_t_reqs dist_run dist_answer_ends dist_not_run dist_stopped dist_new_node dist_answer_permits dist_app_started dist_app_stopped dist_weight_told dist_restart dist_new_permission net_to_connect node_controlled_by node_terminated_by node_handled_by node_introduced_by system_lock_call system_wait_for_lock system_behind_sync system_go_on_call system_call_received system_connect system_delivered system_slowed system_waited_for system_booted system_called system_fired_next system_ticked system_is_ticked system_down_told system_taken_down system_ended system_stopped system_join system_has_seen system_boot_next system_made system_rested system_forgotten system_told system_after system_take_lock system_gone system_handled system_work system_mailed
two_fine zero = record { stand = inr refl; mail = refl; permits = refl; parked = refl; stays = refl }
two_fine (suc zero) = record { stand = inr refl; mail = refl; permits = refl; parked = refl; stays = refl }
two_fine (suc (suc zero)) = record { stand = inr refl; mail = refl; permits = refl; parked = refl; stays = refl }
two_fine (suc (suc (suc zero))) = record { stand = inr refl; mail = refl; permits = refl; parked = refl; stays = refl }
two_fine (suc (suc (suc (suc k)))) = record { stand = inr refl; mail = refl; permits = refl; parked = refl; stays = refl }

three_fine : (k : ℕ) → IsFine (node_at (booted_then c live_two) (numbered k))
unfolding controller_start controller_stop controller_permit controller_top_ends controller_do_start controller_change controller_received controller_spawn_starter controller_reply_to_requester controller_has_started controller_start_reply dist_finish dist_runs_elsewhere dist_take_over dist_permit dist_get_nodes dist_start_here dist_is_to_start dist_find_start_node dist_start_distributed dist_start_appl dist_check_waiting dist_node_down dist_introduced_to dist_handle_next dist_del_t_reqs dist_run dist_answer_ends dist_not_run dist_stopped dist_new_node dist_answer_permits dist_app_started dist_app_stopped dist_weight_told dist_restart dist_new_permission net_to_connect node_controlled_by node_terminated_by node_handled_by node_introduced_by system_lock_call system_wait_for_lock system_behind_sync system_go_on_call system_call_received system_connect system_delivered system_slowed system_waited_for system_booted system_called system_fired_next system_ticked system_is_ticked system_down_told system_taken_down system_ended system_stopped system_join system_has_seen system_boot_next system_made system_rested system_forgotten system_told system_after system_take_lock system_gone system_handled system_work system_mailed
three_fine zero = record { stand = inl refl; mail = refl; permits = refl; parked = refl; stays = refl }
three_fine (suc zero) = record { stand = inl refl; mail = refl; permits = refl; parked = refl; stays = refl }
three_fine (suc (suc zero)) = record { stand = inl refl; mail = refl; permits = refl; parked = refl; stays = refl }
three_fine (suc (suc (suc zero))) = record { stand = inr refl; mail = refl; permits = refl; parked = refl; stays = refl }
three_fine (suc (suc (suc (suc k)))) = record { stand = inr refl; mail = refl; permits = refl; parked = refl; stays = refl }

one_facts : Facts new_live (booted_then a new_live)
unfolding controller_start controller_stop controller_permit controller_top_ends controller_do_start controller_change controller_received controller_spawn_starter controller_reply_to_requester controller_has_started controller_start_reply dist_finish dist_runs_elsewhere dist_take_over dist_permit dist_get_nodes dist_start_here dist_is_to_start dist_find_start_node dist_start_distributed dist_start_appl dist_check_waiting dist_node_down dist_introduced_to dist_handle_next dist_del_t_reqs dist_run dist_answer_ends dist_not_run dist_stopped dist_new_node dist_answer_permits dist_app_started dist_app_stopped dist_weight_told dist_restart dist_new_permission net_to_connect node_controlled_by node_terminated_by node_handled_by node_introduced_by system_lock_call system_wait_for_lock system_behind_sync system_go_on_call system_call_received system_connect system_delivered system_slowed system_waited_for system_booted system_called system_fired_next system_ticked system_is_ticked system_down_told system_taken_down system_ended system_stopped system_join system_has_seen system_boot_next system_made system_rested system_forgotten system_told system_after system_take_lock system_gone system_handled system_work system_mailed
one_facts = record {
  count = refl;
  calls = refl;
  messages = refl;
  slow = refl;
  cluster = refl;
  files = refl;
  nodes = a ∷ [];
  alive = refl;
  each = All-cons (IsAlive (booted_then a new_live)) a [] refl (All-nil (IsAlive (booted_then a new_live)));
  nobody = refl;
}

two_facts : Facts live_one (booted_then b live_one)
unfolding controller_start controller_stop controller_permit controller_top_ends controller_do_start controller_change controller_received controller_spawn_starter controller_reply_to_requester controller_has_started controller_start_reply dist_finish dist_runs_elsewhere dist_take_over dist_permit dist_get_nodes dist_start_here dist_is_to_start dist_find_start_node dist_start_distributed dist_start_appl dist_check_waiting dist_node_down dist_introduced_to dist_handle_next dist_del_t_reqs dist_run dist_answer_ends dist_not_run dist_stopped dist_new_node dist_answer_permits dist_app_started dist_app_stopped dist_weight_told dist_restart dist_new_permission net_to_connect node_controlled_by node_terminated_by node_handled_by node_introduced_by system_lock_call system_wait_for_lock system_behind_sync system_go_on_call system_call_received system_connect system_delivered system_slowed system_waited_for system_booted system_called system_fired_next system_ticked system_is_ticked system_down_told system_taken_down system_ended system_stopped system_join system_has_seen system_boot_next system_made system_rested system_forgotten system_told system_after system_take_lock system_gone system_handled system_work system_mailed
two_facts = record {
  count = refl;
  calls = refl;
  messages = refl;
  slow = refl;
  cluster = refl;
  files = refl;
  nodes = a ∷ b ∷ [];
  alive = refl;
  each = All-cons (IsAlive (booted_then b live_one)) a (b ∷ []) refl
      (All-cons (IsAlive (booted_then b live_one)) b [] refl (All-nil (IsAlive (booted_then b live_one))));
  nobody = refl;
}

three_facts : Facts live_two (booted_then c live_two)
unfolding controller_start controller_stop controller_permit controller_top_ends controller_do_start controller_change controller_received controller_spawn_starter controller_reply_to_requester controller_has_started controller_start_reply dist_finish dist_runs_elsewhere dist_take_over dist_permit dist_get_nodes dist_start_here dist_is_to_start dist_find_start_node dist_start_distributed dist_start_appl dist_check_waiting dist_node_down dist_introduced_to dist_handle_next dist_del_t_reqs dist_run dist_answer_ends dist_not_run dist_stopped dist_new_node dist_answer_permits dist_app_started dist_app_stopped dist_weight_told dist_restart dist_new_permission net_to_connect node_controlled_by node_terminated_by node_handled_by node_introduced_by system_lock_call system_wait_for_lock system_behind_sync system_go_on_call system_call_received system_connect system_delivered system_slowed system_waited_for system_booted system_called system_fired_next system_ticked system_is_ticked system_down_told system_taken_down system_ended system_stopped system_join system_has_seen system_boot_next system_made system_rested system_forgotten system_told system_after system_take_lock system_gone system_handled system_work system_mailed
three_facts = record {
  count = refl;
  calls = refl;
  messages = refl;
  slow = refl;
  cluster = refl;
  files = refl;
  nodes = a ∷ b ∷ c ∷ [];
  alive = refl;
  each = All-cons (IsAlive (booted_then c live_two)) a (b ∷ c ∷ []) refl
      (All-cons (IsAlive (booted_then c live_two)) b (c ∷ []) refl
      (All-cons (IsAlive (booted_then c live_two)) c [] refl (All-nil (IsAlive (booted_then c live_two)))));
  nobody = refl;
}

one_begins : Begins a new_live
unfolding controller_start controller_stop controller_permit controller_top_ends controller_do_start controller_change controller_received controller_spawn_starter controller_reply_to_requester controller_has_started controller_start_reply dist_finish dist_runs_elsewhere dist_take_over dist_permit dist_get_nodes dist_start_here dist_is_to_start dist_find_start_node dist_start_distributed dist_start_appl dist_check_waiting dist_node_down dist_introduced_to dist_handle_next dist_del_t_reqs dist_run dist_answer_ends dist_not_run dist_stopped dist_new_node dist_answer_permits dist_app_started dist_app_stopped dist_weight_told dist_restart dist_new_permission net_to_connect node_controlled_by node_terminated_by node_handled_by node_introduced_by system_lock_call system_wait_for_lock system_behind_sync system_go_on_call system_call_received system_connect system_delivered system_slowed system_waited_for system_booted system_called system_fired_next system_ticked system_is_ticked system_down_told system_taken_down system_ended system_stopped system_join system_has_seen system_boot_next system_made system_rested system_forgotten system_told system_after system_take_lock system_gone system_handled system_work system_mailed
one_begins = record { there = refl; down = refl }

two_begins : Begins b live_one
unfolding controller_start controller_stop controller_permit controller_top_ends controller_do_start controller_change controller_received controller_spawn_starter controller_reply_to_requester controller_has_started controller_start_reply dist_finish dist_runs_elsewhere dist_take_over dist_permit dist_get_nodes dist_start_here dist_is_to_start dist_find_start_node dist_start_distributed dist_start_appl dist_check_waiting dist_node_down dist_introduced_to dist_handle_next dist_del_t_reqs dist_run dist_answer_ends dist_not_run dist_stopped dist_new_node dist_answer_permits dist_app_started dist_app_stopped dist_weight_told dist_restart dist_new_permission net_to_connect node_controlled_by node_terminated_by node_handled_by node_introduced_by system_lock_call system_wait_for_lock system_behind_sync system_go_on_call system_call_received system_connect system_delivered system_slowed system_waited_for system_booted system_called system_fired_next system_ticked system_is_ticked system_down_told system_taken_down system_ended system_stopped system_join system_has_seen system_boot_next system_made system_rested system_forgotten system_told system_after system_take_lock system_gone system_handled system_work system_mailed
two_begins = record { there = refl; down = refl }

three_begins : Begins c live_two
unfolding controller_start controller_stop controller_permit controller_top_ends controller_do_start controller_change controller_received controller_spawn_starter controller_reply_to_requester controller_has_started controller_start_reply dist_finish dist_runs_elsewhere dist_take_over dist_permit dist_get_nodes dist_start_here dist_is_to_start dist_find_start_node dist_start_distributed dist_start_appl dist_check_waiting dist_node_down dist_introduced_to dist_handle_next dist_del_t_reqs dist_run dist_answer_ends dist_not_run dist_stopped dist_new_node dist_answer_permits dist_app_started dist_app_stopped dist_weight_told dist_restart dist_new_permission net_to_connect node_controlled_by node_terminated_by node_handled_by node_introduced_by system_lock_call system_wait_for_lock system_behind_sync system_go_on_call system_call_received system_connect system_delivered system_slowed system_waited_for system_booted system_called system_fired_next system_ticked system_is_ticked system_down_told system_taken_down system_ended system_stopped system_join system_has_seen system_boot_next system_made system_rested system_forgotten system_told system_after system_take_lock system_gone system_handled system_work system_mailed
three_begins = record { there = refl; down = refl }

-- ---- so each is over, and at rest

fine_is_free : (v : LiveView) → IsFine v → (d : DistView) → v.dist ≡ Some d → IsUnoccupied d
fine_is_free v fine d has =
    subst IsUnoccupied (ap (λ (o : Option DistView). unwrap_or o (beginning 0 0 a [])) has) (record {
      stand = fine.stand;
      mail = subst (All (λ (m : Message). takes (dist_of v).stand m ≡ false)) (sym fine.mail)
          (All-nil (λ (m : Message). takes (dist_of v).stand m ≡ false));
      permits = fine.permits;
      parked = fine.parked;
    })

of_each : (P : Node → Type 0) (nodes : List Node) (i : ℕ) (n : Node) → slice_get nodes i ≡ Some n → All P nodes → P n
of_each P [] i n is all = absurd (none-some n is)
of_each P (m ∷ nodes) zero n is all = subst P (same_Some m n is) (All-head P m nodes all)
of_each P (m ∷ nodes) (suc i) n is all = of_each P nodes i n is (All-tail P m nodes all)

module _ (n : Node) (l : LiveSimView) (in_three : l.cluster ≡ three) (reached : IsReached (held l)) (starts : Begins n l)
    (facts : Facts l (booted_then n l)) (fine : (k : ℕ) → IsFine (node_at (booted_then n l) (numbered k))) where
  then_reached : IsReached (booted_then n l)
  then_reached =
      let up : SystemView = live_booted n (held l) in
      let over : SystemView = settled most_moves FirstComes up in
      later over (rested over)
      (commands_reached.settles_there most_moves FirstComes up
      (later (held l) up reached (acts (held l) up (begins (held l) n (never_begun, starts.there) starts.down)))) (rests over)

  nobody_there : (k : ℕ) → k ≡ 3 → is_alive_at (booted_then n l) (numbered k) ≡ false
  nobody_there k is = ap (λ (j : ℕ). is_alive_at (booted_then n l) (numbered j)) is ∙ facts.nobody

  over_so : IsOver l (booted_then n l)
  over_so = record {
    inside = subst (λ (count : ℕ). node_count l.cluster < count) (sym facts.count)
        (subst (λ (x : ClusterView). node_count x < 4) (sym in_three) (omega arith));
    idle = record {
      calls = facts.calls;
      listed = λ m among. of_each (λ (k : Node). is_alive_at (booted_then n l) k ≡ true) facts.nodes among.0 m
          (ap (λ (nodes : List Node). slice_get nodes among.0) (sym facts.alive) ∙ among.1) facts.each;
      dists = λ m d alive has. fine_is_free (node_at (booted_then n l) m) (fine m.0) d has;
      ends = λ m alive. (fine m.0).stays;
    };
    reached = then_reached;
    is_quiet = (facts.messages, facts.slow);
    cluster = facts.cluster;
    files = facts.files;
    nobody = λ m there. nobody_there m.0 (there ∙ ap node_count in_three);
  }

-- ---- from where no node has begun

abbrev pub IsLater : EntryView → Type 0
IsLater e = 0 < e.timeout

pub no_timeouts : (k : ℕ) → All IsLater (own_at (held new_live) (numbered k)).entries
unfolding forgotten
no_timeouts zero = All-cons IsLater _ [] (omega arith) (All-nil IsLater)
no_timeouts (suc zero) = All-cons IsLater _ [] (omega arith) (All-nil IsLater)
no_timeouts (suc (suc zero)) = All-cons IsLater _ [] (omega arith) (All-nil IsLater)
no_timeouts (suc (suc (suc k))) = All-nil IsLater

first_at_rest : AreBothAtRest (opened three First) new_live
first_at_rest = first_rest three First (file ∷ file ∷ file ∷ []) FirstComes within (λ n. no_timeouts n.0)

one_over : IsOver new_live (booted_then a new_live)
one_over = over_so a new_live refl first_at_rest.reached one_begins one_facts one_fine

two_over : IsOver live_one (booted_then b live_one)
two_over = over_so b live_one refl (reached_again new_live (booted_then a new_live) one_over) two_begins two_facts two_fine

pub three_over : IsOver live_two (booted_then c live_two)
three_over = over_so c live_two refl (reached_again live_one (booted_then b live_one) two_over) three_begins three_facts three_fine
