-- A worked row: a whole cold start of two nodes, which wait for each other and boot three applications, two of which are distributed; the
-- first node doesn't boot the one that isn't to run there. So the law is about something.
use Rattle.std.proofs.Common.{◌≡◌, ◌≢◌, ◌<◌, ◌≤◌, ◌+◌, ◌-◌, ◌*◌, ◌^◌, ◌==◌, ◌&&◌, ◌||◌, ℕ, zero, suc, Bool, true, false, cond, not, nat_lt, Some, [], ◌∷◌, filter, length, refl, sym, ap, subst, ◌∙◌, arith}
use Rattle.std.specs.Prelude.{All}
use Rattle.std.proofs.lemmas.Bool.{false_from_ne_true, ltb-true, ne_eqb, true≢false}
use Rattle.std.proofs.lemmas.List.Elements.{All-nil, All-cons}
use Rattle.std.proofs.lemmas.Option.{none-some}
use Rattle.rh_model.specs.ClusterView.{numbered, app_numbered, sync_wait_of, boot_of}
use Rattle.rh_model.specs.declared.node.App.{App}
use Rattle.rh_model.specs.declared.node.Node.{Node}
use Rattle.rh_model.specs.declared.settings.Dep.TheVariants.{Listed}
use Rattle.rh_model.specs.declared.settings.SyncWait.{SyncWait}
use Rattle.rh_model.specs.declared.settings.SyncWait.TheVariants.{Unset}
use Rattle.rh_rules.specs.Course.{is_local}
use Rattle.rh_rules.specs.declared.event.Event.TheVariants as event
use Rattle.rh_rules.specs.declared.pick.Pick.TheVariants.{First}
use Rattle.rh_calls.specs.declared.call.Call.TheVariants as call
use Rattle.rh_start_laws.proofs.RowsCluster.{p, q, log, web}
use Rattle.rh_trail.specs.Lone.{opened}
use Rattle.rh_otp_model.specs.Own.{OwnView, controls}
use Rattle.rh_otp_net.specs.declared.order.Order.TheVariants.{FirstComes}
use Rattle.rh_otp_controller.specs.Calls.{start as controller_start, stop as controller_stop, permit as controller_permit, top_ends as controller_top_ends}
use Rattle.rh_otp_controller.specs.Changes.{do_start as controller_do_start, change as controller_change, received as controller_received}
use Rattle.rh_otp_controller.specs.Starting.{spawn_starter as controller_spawn_starter, reply_to_requester as controller_reply_to_requester, has_started as controller_has_started, start_reply as controller_start_reply}
use Rattle.rh_otp_dist.specs.Attempts.{finish as dist_finish, runs_elsewhere as dist_runs_elsewhere}
use Rattle.rh_otp_dist.specs.Calls.{take_over as dist_take_over, permit as dist_permit, get_nodes as dist_get_nodes}
use Rattle.rh_otp_dist.specs.Choosing.{start_here as dist_start_here, is_to_start as dist_is_to_start, find_start_node as dist_find_start_node, start_distributed as dist_start_distributed, start_appl as dist_start_appl}
use Rattle.rh_otp_dist.specs.Down.{check_waiting as dist_check_waiting, node_down as dist_node_down}
use Rattle.rh_otp_dist.specs.Outside.{introduced_to as dist_introduced_to}
use Rattle.rh_otp_dist.specs.Received.{handle_next as dist_handle_next}
use Rattle.rh_otp_dist.specs.Sending.{del_t_reqs as dist_del_t_reqs}
use Rattle.rh_otp_dist.specs.Told.{run as dist_run, answer_ends as dist_answer_ends, not_run as dist_not_run, stopped as dist_stopped, new_node as dist_new_node, answer_permits as dist_answer_permits, app_started as dist_app_started, app_stopped as dist_app_stopped, weight_told as dist_weight_told, restart as dist_restart, new_permission as dist_new_permission}
use Rattle.rh_otp_net.specs.Links.{to_connect as net_to_connect}
use Rattle.rh_otp_node.specs.Turns.{controlled_by as node_controlled_by, terminated_by as node_terminated_by, handled_by as node_handled_by, introduced_by as node_introduced_by}
use Rattle.rh_otp_system.specs.Calling.{lock_call as system_lock_call, wait_for_lock as system_wait_for_lock, behind_sync as system_behind_sync, go_on_call as system_go_on_call, call_received as system_call_received}
use Rattle.rh_otp_system.specs.Connecting.{connect as system_connect}
use Rattle.rh_otp_system.specs.Delivering.{delivered as system_delivered, slowed as system_slowed}
use Rattle.rh_otp_system.specs.Doing.{waited_for as system_waited_for, booted as system_booted, called as system_called, fired_next as system_fired_next, ticked as system_ticked, is_ticked as system_is_ticked}
use Rattle.rh_otp_system.specs.Ending.{down_told as system_down_told, taken_down as system_taken_down, ended as system_ended, stopped as system_stopped}
use Rattle.rh_otp_system.specs.Joining.{join as system_join, has_seen as system_has_seen, boot_next as system_boot_next}
use Rattle.rh_otp_system.specs.Moves.{made as system_made}
use Rattle.rh_otp_system.specs.Resting.{rested as system_rested, forgotten as system_forgotten}
use Rattle.rh_otp_system.specs.Sending.{told as system_told, after as system_after}
use Rattle.rh_otp_system.specs.Working.{take_lock as system_take_lock, gone as system_gone, handled as system_handled, work as system_work, mailed as system_mailed}
use Rattle.rh_otp_sim.specs.Acting.{most_moves, acted, is_acted, acted_at_once, is_quiet_at_once}
use Rattle.rh_otp_sim.specs.Calls.{made_by}
use Rattle.rh_otp_sim.specs.Sim.{LiveSimView, net_in}
use Rattle.rh_otp_sim.specs.Sim.{opened as live_opened}
use Rattle.rh_otp_sim.specs.Stepping.{ends_with}
use Rattle.rh_otp_system.specs.State.{SystemView, own_at, has_dist_at}
use Rattle.rh_otp_laws.specs.Acting.{IsThere}
use Rattle.rh_otp_crashes.specs.Crashes.{FailOverLater}
use Rattle.rh_otp_gathers.specs.Gathers.{times, one_if}
use Rattle.rh_otp_together.specs.Together.{IsBefore, InOrder, distributed_of, boots_at, strangers_of}
use Rattle.rh_otp_together.proofs.Sharing.{few_left_to_one}
use Rattle.rh_otp_colds.specs.Colds.{is_there, NameEachOther}
use Rattle.rh_otp_colds.specs.Wholes.{may_start, first_runner, CanStartTogether}
use Rattle.rh_agreement.specs.Resting.{held}
use Rattle.rh_agreement_boots.specs.Waiting.{entry_count}
use Rattle.rh_agreement_colds.proofs.RowsFiles.{file, files, fresh, names, later_of}
use Rattle.rh_agreement_colds.proofs.RowsStrangers.{db, without_db, with_db, store, within, runner_of, in_order}
use Rattle.rh_agreement_rehearsals.specs.WholeStarts.{StartTogether, IsWholeStart, IsStartedAlike}
use Rattle.rh_agreement_rehearsals.proofs.WholeStarts.{whole_starts_alike}

-- ---- none has begun

abbrev live : LiveSimView
live = live_opened store files FirstComes

-- the command that begins doesn't wait for a node that ends
abbrev now : SystemView
now = record fresh { ends_soon = false }

held_so : held live ≡ now
unfolding system_forgotten
held_so = refl

-- what is so of the two is so of all that are there
of_two : (P : Node → Type 0) → P p → P q → (k : ℕ) → IsThere (numbered k) now → P (numbered k)
of_two P one two zero there = one
of_two P one two (suc zero) there = two
of_two P one two (suc (suc zero)) there = absurd (none-some there.0 there.1)
of_two P one two (suc (suc (suc k))) there = absurd (none-some there.0 there.1)

names_now : NameEachOther now
names_now = record { wait = names.wait; lists = names.lists }

past_two : (k : ℕ) → nat_lt (suc (suc k)) 2 ≡ false
past_two k =
    false_from_ne_true _ (λ is. (let less : suc (suc k) < 2 = ltb-true (suc (suc k)) 2 is in omega (arith, less)))

nodes_so : (k : ℕ) → is_there now (numbered k) ≡ nat_lt k 2
nodes_so zero = refl
nodes_so (suc zero) = refl
nodes_so (suc (suc zero)) = refl
nodes_so (suc (suc (suc k))) = sym (past_two (suc k))

abbrev RunsThere : App → Type 0
RunsThere a = (boots_at now (runner_of a) a ≡ true) × (may_start now (runner_of a) a ≡ true)

abbrev IsFirst : Node → App → Type 0
IsFirst m a = boots_at now m a ≡ true → first_runner now m a ≡ Some (runner_of a)

both_apps : (P : App → Type 0) → P web → P db → All P (web ∷ db ∷ [])
both_apps P one two = All-cons P web (db ∷ []) one (All-cons P db [] two (All-nil P))

can : CanStartTogether now
can = record {
  nodes = λ m. nodes_so m.0;
  has_dist = λ m there. of_two (λ (n : Node). has_dist_at now n ≡ true) refl refl m.0 there;
  in_order = λ m there. of_two (λ (n : Node). InOrder now n [] (boot_of store n)) two three m.0 there;
  short = λ m there. of_two (λ (n : Node). length (boot_of store n) < 2 ^ 64 - 1) (omega arith) (omega arith) m.0 there;
  apps = web ∷ db ∷ [];
  distributed = λ m there.
      of_two (λ (n : Node). distributed_of (own_at now n) (boot_of store n) ≡ filter (boots_at now n) (web ∷ db ∷ [])) refl refl m.0 there;
  strangers = λ m there. few_left_to_one runner_of (strangers_of now m (web ∷ db ∷ []))
      (of_two (λ (n : Node). length (strangers_of now n (web ∷ db ∷ [])) ≤ 1) (omega arith) (omega arith) m.0 there);
  at = runner_of;
  runners = both_apps RunsThere (refl, refl) (refl, refl);
  first = λ m there.
      of_two (λ (n : Node). All (IsFirst n) (web ∷ db ∷ [])) (both_apps (IsFirst p) (λ boots. refl) (λ boots. refl))
      (both_apps (IsFirst q) (λ boots. refl) (λ boots. refl)) m.0 there;
}
  where
    needs_log : (m : Node) → All (IsBefore now m (log ∷ [])) (Listed log ∷ [])
    needs_log m = All-cons (IsBefore now m (log ∷ [])) (Listed log) [] refl (All-nil (IsBefore now m (log ∷ [])))

    two : InOrder now p [] without_db
    two = (refl, All-nil (IsBefore now p []), λ out. refl, (refl, needs_log p, λ out. refl, tt))

    three : InOrder now q [] with_db
    three = (
      refl,
      All-nil (IsBefore now q []),
      λ out. refl,
      (refl, needs_log q, λ out. refl, (refl, All-nil (IsBefore now q (web ∷ log ∷ [])), λ out. refl, tt)),
    )

-- ---- so the nodes start together

abbrev is_set : SyncWait → Bool
is_set Unset = false
is_set w = true

waits_in : (k : ℕ) → k < 2 → sync_wait_of store (numbered k) ≢ Unset
waits_in zero inside = λ is. true≢false (ap is_set is)
waits_in (suc zero) inside = λ is. true≢false (ap is_set is)
waits_in (suc (suc k)) inside = absurd (omega (arith, inside))

-- of what they boot the same is distributed
own_of : (m : Node) → (own_at now m) ≡ file.own → (j : ℕ)
    → controls (own_at now m) (app_numbered j) ≡ not (is_local store (app_numbered j))
own_of m is zero = ap (λ (own : OwnView). controls own (app_numbered zero)) is
own_of m is (suc zero) = ap (λ (own : OwnView). controls own (app_numbered (suc zero))) is
own_of m is (suc (suc zero)) = ap (λ (own : OwnView). controls own (app_numbered (suc (suc zero)))) is
own_of m is (suc (suc (suc j))) =
    ap (λ (own : OwnView). controls own (app_numbered (suc (suc (suc j))))) is ∙ (λ i. not_web i || (not_db i || false))
  where
    not_web : (1 == suc (suc (suc j))) ≡ false
    not_web = ne_eqb 1 (suc (suc (suc j))) (λ same. omega (arith, same))

    not_db : (2 == suc (suc (suc j))) ≡ false
    not_db = ne_eqb 2 (suc (suc (suc j))) (λ same. omega (arith, same))

own_in : (k j : ℕ) → k < 2 → controls (own_at now (numbered k)) (app_numbered j) ≡ not (is_local store (app_numbered j))
own_in zero j inside = own_of p refl j
own_in (suc zero) j inside = own_of q refl j
own_in (suc (suc k)) j inside = absurd (omega (arith, inside))

few_in : (k : ℕ) → 3 * entry_count store (numbered k) + entry_count store (numbered k) * ((entry_count store (numbered k) + 1) * (2 + 1))
    < most_moves
few_in zero = omega arith
few_in (suc zero) = omega arith
few_in (suc (suc k)) = omega arith

together : StartTogether store now
unfolding can in_order
together = record {
  names = names_now;
  can = can;
  order = in_order;
  waits = λ m inside. waits_in m.0 inside;
  own = λ m a inside there. own_in m.0 a.0 inside;
  at = λ m a there far. refl;
  few = λ m. few_in m.0;
}

once_in : (k : ℕ) → times (numbered k) (p ∷ q ∷ []) ≡ one_if (nat_lt k 2)
once_in zero = refl
once_in (suc zero) = refl
once_in (suc (suc k)) =
    (λ i. length (cond (first i) (p ∷ cond (second i) (q ∷ []) []) (cond (second i) (q ∷ []) []))) ∙ sym (ap one_if (past_two k))
  where
    first : (0 == suc (suc k)) ≡ false
    first = ne_eqb 0 (suc (suc k)) (λ is. omega (arith, is))

    second : (1 == suc (suc k)) ≡ false
    second = ne_eqb 1 (suc (suc k)) (λ is. omega (arith, is))

-- the second boot, by which both come up
abbrev waiting : LiveSimView
waiting = made_by (call.Step (event.Boot p)) live

comes_to_an_end : ends_with (net_in waiting) (event.Boot q) waiting ≡ true
unfolding is_acted acted is_quiet_at_once acted_at_once controller_start controller_stop controller_permit controller_top_ends controller_do_start controller_change controller_received controller_spawn_starter controller_reply_to_requester controller_has_started controller_start_reply dist_finish dist_runs_elsewhere dist_take_over dist_permit dist_get_nodes dist_start_here dist_is_to_start dist_find_start_node dist_start_distributed dist_start_appl dist_check_waiting dist_node_down dist_introduced_to dist_handle_next dist_del_t_reqs dist_run dist_answer_ends dist_not_run dist_stopped dist_new_node dist_answer_permits dist_app_started dist_app_stopped dist_weight_told dist_restart dist_new_permission net_to_connect node_controlled_by node_terminated_by node_handled_by node_introduced_by system_lock_call system_wait_for_lock system_behind_sync system_go_on_call system_call_received system_connect system_delivered system_slowed system_waited_for system_booted system_called system_fired_next system_ticked system_is_ticked system_down_told system_taken_down system_ended system_stopped system_join system_has_seen system_boot_next system_made system_rested system_forgotten system_told system_after system_take_lock system_gone system_handled system_work system_mailed
comes_to_an_end = refl

start : IsWholeStart store files FirstComes (p ∷ []) q
start = record {
  within = within;
  later = subst FailOverLater (sym held_so) (λ n. later_of n.0);
  together = subst (StartTogether store) (sym held_so) together;
  some = λ is. (let none : 1 ≡ 0 = ap length is in omega (arith, none));
  once = λ m. once_in m.0;
  ends = comes_to_an_end;
}

alike : IsStartedAlike (p ∷ []) q (opened store First) live
alike = whole_starts_alike store First files FirstComes (p ∷ []) q start
