-- Worked rows: of two nodes that wait for each other the first begins, and then the second, the last one. The first doesn't boot one of the
-- applications. So the law is about something. Both tell the same lines, but not in the same order.
use Rattle.std.specs.Prelude.{All}
use Rattle.std.proofs.Common.{◌≡◌, ◌≢◌, ◌<◌, ◌≤◌, ◌-◌, ◌^◌, ◌==◌, ◌||◌, nat_lt, ℕ, zero, suc, true, false, not, List, [], ◌∷◌, filter, length, Some, None, refl, sym, ap, subst, ◌∙◌, arith}
use Rattle.std.proofs.lemmas.Bool.{false≢true, ne_eqb, ltb-true, false_from_ne_true}
use Rattle.std.proofs.lemmas.List.Elements.{All-nil, All-cons}
use Rattle.std.proofs.lemmas.Option.{none-some}
use Rattle.rh_model.specs.ClusterView.{boot_of, numbered, app_numbered}
use Rattle.rh_model.specs.declared.node.App.{App}
use Rattle.rh_model.specs.declared.node.Node.{Node}
use Rattle.rh_model.specs.declared.settings.Dep.TheVariants.{Listed}
use Rattle.rh_state.specs.declared.status.Kind.TheVariants as kind
use Rattle.rh_state.specs.declared.status.Mode.TheVariants as mode
use Rattle.rh_state.specs.declared.status.Standing.TheVariants as standing
use Rattle.rh_state.specs.First.{configured, first}
use Rattle.rh_state.specs.Numbers.{nodes_of, apps_of}
use Rattle.rh_state.specs.StateView.{StateView, standing_of}
use Rattle.rh_rules.specs.declared.event.Event.TheVariants as event
use Rattle.rh_rules.specs.declared.notice.Notice.TheVariants as notice
use Rattle.rh_rules.specs.declared.pick.Pick.TheVariants.{First}
use Rattle.rh_rules.specs.Course.{is_local}
use Rattle.rh_rules.specs.Marking.{with_mark, mark_all}
use Rattle.rh_rules.specs.Moves.{can_start, local_moves, placements, calls_away, takeovers}
use Rattle.rh_rules.specs.NodesStart.{all_alive, is_ready, booted, come_up, come_up_if_ready, ready_come_up}
use Rattle.rh_rules.specs.Placing.{deps_run, is_operational, best, candidates}
use Rattle.rh_rules.specs.Refusals.{refused}
use Rattle.rh_rules.specs.Settling.{next_moves, moved_by, all_moved}
use Rattle.rh_rules.specs.Steps.{followed, next}
use Rattle.rh_calls.specs.declared.call.Call.TheVariants as call
use Rattle.rh_step.specs.Runs.{step}
use Rattle.rh_step_laws.specs.Laws.{boots}
use Rattle.rh_start_laws.specs.Starts.{start_told}
use Rattle.rh_start_laws.proofs.RowsCluster.{p, q, log, web}
use Rattle.rh_trail.specs.Lone.{Served, served, opened, with_event, trail_limit}
use Rattle.rh_trail.specs.SimView.{SimView}
use Rattle.rh_otp_model.specs.declared.process.StartType.TheVariants.{Normal}
use Rattle.rh_otp_model.specs.Own.{controls}
use Rattle.rh_otp_net.specs.declared.order.Order.TheVariants.{FirstComes}
use Rattle.rh_otp_node.specs.declared.node.Phase.TheVariants as phase
use Rattle.rh_otp_node.specs.Live.{LiveView, never_begun, begun}
use Rattle.rh_otp_sim.specs.declared.lines.Answer.TheVariants.{Told}
use Rattle.rh_otp_sim.specs.declared.lines.Line.TheVariants as line
use Rattle.rh_otp_sim.specs.declared.stepping.Outcome.TheVariants as outcome
use Rattle.rh_otp_sim.specs.declared.verdict.Verdict.TheVariants as verdict
use Rattle.rh_otp_sim.specs.Acting.{acted, is_acted, acted_at_once, is_quiet_at_once, most_moves}
use Rattle.rh_otp_sim.specs.Calls.{made_by}
use Rattle.rh_otp_sim.specs.Refusing.{phase_in}
use Rattle.rh_otp_sim.specs.Sim.{LiveSimView, net_in}
use Rattle.rh_otp_sim.specs.Sim.{opened as live_opened}
use Rattle.rh_otp_sim.specs.Stepping.{cells_behind, with_step, ends_with, outcome_with}
use Rattle.rh_otp_system.specs.declared.cell.Cell.TheVariants as cell
use Rattle.rh_otp_system.specs.declared.slow.Answered.{Answered}
use Rattle.rh_otp_system.specs.Doing.{booted as live_booted}
use Rattle.rh_otp_system.specs.Moves.{Reaches, settled, is_settled_by}
use Rattle.rh_otp_system.specs.State.{SystemView, live_at, own_at, has_dist_at, is_alive_at}
use Rattle.rh_otp_system.proofs.Moving.{settles}
use Rattle.rh_otp_controller.specs.Calls.{start as controller_start, stop as controller_stop, permit as controller_permit, top_ends as controller_top_ends}
use Rattle.rh_otp_controller.specs.Changes.{do_start as controller_do_start, change as controller_change, received as controller_received}
use Rattle.rh_otp_controller.specs.Starting.{spawn_starter as controller_spawn_starter, reply_to_requester as controller_reply_to_requester, has_started as controller_has_started, start_reply as controller_start_reply}
use Rattle.rh_otp_dist.specs.Attempts.{finish as dist_finish, runs_elsewhere as dist_runs_elsewhere}
use Rattle.rh_otp_dist.specs.Calls.{take_over as dist_take_over, permit as dist_permit, get_nodes as dist_get_nodes}
use Rattle.rh_otp_dist.specs.Choosing.{start_here as dist_start_here, is_to_start as dist_is_to_start, find_start_node as dist_find_start_node, start_distributed as dist_start_distributed, start_appl as dist_start_appl}
use Rattle.rh_otp_dist.specs.Down.{check_waiting as dist_check_waiting, node_down as dist_node_down}
use Rattle.rh_otp_dist.specs.Outside.{introduced_to as dist_introduced_to}
use Rattle.rh_otp_dist.specs.Received.{handle_next as dist_handle_next}
use Rattle.rh_otp_dist.specs.Sending.{del_t_reqs as dist_del_t_reqs}
use Rattle.rh_otp_dist.specs.Told.{run as dist_run, answer_ends as dist_answer_ends, not_run as dist_not_run, stopped as dist_stopped, new_node as dist_new_node, answer_permits as dist_answer_permits, app_started as dist_app_started, app_stopped as dist_app_stopped, weight_told as dist_weight_told, restart as dist_restart, new_permission as dist_new_permission}
use Rattle.rh_otp_net.specs.Links.{to_connect as net_to_connect}
use Rattle.rh_otp_node.specs.Turns.{controlled_by as node_controlled_by, terminated_by as node_terminated_by, handled_by as node_handled_by, introduced_by as node_introduced_by}
use Rattle.rh_otp_system.specs.Calling.{lock_call as system_lock_call, wait_for_lock as system_wait_for_lock, behind_sync as system_behind_sync, go_on_call as system_go_on_call, call_received as system_call_received}
use Rattle.rh_otp_system.specs.Connecting.{connect as system_connect}
use Rattle.rh_otp_system.specs.Delivering.{delivered as system_delivered, slowed as system_slowed}
use Rattle.rh_otp_system.specs.Doing.{waited_for as system_waited_for, booted as system_booted, called as system_called, fired_next as system_fired_next, ticked as system_ticked, is_ticked as system_is_ticked}
use Rattle.rh_otp_system.specs.Ending.{down_told as system_down_told, taken_down as system_taken_down, ended as system_ended, stopped as system_stopped}
use Rattle.rh_otp_system.specs.Joining.{join as system_join, has_seen as system_has_seen, boot_next as system_boot_next}
use Rattle.rh_otp_system.specs.Moves.{made as system_made}
use Rattle.rh_otp_system.specs.Resting.{rested as system_rested, forgotten as system_forgotten}
use Rattle.rh_otp_system.specs.Sending.{told as system_told, after as system_after}
use Rattle.rh_otp_system.specs.Working.{take_lock as system_take_lock, gone as system_gone, handled as system_handled, work as system_work, mailed as system_mailed}
use Rattle.rh_otp_laws.specs.Acting.{IsThere, new}
use Rattle.rh_otp_together.specs.Together.{IsBefore, InOrder, distributed_of, boots_at, strangers_of}
use Rattle.rh_otp_together.proofs.Sharing.{few_left_to_one}
use Rattle.rh_otp_colds.specs.Colds.{is_there, IsColdStart}
use Rattle.rh_otp_colds.specs.Wholes.{may_start, first_runner, CanStartTogether, IsLeft}
use Rattle.rh_otp_colds.proofs.Boot.{colds_go_on}
use Rattle.rh_otp_colds.proofs.Meanwhile.{still_cold}
use Rattle.rh_agreement.specs.Telling.{GoTogether}
use Rattle.rh_agreement.specs.Laws.{HasRoom}
use Rattle.rh_agreement.specs.Resting.{AreBothAtRest, AreAlwaysAtRest, held}
use Rattle.rh_agreement.proofs.AtFirst.{begin_at_rest}
use Rattle.rh_agreement.proofs.Beginning.{begin_together}
use Rattle.rh_agreement.proofs.Stepping.{manual}
use Rattle.rh_agreement_boots.specs.Boots.{BeginsToWait, IsBootedAlike}
use Rattle.rh_agreement_boots.proofs.Alone.{first_alike}
use Rattle.rh_agreement_colds.specs.Colds.{IsAnsweredInSomeOrder, StartsCold}
use Rattle.rh_agreement_colds.proofs.Calls.{cold_alike}
use Rattle.rh_agreement_colds.proofs.RowsFiles.{file, files, fresh, is_new, names, later_of}
use Rattle.rh_agreement_colds.proofs.RowsStrangers.{db, store, within, runner_of, in_order}

-- ---- the first begins to wait

abbrev sim : SimView
sim = opened store First

abbrev live : LiveSimView
live = live_opened store files FirstComes

together : GoTogether sim live
together = begin_together store First files FirstComes

always : AreAlwaysAtRest sim live
unfolding system_forgotten
always = begin_at_rest store First files FirstComes within (λ n. later_of n.0)

room : HasRoom sim live
room = record { steps = omega arith; calls = omega arith }

all_down : (k : ℕ) → phase_in live (numbered k) ≡ phase.Down
all_down zero = refl
all_down (suc zero) = refl
all_down (suc (suc zero)) = refl
all_down (suc (suc (suc k))) = refl

begins : BeginsToWait p sim live
unfolding system_forgotten all_alive is_ready booted
begins = record {
  alone = λ m. all_down m.0;
  waits = refl;
  live_waits = tt;
  others = refl;
  there = λ inside. (never_begun, refl);
}

first_row : IsBootedAlike p sim live
first_row = first_alike sim live p together room always.now begins

-- ---- by the manual's rules

abbrev sim_then : SimView
sim_then = (served sim (call.Step (event.Boot p))).sim

abbrev sim_waits : SimView
sim_waits = with_event sim (event.Boot p)

abbrev state_then : StateView
state_then = record (first store) { modes = mode.Waiting ∷ mode.Down ∷ []; incarnations = 1 ∷ 0 ∷ [] }

state_is : step First (first store) (event.Boot p) ≡ state_then
unfolding step booted come_up mark_all with_mark nodes_of apps_of all_alive is_ready come_up_if_ready ready_come_up is_operational deps_run best candidates can_start local_moves placements calls_away takeovers next_moves moved_by all_moved followed next configured
state_is = refl

not_refused : refused (first store) (event.Boot p) ≡ None
unfolding refused
not_refused = refl

sim_is : sim_then ≡ sim_waits
sim_is = ap (λ (v : Served). v.sim) (manual sim (event.Boot p) not_refused (omega arith))

none_stands : (k : ℕ) → standing_of state_then (app_numbered k) ≡ standing.Quiet
none_stands zero = refl
none_stands (suc zero) = refl
none_stands (suc (suc zero)) = refl
none_stands (suc (suc (suc k))) = refl

-- ---- and on live nodes

abbrev live_then : LiveSimView
live_then = made_by (call.Step (event.Boot p)) live

abbrev waiting_node : LiveView
waiting_node = begun store file.own p never_begun

abbrev last : SystemView
last = record {
  cluster = store;
  files = files;
  nodes = record {
    base = cell.Node never_begun ∷ cell.Node never_begun ∷ cell.Net (net_in live) ∷ [];
    cells = cell.Node waiting_node ∷ cell.Node never_begun ∷ cell.Net (net_in live) ∷ [];
  };
  clock = 0;
  step = 1;
  last_call = 0;
  alive = p ∷ [];
  links = [];
  locks = [];
  timers = [];
  calls = [];
  asleep = [];
  told = [];
  messages = [];
  slow = [];
  answers = [];
  events = [];
  is_ticking = false;
  ends_soon = true;
}

abbrev live_waits : LiveSimView
live_waits = with_step (cells_behind (net_in live) 2 last) live

live_is : live_then ≡ live_waits
unfolding acted acted_at_once is_acted is_quiet_at_once system_forgotten system_rested system_booted system_waited_for system_after
live_is = refl

-- ---- it is a cold start

record Waits : Type 0 where
  uncounted : (live_booted p fresh).answers ≡ []
  ends : is_settled_by most_moves FirstComes (live_booted p fresh) ≡ true
  is : settled most_moves FirstComes (live_booted p fresh) ≡ last

waits : Waits
unfolding system_booted system_waited_for system_after
waits = record { uncounted = refl; ends = refl; is = refl }

cold_last : IsColdStart last
cold_last =
    subst IsColdStart waits.is
    ((colds_go_on.next fresh p q (new fresh is_new) (colds_go_on.first fresh is_new names) (never_begun, refl) refl (never_begun, refl) refl
    (λ is. omega (arith, is))).1
    (settled most_moves FirstComes (live_booted p fresh))
    (subst (λ (l : List Answered). Reaches (record (live_booted p fresh) { answers = l })
    (settled most_moves FirstComes (live_booted p fresh))) (sym waits.uncounted) (settles most_moves FirstComes (live_booted p fresh)).0)
    ((settles most_moves FirstComes (live_booted p fresh)).1 waits.ends))

nodes_same : (k : ℕ) → live_at (held live_waits) (numbered k) ≡ live_at last (numbered k)
unfolding system_forgotten
nodes_same zero = refl
nodes_same (suc zero) = refl
nodes_same (suc (suc zero)) = refl
nodes_same (suc (suc (suc k))) = refl

cold : IsColdStart (held live_waits)
unfolding system_forgotten
cold =
    still_cold last (held live_waits)
    (record {
      cluster = refl;
      files = refl;
      nodes = λ m. nodes_same m.0;
      alive = refl;
      links = refl;
      locks = refl;
      messages = refl;
      slow = refl;
      calls = refl;
    }) cold_last

-- ---- the nodes can start together

abbrev now : SystemView
now = held live_waits

-- what is so of the two is so of all that are there
of_two : (P : Node → Type 0) → P p → P q → (k : ℕ) → IsThere (numbered k) now → P (numbered k)
unfolding system_forgotten
of_two P one two zero there = one
of_two P one two (suc zero) there = two
of_two P one two (suc (suc zero)) there = absurd (none-some there.0 there.1)
of_two P one two (suc (suc (suc k))) there = absurd (none-some there.0 there.1)

nodes_so : (k : ℕ) → is_there now (numbered k) ≡ nat_lt k 2
unfolding system_forgotten
nodes_so zero = refl
nodes_so (suc zero) = refl
nodes_so (suc (suc zero)) = refl
nodes_so (suc (suc (suc k))) =
    sym (false_from_ne_true _ (λ is. (let less : suc (suc (suc k)) < 2 = ltb-true (suc (suc (suc k))) 2 is in omega (arith, less))))

ordered : (m : Node) → m.0 < 2 → IsThere m now → InOrder now m [] (boot_of store m)
unfolding system_forgotten
ordered m less there =
    of_two (λ (n : Node). InOrder now n [] (boot_of store n)) (
      refl,
      All-nil (IsBefore now p []),
      λ out. refl,
      (refl, All-cons (IsBefore now p (log ∷ [])) (Listed log) [] refl (All-nil (IsBefore now p (log ∷ []))), λ out. refl, tt),
    ) (
      refl,
      All-nil (IsBefore now q []),
      λ out. refl,
      (
        refl,
        All-cons (IsBefore now q (log ∷ [])) (Listed log) [] refl (All-nil (IsBefore now q (log ∷ []))),
        λ out. refl,
        (refl, All-nil (IsBefore now q (web ∷ log ∷ [])), λ out. refl, tt),
      ),
    )
    m.0 there

abbrev RunsThere : App → Type 0
RunsThere a = (boots_at now (runner_of a) a ≡ true) × (may_start now (runner_of a) a ≡ true)

abbrev IsFirst : Node → App → Type 0
IsFirst m a = boots_at now m a ≡ true → first_runner now m a ≡ Some (runner_of a)

both_apps : (P : App → Type 0) → P web → P db → All P (web ∷ db ∷ [])
both_apps P one two = All-cons P web (db ∷ []) one (All-cons P db [] two (All-nil P))

can : CanStartTogether now
unfolding system_forgotten
can = record {
  nodes = λ m. nodes_so m.0;
  has_dist = λ m there. of_two (λ (n : Node). has_dist_at now n ≡ true) refl refl m.0 there;
  in_order = λ m there. ordered m (of_two (λ (n : Node). n.0 < 2) (omega arith) (omega arith) m.0 there) there;
  short = λ m there. of_two (λ (n : Node). length (boot_of store n) < 2 ^ 64 - 1) (omega arith) (omega arith) m.0 there;
  apps = web ∷ db ∷ [];
  distributed = λ m there.
      of_two (λ (n : Node). distributed_of (own_at now n) (boot_of store n) ≡ filter (boots_at now n) (web ∷ db ∷ [])) refl refl m.0 there;
  strangers = λ m there. few_left_to_one runner_of (strangers_of now m (web ∷ db ∷ []))
      (of_two (λ (n : Node). length (strangers_of now n (web ∷ db ∷ [])) ≤ 1) (omega arith) (omega arith) m.0 there);
  at = runner_of;
  runners = both_apps RunsThere (refl, refl) (refl, refl);
  first = λ m there.
      of_two (λ (n : Node). All (IsFirst n) (web ∷ db ∷ [])) (both_apps (IsFirst p) (λ boots. refl) (λ boots. refl))
      (both_apps (IsFirst q) (λ boots. refl) (λ boots. refl)) m.0 there;
}

-- the first node doesn't boot db
lacks_db : strangers_of now p can.apps ≡ db ∷ []
unfolding can system_forgotten
lacks_db = refl

left : IsLeft q now
unfolding system_forgotten
left = record {
  there = (never_begun, refl);
  down = refl;
  others = λ m there apart. of_two (λ (n : Node). n.0 ≢ 1 → is_alive_at now n ≡ true) (λ other. refl) (λ other. absurd (other refl)) m.0
      there apart;
  other = p;
  alive = refl;
}

-- the first node boots two applications, and no other one; and the second one three
two_booted : (k : ℕ) → (suc (suc k) == 0 || (suc (suc k) == 1 || false)) ≡ true → ⊥
two_booted k is =
    false≢true
    (sym (λ i. ne_eqb (suc (suc k)) 0 (λ same. omega (arith, same)) i || (ne_eqb (suc (suc k)) 1 (λ same. omega (arith, same)) i || false))
    ∙ is)

three_booted : (k : ℕ) → (suc (suc (suc k)) == 0 || (suc (suc (suc k)) == 1 || (suc (suc (suc k)) == 2 || false))) ≡ true → ⊥
three_booted k is =
    false≢true
    (sym (λ i. ne_eqb (suc (suc (suc k))) 0 (λ same. omega (arith, same)) i || (ne_eqb (suc (suc (suc k))) 1 (λ same. omega (arith, same)) i
    || (ne_eqb (suc (suc (suc k))) 2 (λ same. omega (arith, same)) i || false)))
    ∙ is)

-- the files are the same on both sides
own_so : (j k : ℕ) → j < 2 → boots store (numbered j) (app_numbered k) ≡ true
    → controls (own_at now (numbered j)) (app_numbered k) ≡ not (is_local store (app_numbered k))
unfolding system_forgotten
own_so zero zero less is = refl
own_so zero (suc zero) less is = refl
own_so zero (suc (suc k)) less is = absurd (two_booted k is)
own_so (suc zero) zero less is = refl
own_so (suc zero) (suc zero) less is = refl
own_so (suc zero) (suc (suc zero)) less is = refl
own_so (suc zero) (suc (suc (suc k))) less is = absurd (three_booted k is)
own_so (suc (suc j)) k less is = absurd (omega (arith, less))

at_so : (a : App) → (in_order.at a).0 ≡ (can.at a).0
unfolding in_order can
at_so a = refl

ends : ends_with (net_in live_waits) (event.Boot q) live_waits ≡ true
unfolding is_acted acted is_quiet_at_once acted_at_once controller_start controller_stop controller_permit controller_top_ends controller_do_start controller_change controller_received controller_spawn_starter controller_reply_to_requester controller_has_started controller_start_reply dist_finish dist_runs_elsewhere dist_take_over dist_permit dist_get_nodes dist_start_here dist_is_to_start dist_find_start_node dist_start_distributed dist_start_appl dist_check_waiting dist_node_down dist_introduced_to dist_handle_next dist_del_t_reqs dist_run dist_answer_ends dist_not_run dist_stopped dist_new_node dist_answer_permits dist_app_started dist_app_stopped dist_weight_told dist_restart dist_new_permission net_to_connect node_controlled_by node_terminated_by node_handled_by node_introduced_by system_lock_call system_wait_for_lock system_behind_sync system_go_on_call system_call_received system_connect system_delivered system_slowed system_waited_for system_booted system_called system_fired_next system_ticked system_is_ticked system_down_told system_taken_down system_ended system_stopped system_join system_has_seen system_boot_next system_made system_rested system_forgotten system_told system_after system_take_lock system_gone system_handled system_work system_mailed
ends = refl

starts : StartsCold q sim_waits live_waits
starts = record {
  quiet = λ a. ap (λ (s : StateView). standing_of s a) state_is ∙ none_stands a.0;
  order = in_order;
  cold = cold;
  can = can;
  left = left;
  untold = refl;
  ends = ends;
  own = λ m a less is. own_so m.0 a.0 less is;
  at = λ m a is spread. at_so a;
}

starts_then : StartsCold q sim_then live_then
starts_then = subst (λ (s : SimView). StartsCold q s live_then) (sym sim_is) (subst (StartsCold q sim_waits) (sym live_is) starts)

room_then : HasRoom sim_then live_then
room_then = record {
  steps = subst (λ (s : SimView). s.cursor < trail_limit) (sym sim_is) (omega arith);
  calls = subst (λ (l : LiveSimView). (net_in l).last_call < 4000000000) (sym live_is) (omega arith);
}

-- so the law is of it
row : IsAnsweredInSomeOrder (call.Step (event.Boot q)) sim_then live_then
    × GoTogether (served sim_then (call.Step (event.Boot q))).sim (made_by (call.Step (event.Boot q)) live_then)
    × AreBothAtRest (served sim_then (call.Step (event.Boot q))).sim (made_by (call.Step (event.Boot q)) live_then)
row = cold_alike sim_then live_then q first_row.1 room_then first_row.2 starts_then

-- ---- and the order of lines isn't the same

-- By the manual's rules nodes come up in node order.
manual_row : start_told store in_order.at ≡ notice.Up p ∷ notice.Up q ∷ notice.Started log p kind.Normal None
    ∷ notice.Started log q kind.Normal None ∷ notice.Started web p kind.Normal None ∷ notice.Started db q kind.Normal None
    ∷ notice.Waits web q ∷ []
unfolding in_order nodes_of apps_of
manual_row = refl

-- On live nodes that take messages in the order in which they come the one that began last is up first.
lines_row : outcome_with (net_in live_waits) (event.Boot q) live_waits ≡ outcome.Done (record {
  answer = Told verdict.Done;
  lines = line.Up q ∷ line.Up p ∷ line.Started log q Normal ∷ line.Started log p Normal ∷ line.Started web p Normal
      ∷ line.Started db q Normal ∷ line.Waits web q ∷ [];
})
unfolding is_acted acted is_quiet_at_once acted_at_once controller_start controller_stop controller_permit controller_top_ends controller_do_start controller_change controller_received controller_spawn_starter controller_reply_to_requester controller_has_started controller_start_reply dist_finish dist_runs_elsewhere dist_take_over dist_permit dist_get_nodes dist_start_here dist_is_to_start dist_find_start_node dist_start_distributed dist_start_appl dist_check_waiting dist_node_down dist_introduced_to dist_handle_next dist_del_t_reqs dist_run dist_answer_ends dist_not_run dist_stopped dist_new_node dist_answer_permits dist_app_started dist_app_stopped dist_weight_told dist_restart dist_new_permission net_to_connect node_controlled_by node_terminated_by node_handled_by node_introduced_by system_lock_call system_wait_for_lock system_behind_sync system_go_on_call system_call_received system_connect system_delivered system_slowed system_waited_for system_booted system_called system_fired_next system_ticked system_is_ticked system_down_told system_taken_down system_ended system_stopped system_join system_has_seen system_boot_next system_made system_rested system_forgotten system_told system_after system_take_lock system_gone system_handled system_work system_mailed
lines_row = refl
