-- A tick that the law is of: of two nodes the second one must have the first one; it begins alone, waits for 5 seconds, and ends with its
-- wait, on both sides.
use Rattle.std.proofs.Common.{◌≡◌, ◌≢◌, ◌<◌, ◌+◌, ℕ, zero, suc, true, false, List, Some, None, [], ◌∷◌, length, slice_get, slice_index, AllPairs, refl, sym, ap, subst, ◌∙◌, arith}
use Rattle.std.specs.Prelude.{All}
use Rattle.std.proofs.lemmas.Bool.{false≢true}
use Rattle.std.proofs.lemmas.List.Elements.{All-nil, All-cons}
use Rattle.std.proofs.lemmas.List.Kept.{AllPairs-cons}
use Rattle.std.proofs.lemmas.Option.{none-some, same_Some}
use Rattle.rh_model.specs.ClusterView.{ClusterView, NodeView, IsWithin, app_count, numbered, mandatory_of, optional_of, sync_wait_of, boot_of, is_listed_at}
use Rattle.rh_model.specs.Limits.{IsWithinLimit}
use Rattle.rh_model.specs.declared.node.App.{App}
use Rattle.rh_model.specs.declared.node.Node.{Node}
use Rattle.rh_model.specs.declared.settings.Restart.{Restart}
use Rattle.rh_model.specs.declared.settings.SyncWait.TheVariants.{After}
use Rattle.rh_rules.specs.declared.event.Event.TheVariants as event
use Rattle.rh_rules.specs.declared.notice.Notice.{Notice}
use Rattle.rh_rules.specs.declared.notice.Notice.TheVariants as notice
use Rattle.rh_rules.specs.declared.pick.Pick.TheVariants.{First}
use Rattle.rh_rules.specs.Marking.{mark_all}
use Rattle.rh_rules.specs.Moves.{local_moves, placements, takeovers}
use Rattle.rh_rules.specs.NodesEnd.{cleared}
use Rattle.rh_rules.specs.NodesStart.{all_alive, is_ready, booted, come_up, come_up_if_ready, ready_come_up}
use Rattle.rh_rules.specs.Refusals.{refused}
use Rattle.rh_rules.specs.Settling.{next_moves, moved_by, all_moved}
use Rattle.rh_rules.specs.Steps.{next, followed}
use Rattle.rh_rules.specs.Time.{due_by}
use Rattle.rh_calls.specs.declared.call.Call.TheVariants as call
use Rattle.rh_calls.specs.declared.call.Reply.TheVariants as reply
use Rattle.rh_state.specs.declared.status.Mode.TheVariants as mode
use Rattle.rh_state.specs.declared.status.Timer.TheVariants.{Sync}
use Rattle.rh_state.specs.First.{first}
use Rattle.rh_state.specs.Numbers.{nodes_of, apps_of}
use Rattle.rh_state.specs.StateView.{StateView, earliest}
use Rattle.rh_step.specs.Runs.{step}
use Rattle.rh_trail.specs.Lone.{Served, served, opened, with_event, trail_limit}
use Rattle.rh_trail.specs.SimView.{SimView, state_of}
use Rattle.rh_otp_model.specs.declared.message.Message.TheVariants as message
use Rattle.rh_otp_model.specs.declared.process.Role.TheVariants as role
use Rattle.rh_otp_model.specs.declared.wait.OwnFile.{OwnFile}
use Rattle.rh_otp_model.specs.declared.wait.Wait.TheVariants as wait
use Rattle.rh_otp_model.specs.Own.{EntryView}
use Rattle.rh_otp_dist.specs.declared.state.Standing.TheVariants as standing
use Rattle.rh_otp_dist.specs.State.{DistView, standing_of}
use Rattle.rh_otp_net.specs.declared.order.Order.TheVariants.{FirstComes}
use Rattle.rh_otp_node.specs.declared.node.Phase.TheVariants as phase
use Rattle.rh_otp_node.specs.Live.{LiveView, never_begun, begun}
use Rattle.rh_otp_sim.specs.Acting.{most_moves, acted, acted_at_once, is_acted, is_quiet_at_once}
use Rattle.rh_otp_sim.specs.Calls.{made_by}
use Rattle.rh_otp_sim.specs.Refusing.{phase_in}
use Rattle.rh_otp_sim.specs.Sim.{LiveSimView, net_in}
use Rattle.rh_otp_sim.specs.Sim.{opened as live_opened}
use Rattle.rh_otp_sim.specs.Stepping.{cells_behind, with_step}
use Rattle.rh_otp_system.specs.declared.cell.Cell.TheVariants as cell
use Rattle.rh_otp_system.specs.Delivering.{delivered}
use Rattle.rh_otp_system.specs.Doing.{booted as system_booted, waited_for, fired_next, next_until}
use Rattle.rh_otp_system.specs.Ending.{ended, taken_down, down_told}
use Rattle.rh_otp_system.specs.Moves.{made, settled}
use Rattle.rh_otp_system.specs.Resting.{forgotten, rested, crashed}
use Rattle.rh_otp_system.specs.Sending.{after, told}
use Rattle.rh_otp_system.specs.State.{SystemView, node_at, own_at, is_alive_at}
use Rattle.rh_otp_ticks.specs.WaitsEnd.{WaitEnds}
use Rattle.rh_agreement.specs.Telling.{GoTogether}
use Rattle.rh_agreement.specs.Laws.{IsAnsweredAlike, HasRoom, ticking}
use Rattle.rh_agreement.specs.Resting.{AreAlwaysAtRest, held}
use Rattle.rh_agreement.proofs.AtFirst.{begin_at_rest}
use Rattle.rh_agreement.proofs.Beginning.{begin_together}
use Rattle.rh_agreement.proofs.Stepping.{manual}
use Rattle.rh_agreement_boots.specs.Boots.{BeginsToWait, IsBootedAlike}
use Rattle.rh_agreement_boots.proofs.Alone.{first_alike}
use Rattle.rh_agreement_ticks.specs.Passing.{PassAlike, over, wait_ends, EndsItsWait, EndsItsWaitLive, ended_at, PassesAlike}
use Rattle.rh_agreement_ticks.proofs.Ticking.{ticks_alike}

-- ---- the cluster

abbrev a : Node
a = numbered 0

abbrev b : Node
b = numbered 1

abbrev name_a : List ℕ
name_a = 97 ∷ []

abbrev name_b : List ℕ
name_b = 98 ∷ []

abbrev two : ClusterView
two = record {
  profile = 2;
  node_names = name_a ∷ name_b ∷ [];
  app_names = [];
  platform_names = [];
  nodes =
      record { mandatory = []; optional = []; sync_wait = After 5000; boot = []; permissions = []; platforms = [] }
      ∷ record { mandatory = a ∷ []; optional = []; sync_wait = After 5000; boot = []; permissions = []; platforms = [] } ∷ [];
  apps = [];
}

-- and so their own files say, which have a `distributed`, with no entry
abbrev file : OwnFile
file = record { own = record { has_dist = true; entries = [] }; wait = wait.After 5000 }

abbrev sim : SimView
sim = opened two First

abbrev live : LiveSimView
live = live_opened two (file ∷ file ∷ []) FirstComes

-- ---- the cluster file would be accepted

mandatory_in : (k : ℕ) → All (λ (m : Node). m.0 < 2) (mandatory_of two (numbered k))
mandatory_in zero = All-nil _
mandatory_in (suc zero) = All-cons (λ (m : Node). m.0 < 2) a [] (omega arith) (All-nil _)
mandatory_in (suc (suc k)) = All-nil _

optional_in : (k : ℕ) → All (λ (m : Node). m.0 < 2) (optional_of two (numbered k))
optional_in zero = All-nil _
optional_in (suc zero) = All-nil _
optional_in (suc (suc k)) = All-nil _

wait_in : (k : ℕ) → IsWithinLimit (sync_wait_of two (numbered k))
wait_in zero = omega arith
wait_in (suc zero) = omega arith
wait_in (suc (suc k)) = tt

boot_none : (k : ℕ) → boot_of two (numbered k) ≡ []
boot_none zero = refl
boot_none (suc zero) = refl
boot_none (suc (suc k)) = refl

lists_none : (k : ℕ) (v : NodeView) → slice_get two.nodes k ≡ Some v → (length v.permissions ≡ 0) × (length v.platforms ≡ 0)
lists_none zero v is =
    let same = sym (same_Some _ v is) in (ap (λ (x : NodeView). length x.permissions) same, ap (λ (x : NodeView). length x.platforms) same)
lists_none (suc zero) v is =
    let same = sym (same_Some _ v is) in (ap (λ (x : NodeView). length x.permissions) same, ap (λ (x : NodeView). length x.platforms) same)
lists_none (suc (suc k)) v is = absurd (none-some v is)

abbrev Differ : List ℕ → List ℕ → Type 0
Differ name later = name ≢ later

names_differ : Differ name_a name_b
names_differ same =
    let here : slice_index name_a 0 ≡ slice_index name_b 0 = ap (λ (name : List ℕ). slice_index name 0) same in
    omega (arith, here)

within : IsWithin two
within = record {
  profile = refl;
  some_node = omega arith;
  few_nodes = omega arith;
  few_apps = omega arith;
  few_platforms = omega arith;
  node_names = AllPairs-cons Differ name_a (name_b ∷ []) (All-cons (Differ name_a) name_b [] names_differ (All-nil (Differ name_a)))
      (AllPairs-cons Differ name_b [] (All-nil (Differ name_b)) (λ i j d before inside. absurd (omega (arith, before, inside))));
  app_names = λ i j d before inside. absurd (omega (arith, before, inside));
  platform_names = λ i j d before inside. absurd (omega (arith, before, inside));
  nodes = refl;
  apps = refl;
  mandatory = λ n. mandatory_in n.0;
  optional = λ n. optional_in n.0;
  sync_wait = λ n. wait_in n.0;
  boot = λ n. subst (All (λ (e : App × Restart). e.0.0 < app_count two)) (sym (boot_none n.0)) (All-nil _);
  boot_once = λ n.
      subst (AllPairs (λ (e later : App × Restart). e.0.0 ≢ later.0.0)) (sym (boot_none n.0))
      (λ i j d before inside. absurd (omega (arith, before, inside)));
  boot_listed = λ n. subst (All (λ (e : App × Restart). is_listed_at two e.0 n ≡ true)) (sym (boot_none n.0)) (All-nil _);
  permissions = λ k v is. (lists_none k v is).0;
  platforms = λ k v is. (lists_none k v is).1;
  deps = λ x. All-nil _;
  groups = λ x v is. absurd (none-some v is);
  timeouts = λ x v is. absurd (none-some v is);
}

-- ---- the second begins to wait

no_timeouts : (k : ℕ) → All (λ (e : EntryView). 0 < e.timeout) (own_at (held live) (numbered k)).entries
unfolding forgotten
no_timeouts zero = All-nil _
no_timeouts (suc zero) = All-nil _
no_timeouts (suc (suc k)) = All-nil _

together : GoTogether sim live
together = begin_together two First (file ∷ file ∷ []) FirstComes

always : AreAlwaysAtRest sim live
always = begin_at_rest two First (file ∷ file ∷ []) FirstComes within (λ n. no_timeouts n.0)

all_down : (k : ℕ) → phase_in live (numbered k) ≡ phase.Down
all_down zero = refl
all_down (suc zero) = refl
all_down (suc (suc zero)) = refl
all_down (suc (suc (suc k))) = refl

begins : BeginsToWait b sim live
unfolding forgotten all_alive is_ready booted
begins = record {
  alone = λ m. all_down m.0;
  waits = refl;
  live_waits = omega arith;
  others = refl;
  there = λ inside. (never_begun, refl);
}

not_refused : refused (first two) (event.Boot b) ≡ None
unfolding refused
not_refused = refl

begun_row : IsBootedAlike b sim live
begun_row = first_alike sim live b together (record { steps = omega arith; calls = omega arith }) always.now begins

-- ---- so it waits, by the manual's rules

abbrev sim_then : SimView
sim_then = (served sim (call.Step (event.Boot b))).sim

abbrev state_then : StateView
state_then = record (first two) {
  modes = mode.Down ∷ mode.Waiting ∷ [];
  incarnations = 0 ∷ 1 ∷ [];
  timers = (5000, Sync b) ∷ [];
}

state_is : step First (first two) (event.Boot b) ≡ state_then
unfolding step next followed booted is_ready all_alive come_up come_up_if_ready ready_come_up mark_all nodes_of apps_of local_moves
    placements takeovers next_moves moved_by all_moved
state_is = refl

sim_is : sim_then ≡ with_event sim (event.Boot b)
sim_is = ap (λ (s : Served). s.sim) (manual sim (event.Boot b) not_refused (omega arith))

state_so : state_of sim_then ≡ state_then
state_so = ap state_of sim_is ∙ state_is

-- ---- and on live nodes

abbrev live_then : LiveSimView
live_then = made_by (call.Step (event.Boot b)) live

abbrev waiting_node : LiveView
waiting_node = begun two file.own b never_begun

abbrev last : SystemView
last = record {
  cluster = two;
  files = file ∷ file ∷ [];
  nodes = record {
    base = cell.Node never_begun ∷ cell.Node never_begun ∷ cell.Net (net_in live) ∷ [];
    cells = cell.Node never_begun ∷ cell.Node waiting_node ∷ cell.Net (net_in live) ∷ [];
  };
  clock = 0;
  step = 1;
  last_call = 0;
  alive = b ∷ [];
  links = [];
  locks = [];
  timers =
      record { due = 5000; step = 1; to = record { role = role.KernelConfig; node = b; life = 1 }; message = message.Timeout } ∷ [];
  calls = [];
  asleep = [];
  told = [];
  messages = [];
  slow = [];
  answers = [];
  events = [];
  is_ticking = false;
  ends_soon = true;
}

abbrev live_waits : LiveSimView
live_waits = with_step (cells_behind (net_in live) 2 last) live

live_is : live_then ≡ live_waits
unfolding acted acted_at_once is_acted is_quiet_at_once forgotten rested system_booted waited_for after
live_is = refl

-- time begins to pass
abbrev awake : SystemView
awake = ticking 5000 live_waits

-- ---- its wait ends

by_rules : EndsItsWait 5000 state_then b
unfolding all_alive
by_rules = record { due = 5000; timer = refl; lacks = refl }

none_left : due_by 5000 (earliest (ended_at 5000 b state_then)) ≡ None
unfolding cleared
none_left = refl

ends_live : WaitEnds b awake
unfolding forgotten
ends_live = record { due = 5000; step = 1; next = refl; alone = refl; alive = refl; waits = refl; lacks = refl }

-- no dist_ac has an application as running anywhere
not_running : (d : DistView) (x : App) → Some waiting_node.dist ≡ Some (Some d) → standing_of d x ≡ standing.Distributed b → ⊥
not_running d x has stands = clash (sym stands ∙ ap (λ (e : DistView). standing_of e x) (sym (same_Some _ d (same_Some _ (Some d) has))))
  where
    clash : standing.Distributed b ≡ standing.Undefined → ⊥
    clash is = cc

nowhere : (k : ℕ) (d : DistView) (x : App) → is_alive_at awake (numbered k) ≡ true → (node_at awake (numbered k)).dist ≡ Some d
    → standing_of d x ≡ standing.Distributed b → ⊥
unfolding forgotten
nowhere zero d x alive has = absurd (false≢true alive)
nowhere (suc zero) d x alive has = not_running d x (ap Some has)
nowhere (suc (suc zero)) d x alive has = absurd (false≢true alive)
nowhere (suc (suc (suc k))) d x alive has = absurd (false≢true alive)

-- nobody is told
nobody_told : (crashed b awake).messages ≡ []
unfolding forgotten ended taken_down down_told told
nobody_told = refl

ends_its_wait : EndsItsWaitLive 5000 awake b
unfolding ends_live
ends_its_wait = record {
  wait = ends_live;
  in_time = omega arith;
  nowhere = λ m d x alive has. nowhere m.0 d x alive has;
  few = subst (λ (k : ℕ). k + 1 < most_moves) (sym (ap (λ l. length l) nobody_told)) (omega arith);
}

none_due : next_until 5000 (settled most_moves FirstComes (fired_next 5000 awake)) ≡ None
unfolding forgotten ended taken_down down_told told fired_next made delivered
none_due = refl

-- ---- so the law is of it

abbrev told_then : List Notice
told_then = notice.Ended b ∷ []

passes : PassAlike 5000 FirstComes state_then awake told_then
unfolding by_rules ends_its_wait ends_live
passes =
    wait_ends state_then awake b [] by_rules ends_its_wait
    (over (ended_at 5000 b state_then) (settled most_moves FirstComes (fired_next 5000 awake)) none_left none_due)

few_timers : length awake.timers ≡ 1
unfolding forgotten
few_timers = refl

passes_waits : PassesAlike 5000 sim_then live_waits told_then
passes_waits = record {
  passes = subst (λ (s : StateView). PassAlike (s.time + 5000) FirstComes s awake told_then) (sym state_so) passes;
  few = subst (λ (k : ℕ). k < most_moves) (sym few_timers) (omega arith);
}

room_then : HasRoom sim_then live_then
room_then = record {
  steps = subst (λ (s : SimView). s.cursor < trail_limit) (sym sim_is) (omega arith);
  calls = subst (λ (l : LiveSimView). (net_in l).last_call < 4000000000) (sym live_is) (omega arith);
}

passes_then : PassesAlike 5000 sim_then live_then told_then
passes_then = subst (λ (l : LiveSimView). PassesAlike 5000 sim_then l told_then) (sym live_is) passes_waits

tick_row : IsAnsweredAlike (call.Step (event.Tick 5000)) sim_then live_then
tick_row = (ticks_alike sim_then live_then 5000 told_then begun_row.1 room_then begun_row.2 passes_then).0

-- and it isn't refused
fine_then : refused state_then (event.Tick 5000) ≡ None
unfolding refused
fine_then = refl

tick_told : (served sim_then (call.Step (event.Tick 5000))).reply ≡ reply.Done told_then
tick_told =
    (ticks_alike sim_then live_then 5000 told_then begun_row.1 room_then begun_row.2 passes_then).3
    (ap (λ (s : StateView). refused s (event.Tick 5000)) state_so ∙ fine_then)
