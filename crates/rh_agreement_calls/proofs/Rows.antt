-- Worked rows: a node that has booted an application meets all that the laws ask. It is stopped there, forbidden, and ends by itself.
use Rattle.std.proofs.Common.{◌≡◌, ◌≢◌, ◌<◌, ◌≤◌, ◌&&◌, ◌∙◌, ℕ, zero, suc, true, false, not, None, Some, IsSome, [], ◌∷◌, length, slice_get, AllPairs, refl, sym, ap, subst, arith}
use Rattle.std.specs.Prelude.{All}
use Rattle.std.proofs.lemmas.Option.{none-some, same_Some}
use Rattle.std.proofs.lemmas.List.Elements.{All-nil, All-cons}
use Rattle.rh_model.specs.ClusterView.{ClusterView, NodeView, IsWithin, app_count, numbered, app_numbered, mandatory_of, optional_of, sync_wait_of, boot_of, deps_of, is_listed_at, spread_of, dep_name}
use Rattle.rh_model.specs.Limits.{IsWithinLimit}
use Rattle.rh_model.specs.declared.node.App.{App}
use Rattle.rh_model.specs.declared.node.Node.{Node}
use Rattle.rh_model.specs.declared.settings.Dep.{Dep}
use Rattle.rh_model.specs.declared.settings.Restart.{Restart}
use Rattle.rh_model.specs.declared.settings.Restart.TheVariants.{Temporary}
use Rattle.rh_model.proofs.PlainNode.{plain_node}
use Rattle.rh_rules.specs.declared.event.Event.TheVariants as event
use Rattle.rh_rules.specs.declared.pick.Pick.TheVariants.{First}
use Rattle.rh_rules.specs.ByHand.{ends_node}
use Rattle.rh_rules.specs.Course.{is_local}
use Rattle.rh_rules.specs.Marking.{mark_all, with_mark}
use Rattle.rh_rules.specs.Moves.{local_moves, placements, takeovers, can_start}
use Rattle.rh_rules.specs.NodesStart.{all_alive, is_ready, come_up, come_up_if_ready, ready_come_up, booted}
use Rattle.rh_rules.specs.Placing.{deps_run}
use Rattle.rh_rules.specs.Refusals.{refused}
use Rattle.rh_rules.specs.Settling.{next_moves, moved_by, all_moved}
use Rattle.rh_rules.specs.Steps.{followed, next}
use Rattle.rh_state.specs.declared.status.Mode.TheVariants as mode
use Rattle.rh_state.specs.First.{first, configured}
use Rattle.rh_state.specs.Numbers.{nodes_of, apps_of}
use Rattle.rh_state.specs.Limits.{incarnation_limit}
use Rattle.rh_state.specs.StateView.{StateView, mode_of, incarnation_of, runs_at, is_allowed, restart_of}
use Rattle.rh_step.specs.Runs.{step}
use Rattle.rh_step.proofs.FirstStates.{first_valid}
use Rattle.rh_step.proofs.Validity.{next_valid}
use Rattle.rh_trace.specs.Validity.{IsValid}
use Rattle.rh_trail.specs.Lone.{opened, with_event}
use Rattle.rh_trail.specs.SimView.{SimView, state_of}
use Rattle.rh_otp_controller.specs.declared.state.Place.TheVariants.{Here}
use Rattle.rh_otp_controller.specs.Calls.{start}
use Rattle.rh_otp_controller.specs.Changes.{received}
use Rattle.rh_otp_controller.specs.Starting.{spawn_starter, has_started, reply_to_requester}
use Rattle.rh_otp_model.specs.declared.output.Event.TheVariants as seen
use Rattle.rh_otp_model.specs.declared.process.StartType.TheVariants.{Normal}
use Rattle.rh_otp_model.specs.declared.wait.OwnFile.{OwnFile}
use Rattle.rh_otp_model.specs.declared.wait.Wait.TheVariants as wait
use Rattle.rh_otp_model.specs.Own.{EntryView}
use Rattle.rh_otp_net.specs.declared.order.Order.TheVariants.{FirstComes}
use Rattle.rh_otp_node.specs.declared.node.Phase.TheVariants as phase
use Rattle.rh_otp_node.specs.Live.{LiveView, never_begun, is_ending}
use Rattle.rh_otp_node.specs.Turns.{controlled_by}
use Rattle.rh_otp_sim.specs.Refusing.{node_in, phase_in, life_in}
use Rattle.rh_otp_sim.specs.Acting.{most_moves}
use Rattle.rh_otp_sim.specs.Sim.{LiveSimView, net_in, first_net}
use Rattle.rh_otp_sim.specs.Sim.{opened as live_opened}
use Rattle.rh_otp_sim.specs.Stepping.{cells_behind, with_step}
use Rattle.rh_otp_system.specs.declared.cell.Cell.TheVariants as cell
use Rattle.rh_otp_system.specs.Delivering.{delivered, slowed}
use Rattle.rh_otp_system.specs.Doing.{booted as system_booted}
use Rattle.rh_otp_system.specs.Joining.{join, boot_next}
use Rattle.rh_otp_system.specs.Moves.{made, settled}
use Rattle.rh_otp_system.specs.Resting.{forgotten, rested}
use Rattle.rh_otp_system.specs.Sending.{told}
use Rattle.rh_otp_system.specs.State.{SystemView, node_at, own_at, is_alive_at}
use Rattle.rh_otp_laws.specs.Acting.{Acts, IsReached, later, acts, begins, rests}
use Rattle.rh_otp_laws.proofs.Commands.{commands_reached}
use Rattle.rh_agreement.specs.Telling.{TellTheSame, GoTogether, mode_of_phase}
use Rattle.rh_agreement.specs.Laws.{HasRoom}
use Rattle.rh_agreement.specs.Resting.{AreBothAtRest, AreAlwaysAtRest, held}
use Rattle.rh_agreement.proofs.Always.{then_rest}
use Rattle.rh_agreement.proofs.Beginning.{begin_together}
use Rattle.rh_agreement.proofs.Rest.{IsOver, rests_again, reached_again}
use Rattle.rh_agreement.proofs.AtFirst.{first_rest, begin_at_rest}
use Rattle.rh_agreement.proofs.Stepping.{one_more}
use Rattle.rh_agreement_calls.specs.Stops.{RunsAlone, KeepsNodes, IsStoppedAlike}
use Rattle.rh_agreement_calls.proofs.StopAlike.{stops_are_alike, forbids_are_alike, exits_are_alike}

abbrev pub a : Node
a = numbered 0

abbrev pub web : App
web = app_numbered 0

-- one node, which waits for nobody and boots the one application
abbrev pub shop : ClusterView
shop = record {
  profile = 2;
  node_names = (97 ∷ []) ∷ [];
  app_names = (119 ∷ []) ∷ [];
  platform_names = [];
  nodes = record plain_node { boot = (web, Temporary) ∷ []; permissions = true ∷ [] } ∷ [];
  apps = record { deps = []; start_arg = None; phases = false; spread = None } ∷ [];
}

abbrev pub file : OwnFile
file = record { own = record { has_dist = false; entries = [] }; wait = wait.Unset }

abbrev new_sim : SimView
new_sim = opened shop First

abbrev new_live : LiveSimView
new_live = live_opened shop (file ∷ []) FirstComes

-- ---- the cluster file would be accepted

mandatory_in : (k : ℕ) → All (λ (m : Node). m.0 < 1) (mandatory_of shop (numbered k))
mandatory_in zero = All-nil (λ (m : Node). m.0 < 1)
mandatory_in (suc k) = All-nil (λ (m : Node). m.0 < 1)

optional_in : (k : ℕ) → All (λ (m : Node). m.0 < 1) (optional_of shop (numbered k))
optional_in zero = All-nil (λ (m : Node). m.0 < 1)
optional_in (suc k) = All-nil (λ (m : Node). m.0 < 1)

wait_in : (k : ℕ) → IsWithinLimit (sync_wait_of shop (numbered k))
wait_in zero = tt
wait_in (suc k) = tt

abbrev IsOfShop : App × Restart → Type 0
IsOfShop e = e.0.0 < app_count shop

boot_in : (k : ℕ) → All IsOfShop (boot_of shop (numbered k))
boot_in zero = All-cons IsOfShop (web, Temporary) [] (omega arith) (All-nil IsOfShop)
boot_in (suc k) = All-nil IsOfShop

once_in : (k : ℕ) → AllPairs (λ (e later : App × Restart). e.0.0 ≢ later.0.0) (boot_of shop (numbered k))
once_in zero = λ i j d before inside. absurd (omega (arith, before, inside))
once_in (suc k) = λ i j d before inside. absurd (omega (arith, before, inside))

abbrev MayBoot : ℕ → App × Restart → Type 0
MayBoot k e = is_listed_at shop e.0 (numbered k) ≡ true

listed_in : (k : ℕ) → All (MayBoot k) (boot_of shop (numbered k))
listed_in zero = All-cons (MayBoot 0) (web, Temporary) [] refl (All-nil (MayBoot 0))
listed_in (suc k) = All-nil (MayBoot (suc k))

lists_in : (k : ℕ) (v : NodeView) → slice_get shop.nodes k ≡ Some v → (length v.permissions ≡ 1) × (length v.platforms ≡ 0)
lists_in zero v is =
    let same = sym (same_Some _ v is) in
    (ap (λ (x : NodeView). length x.permissions) same, ap (λ (x : NodeView). length x.platforms) same)
lists_in (suc k) v is = absurd (none-some v is)

deps_none : (k : ℕ) → deps_of shop (app_numbered k) ≡ []
deps_none zero = refl
deps_none (suc k) = refl

local_in : (k : ℕ) → spread_of shop (app_numbered k) ≡ None
local_in zero = refl
local_in (suc k) = refl

within : IsWithin shop
within = record {
  profile = refl;
  some_node = omega arith;
  few_nodes = omega arith;
  few_apps = omega arith;
  few_platforms = omega arith;
  node_names = λ i j d before inside. absurd (omega (arith, before, inside));
  app_names = λ i j d before inside. absurd (omega (arith, before, inside));
  platform_names = λ i j d before inside. absurd (omega (arith, before, inside));
  nodes = refl;
  apps = refl;
  mandatory = λ n. mandatory_in n.0;
  optional = λ n. optional_in n.0;
  sync_wait = λ n. wait_in n.0;
  boot = λ n. boot_in n.0;
  boot_once = λ n. once_in n.0;
  boot_listed = λ n. listed_in n.0;
  permissions = λ k v is. (lists_in k v is).0;
  platforms = λ k v is. (lists_in k v is).1;
  deps = λ x. subst (All (λ (d : Dep). IsSome (dep_name shop d))) (sym (deps_none x.0)) (All-nil _);
  groups = λ x v is. absurd (none-some v (sym (local_in x.0) ∙ is));
  timeouts = λ x v is. absurd (none-some v (sym (local_in x.0) ∙ is));
}

-- ---- the application runs: by the manual's rules

abbrev pub state_up : StateView
state_up = record (first shop) { modes = mode.Up ∷ []; incarnations = 1 ∷ []; running = (web ∷ []) ∷ [] }

pub state_is : step First (first shop) (event.Boot a) ≡ state_up
unfolding step next followed booted is_ready all_alive come_up come_up_if_ready ready_come_up mark_all with_mark nodes_of apps_of
    local_moves placements takeovers can_start deps_run configured next_moves moved_by all_moved
state_is = refl

abbrev pub sim : SimView
sim = with_event new_sim (event.Boot a)

-- ---- and on live nodes

abbrev pub live_node : LiveView
live_node = record {
  life = 1;
  phase = phase.Up;
  is_stopped = false;
  mandatory = [];
  optional = [];
  place = 2;
  controller = record {
    running = (web, Here) ∷ [];
    starting = [];
    started = (web, Some Temporary) ∷ [];
    start_p_false = [];
    start_req = [];
    permissions = (web, true) ∷ [];
    ended = [];
    is_ending = false;
  };
  dist = None;
  kinds = (web, Normal) ∷ [];
}

abbrev last : SystemView
last = record {
  cluster = shop;
  files = file ∷ [];
  nodes = record {
    base = cell.Node never_begun ∷ cell.Net first_net ∷ [];
    cells = cell.Node live_node ∷ cell.Net first_net ∷ [];
  };
  clock = 0;
  step = 1;
  last_call = 0;
  alive = a ∷ [];
  links = [];
  locks = [];
  timers = [];
  calls = [];
  asleep = [];
  told = [];
  messages = [];
  slow = [];
  answers = [];
  events = seen.Up a ∷ seen.Started web a Normal ∷ seen.Booted a ∷ [];
  is_ticking = false;
  ends_soon = false;
}

last_is : rested (settled most_moves FirstComes (system_booted a (held new_live))) ≡ last
unfolding rested forgotten system_booted join boot_next told slowed delivered controlled_by received start spawn_starter has_started
    reply_to_requester made
last_is = refl

abbrev pub live : LiveSimView
live = with_step (cells_behind (net_in new_live) 1 last) new_live

no_timeouts : (k : ℕ) → All (λ (e : EntryView). 0 < e.timeout) (own_at (held new_live) (numbered k)).entries
unfolding forgotten
no_timeouts zero = All-nil _
no_timeouts (suc k) = All-nil _

first_at_rest : AreBothAtRest new_sim new_live
first_at_rest = first_rest shop First (file ∷ []) FirstComes within (λ n. no_timeouts n.0)

starts : Acts (held new_live) (system_booted a (held new_live))
unfolding forgotten
starts = begins (held new_live) a (never_begun, refl) refl

last_reached : IsReached last
last_reached =
    let up : SystemView = system_booted a (held new_live) in
    let over : SystemView = settled most_moves FirstComes up in
    subst IsReached last_is
    (later over (rested over)
    (commands_reached.settles_there most_moves FirstComes up
    (later (held new_live) up first_at_rest.reached (acts (held new_live) up starts))) (rests over))

alive_in : (k i : ℕ) → slice_get (a ∷ []) i ≡ Some (numbered k) → is_alive_at last (numbered k) ≡ true
alive_in k zero is = ap (λ (n : Node). is_alive_at last n) (sym (same_Some a (numbered k) is))
alive_in k (suc i) is = absurd (none-some (numbered k) is)

no_dist : (k : ℕ) → (node_at last (numbered k)).dist ≡ None
no_dist zero = refl
no_dist (suc zero) = refl
no_dist (suc (suc k)) = refl

no_end : (k : ℕ) → (is_ending (node_at last (numbered k)) && not (node_at last (numbered k)).is_stopped) ≡ false
no_end zero = refl
no_end (suc zero) = refl
no_end (suc (suc k)) = refl

nobody_in : (k : ℕ) → k ≡ 1 → is_alive_at last (numbered k) ≡ false
nobody_in k is = ap (λ (j : ℕ). is_alive_at last (numbered j)) is

is_over : IsOver new_live last
is_over = record {
  inside = omega arith;
  idle = record {
    calls = refl;
    listed = λ n among. alive_in n.0 among.0 among.1;
    dists = λ n d alive has. absurd (none-some d (sym (no_dist n.0) ∙ has));
    ends = λ n alive. no_end n.0;
  };
  reached = last_reached;
  is_quiet = (refl, refl);
  cluster = refl;
  files = refl;
  nobody = λ n there. nobody_in n.0 there;
}

-- ---- both tell the same of it, and are at rest

modes_so : (k : ℕ) → k < 1 → mode_of_phase (phase_in live (numbered k)) ≡ mode_of state_up (numbered k)
modes_so zero inside = refl
modes_so (suc k) inside = absurd (omega (arith, inside))

begun_so : (k : ℕ) → k < 1
    → (life_in live (numbered k) ≡ incarnation_of state_up (numbered k)) × (incarnation_of state_up (numbered k) ≤ incarnation_limit)
begun_so zero inside = (refl, omega arith)
begun_so (suc k) inside = absurd (omega (arith, inside))

tells : TellTheSame state_up live
tells = record {
  cluster = refl;
  clock = refl;
  modes = λ n inside. modes_so n.0 inside;
  begun = λ n inside. (begun_so n.0 inside).0;
  limited = λ n inside. (begun_so n.0 inside).1;
  cells = omega arith;
}

pub together : GoTogether sim live
together =
    one_more new_sim new_live (event.Boot a) (cells_behind (net_in new_live) 1 last) (begin_together shop First (file ∷ []) FirstComes)
    (subst (λ (s : StateView). TellTheSame s live) (sym state_is) tells)

accepted : refused (first shop) (event.Boot a) ≡ None
unfolding refused
accepted = refl

is_valid : IsValid (state_of sim)
unfolding step
is_valid = next_valid (first shop) (event.Boot a) First (first_valid shop within) accepted

at_rest : AreBothAtRest sim live
unfolding forgotten
at_rest = record {
  valid = is_valid;
  reached = reached_again new_live last is_over;
  rest = rests_again new_live last is_over;
  later = λ n. no_timeouts n.0;
}

-- now, and behind each number of steps
pub always : AreAlwaysAtRest sim live
always =
    then_rest new_sim new_live (event.Boot a) (cells_behind (net_in new_live) 1 last) (begin_together shop First (file ∷ []) FirstComes)
    (begin_at_rest shop First (file ∷ []) FirstComes within (λ n. no_timeouts n.0)) at_rest

pub room : HasRoom sim live
room = record { steps = omega arith; calls = omega arith }

-- ---- and it runs alone there

pub alone : RunsAlone a web sim live
unfolding forgotten
alone = record {
  local = ap (λ (s : StateView). is_local s.cluster web) state_is;
  own = refl;
  runs = ap (λ (s : StateView). runs_at s a web) state_is;
  live_runs = refl;
  stays = refl;
}

pub stop_row : IsStoppedAlike (event.Stop a web) a web sim live
stop_row = stops_are_alike sim live a web together room at_rest alone

permitted : is_allowed state_up a web ≡ true
unfolding configured nodes_of apps_of
permitted = refl

forbid_row : IsStoppedAlike (event.Permit a web false) a web sim live
forbid_row =
    forbids_are_alike sim live a web together room at_rest alone (ap (λ (s : StateView). is_allowed s a web) state_is ∙ permitted)

none_ends : (k : ℕ) → is_ending (node_in live (numbered k)) ≡ false
none_ends zero = refl
none_ends (suc zero) = refl
none_ends (suc (suc k)) = refl

keeps : KeepsNodes a web false sim live
keeps = record {
  keeps = ap (λ (s : StateView). ends_node (restart_of s a web) false) state_is;
  live_keeps = refl;
  stay = λ m alive. none_ends m.0;
}

-- not even where it fails, since it is temporary
exit_row : IsStoppedAlike (event.Exit a web false) a web sim live
exit_row = exits_are_alike sim live a web false together room at_rest alone keeps
