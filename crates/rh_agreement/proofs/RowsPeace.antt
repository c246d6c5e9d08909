-- A worked row: a node that is up, and that both tell the same of, crashes at rest. So the law of crashes is about something.
use Rattle.std.proofs.Common.{◌≡◌, ◌≢◌, ◌<◌, ◌≤◌, ◌&&◌, ◌∙◌, ℕ, zero, suc, true, false, not, None, Some, [], ◌∷◌, length, slice_get, AllPairs, refl, sym, ap, subst, arith}
use Rattle.std.specs.Prelude.{All}
use Rattle.std.proofs.lemmas.Option.{none-some, same_Some}
use Rattle.std.proofs.lemmas.List.Elements.{All-nil}
use Rattle.rh_model.specs.ClusterView.{ClusterView, NodeView, IsWithin, app_count, numbered, mandatory_of, optional_of, sync_wait_of, boot_of, is_listed_at}
use Rattle.rh_model.specs.Limits.{IsWithinLimit}
use Rattle.rh_model.specs.declared.node.App.{App}
use Rattle.rh_model.specs.declared.node.Node.{Node}
use Rattle.rh_model.specs.declared.settings.Restart.{Restart}
use Rattle.rh_model.specs.declared.settings.SyncWait.TheVariants.{Unset}
use Rattle.rh_rules.specs.declared.event.Event.TheVariants as event
use Rattle.rh_rules.specs.declared.notice.Notice.TheVariants as notice
use Rattle.rh_rules.specs.declared.pick.Pick.TheVariants.{First}
use Rattle.rh_rules.specs.Marking.{mark_all}
use Rattle.rh_rules.specs.Moves.{local_moves, placements, takeovers}
use Rattle.rh_rules.specs.NodesStart.{all_alive, is_ready, come_up, come_up_if_ready, ready_come_up, booted}
use Rattle.rh_rules.specs.Refusals.{refused}
use Rattle.rh_rules.specs.Settling.{next_moves, moved_by, all_moved}
use Rattle.rh_rules.specs.Steps.{followed, next}
use Rattle.rh_calls.specs.declared.call.Call.TheVariants as call
use Rattle.rh_calls.specs.declared.call.Reply.TheVariants as reply
use Rattle.rh_state.specs.declared.status.Mode.TheVariants as mode
use Rattle.rh_state.specs.First.{first}
use Rattle.rh_state.specs.Numbers.{nodes_of, apps_of}
use Rattle.rh_state.specs.declared.status.Standing.TheVariants.{Running}
use Rattle.rh_state.specs.Limits.{incarnation_limit}
use Rattle.rh_state.specs.StateView.{StateView, mode_of, incarnation_of, standing_of}
use Rattle.rh_step.specs.Runs.{step}
use Rattle.rh_step.proofs.FirstStates.{first_valid}
use Rattle.rh_step.proofs.Validity.{next_valid}
use Rattle.rh_trace.specs.Validity.{IsValid}
use Rattle.rh_trail.specs.Lone.{served, opened, with_event}
use Rattle.rh_trail.specs.SimView.{SimView, state_of}
use Rattle.rh_otp_model.specs.declared.output.Event.TheVariants as seen
use Rattle.rh_otp_model.specs.declared.wait.OwnFile.{OwnFile}
use Rattle.rh_otp_model.specs.declared.wait.Wait.TheVariants as wait
use Rattle.rh_otp_model.specs.Own.{EntryView}
use Rattle.rh_otp_net.specs.declared.order.Order.TheVariants.{FirstComes}
use Rattle.rh_otp_node.specs.declared.node.Phase.TheVariants as phase
use Rattle.rh_otp_node.specs.Live.{LiveView, never_begun, is_ending}
use Rattle.rh_otp_sim.specs.Refusing.{phase_in, life_in}
use Rattle.rh_otp_sim.specs.Acting.{most_moves, is_acted, is_quiet_at_once}
use Rattle.rh_otp_sim.specs.Sim.{LiveSimView, net_in, first_net}
use Rattle.rh_otp_sim.specs.Sim.{opened as live_opened}
use Rattle.rh_otp_sim.specs.Stepping.{cells_behind, with_step}
use Rattle.rh_otp_system.specs.declared.cell.Cell.TheVariants as cell
use Rattle.rh_otp_system.specs.Doing.{booted as system_booted}
use Rattle.rh_otp_system.specs.Delivering.{slowed}
use Rattle.rh_otp_system.specs.Ending.{taken_down, ended}
use Rattle.rh_otp_system.specs.Joining.{join, boot_next}
use Rattle.rh_otp_system.specs.Moves.{made, settled}
use Rattle.rh_otp_system.specs.Resting.{forgotten, rested}
use Rattle.rh_otp_system.specs.Sending.{told}
use Rattle.rh_otp_system.specs.State.{SystemView, node_at, own_at, is_alive_at}
use Rattle.rh_otp_laws.specs.Acting.{Acts, IsReached, later, acts, begins, rests}
use Rattle.rh_otp_laws.proofs.Commands.{commands_reached}
use Rattle.rh_agreement.specs.Telling.{TellTheSame, GoTogether, mode_of_phase}
use Rattle.rh_agreement.specs.Laws.{IsAnsweredAlike, HasRoom}
use Rattle.rh_agreement.specs.Resting.{AreBothAtRest, StartsNothingAtOnce, held}
use Rattle.rh_agreement.proofs.Beginning.{begin_together}
use Rattle.rh_agreement.proofs.Peace.{crashes_alike}
use Rattle.rh_agreement.proofs.Rest.{IsOver, rests_again, reached_again}
use Rattle.rh_agreement.proofs.AtFirst.{first_rest}
use Rattle.rh_agreement.proofs.Stepping.{one_more}

abbrev a : Node
a = numbered 0

-- one node, which waits for nobody, and no application
abbrev lone : ClusterView
lone = record {
  profile = 2;
  node_names = (97 ∷ []) ∷ [];
  app_names = [];
  platform_names = [];
  nodes = record { mandatory = []; optional = []; sync_wait = Unset; boot = []; permissions = []; platforms = [] } ∷ [];
  apps = [];
}

abbrev file : OwnFile
file = record { own = record { has_dist = false; entries = [] }; wait = wait.Unset }

abbrev new_sim : SimView
new_sim = opened lone First

abbrev new_live : LiveSimView
new_live = live_opened lone (file ∷ []) FirstComes

-- ---- the cluster file would be accepted

mandatory_in : (k : ℕ) → All (λ (m : Node). m.0 < 1) (mandatory_of lone (numbered k))
mandatory_in zero = All-nil (λ (m : Node). m.0 < 1)
mandatory_in (suc k) = All-nil (λ (m : Node). m.0 < 1)

optional_in : (k : ℕ) → All (λ (m : Node). m.0 < 1) (optional_of lone (numbered k))
optional_in zero = All-nil (λ (m : Node). m.0 < 1)
optional_in (suc k) = All-nil (λ (m : Node). m.0 < 1)

wait_in : (k : ℕ) → IsWithinLimit (sync_wait_of lone (numbered k))
wait_in zero = tt
wait_in (suc k) = tt

boot_none : (k : ℕ) → boot_of lone (numbered k) ≡ []
boot_none zero = refl
boot_none (suc k) = refl

lists_none : (k : ℕ) (v : NodeView) → slice_get lone.nodes k ≡ Some v → (length v.permissions ≡ 0) × (length v.platforms ≡ 0)
lists_none zero v is = let same = sym (same_Some _ v is) in (ap (λ (x : NodeView). length x.permissions) same, ap (λ (x : NodeView). length x.platforms) same)
lists_none (suc k) v is = absurd (none-some v is)

within : IsWithin lone
within = record {
  profile = refl;
  some_node = omega arith;
  few_nodes = omega arith;
  few_apps = omega arith;
  few_platforms = omega arith;
  node_names = λ i j d before inside. absurd (omega (arith, before, inside));
  app_names = λ i j d before inside. absurd (omega (arith, before, inside));
  platform_names = λ i j d before inside. absurd (omega (arith, before, inside));
  nodes = refl;
  apps = refl;
  mandatory = λ n. mandatory_in n.0;
  optional = λ n. optional_in n.0;
  sync_wait = λ n. wait_in n.0;
  boot = λ n. subst (All (λ (e : App × Restart). e.0.0 < app_count lone)) (sym (boot_none n.0)) (All-nil _);
  boot_once = λ n.
      subst (AllPairs (λ (e later : App × Restart). e.0.0 ≢ later.0.0)) (sym (boot_none n.0))
      (λ i j d before inside. absurd (omega (arith, before, inside)));
  boot_listed = λ n. subst (All (λ (e : App × Restart). is_listed_at lone e.0 n ≡ true)) (sym (boot_none n.0)) (All-nil _);
  permissions = λ k v is. (lists_none k v is).0;
  platforms = λ k v is. (lists_none k v is).1;
  deps = λ x. All-nil _;
  groups = λ x v is. absurd (none-some v is);
  timeouts = λ x v is. absurd (none-some v is);
}

-- ---- it is up: by the manual's rules

abbrev state_up : StateView
state_up = record (first lone) { modes = mode.Up ∷ []; incarnations = 1 ∷ [] }

state_is : step First (first lone) (event.Boot a) ≡ state_up
unfolding step next followed booted is_ready all_alive come_up come_up_if_ready ready_come_up mark_all nodes_of apps_of local_moves placements takeovers next_moves
    moved_by all_moved
state_is = refl

abbrev sim : SimView
sim = with_event new_sim (event.Boot a)

-- ---- and on live nodes

abbrev live_node : LiveView
live_node = record never_begun { life = 1; phase = phase.Up; place = 1 }

abbrev last : SystemView
last = record {
  cluster = lone;
  files = file ∷ [];
  nodes = record {
    base = cell.Node never_begun ∷ cell.Net first_net ∷ [];
    cells = cell.Node live_node ∷ cell.Net first_net ∷ [];
  };
  clock = 0;
  step = 1;
  last_call = 0;
  alive = a ∷ [];
  links = [];
  locks = [];
  timers = [];
  calls = [];
  asleep = [];
  told = [];
  messages = [];
  slow = [];
  answers = [];
  events = seen.Up a ∷ seen.Booted a ∷ [];
  is_ticking = false;
  ends_soon = false;
}

last_is : rested (settled most_moves FirstComes (system_booted a (held new_live))) ≡ last
unfolding rested forgotten system_booted join boot_next told slowed made
last_is = refl

abbrev live : LiveSimView
live = with_step (cells_behind (net_in new_live) 1 last) new_live

no_timeouts : (k : ℕ) → All (λ (e : EntryView). 0 < e.timeout) (own_at (held new_live) (numbered k)).entries
unfolding forgotten
no_timeouts zero = All-nil _
no_timeouts (suc k) = All-nil _

first_at_rest : AreBothAtRest new_sim new_live
first_at_rest = first_rest lone First (file ∷ []) FirstComes within (λ n. no_timeouts n.0)

starts : Acts (held new_live) (system_booted a (held new_live))
unfolding forgotten
starts = begins (held new_live) a (never_begun, refl) refl

last_reached : IsReached last
last_reached =
    let up : SystemView = system_booted a (held new_live) in
    let over : SystemView = settled most_moves FirstComes up in
    subst IsReached last_is
    (later over (rested over)
    (commands_reached.settles_there most_moves FirstComes up (later (held new_live) up first_at_rest.reached (acts (held new_live) up starts))) (rests over))

alive_in : (k i : ℕ) → slice_get (a ∷ []) i ≡ Some (numbered k) → is_alive_at last (numbered k) ≡ true
alive_in k zero is = ap (λ (n : Node). is_alive_at last n) (sym (same_Some a (numbered k) is))
alive_in k (suc i) is = absurd (none-some (numbered k) is)

no_dist : (k : ℕ) → (node_at last (numbered k)).dist ≡ None
no_dist zero = refl
no_dist (suc zero) = refl
no_dist (suc (suc k)) = refl

no_end : (k : ℕ) → (is_ending (node_at last (numbered k)) && not (node_at last (numbered k)).is_stopped) ≡ false
no_end zero = refl
no_end (suc zero) = refl
no_end (suc (suc k)) = refl

nobody_in : (k : ℕ) → k ≡ 1 → is_alive_at last (numbered k) ≡ false
nobody_in k is = ap (λ (j : ℕ). is_alive_at last (numbered j)) is

is_over : IsOver new_live last
is_over = record {
  inside = omega arith;
  idle = record {
    calls = refl;
    listed = λ n among. alive_in n.0 among.0 among.1;
    dists = λ n d alive has. absurd (none-some d (sym (no_dist n.0) ∙ has));
    ends = λ n alive. no_end n.0;
  };
  reached = last_reached;
  is_quiet = (refl, refl);
  cluster = refl;
  files = refl;
  nobody = λ n there. nobody_in n.0 there;
}

-- ---- both tell the same of it, and are at rest

modes_so : (k : ℕ) → k < 1 → mode_of_phase (phase_in live (numbered k)) ≡ mode_of state_up (numbered k)
modes_so zero inside = refl
modes_so (suc k) inside = absurd (omega (arith, inside))

begun_so : (k : ℕ) → k < 1 → (life_in live (numbered k) ≡ incarnation_of state_up (numbered k)) × (incarnation_of state_up (numbered k) ≤ incarnation_limit)
begun_so zero inside = (refl, omega arith)
begun_so (suc k) inside = absurd (omega (arith, inside))

tells : TellTheSame state_up live
tells = record {
  cluster = refl;
  clock = refl;
  modes = λ n inside. modes_so n.0 inside;
  begun = λ n inside. (begun_so n.0 inside).0;
  limited = λ n inside. (begun_so n.0 inside).1;
  cells = omega arith;
}

together : GoTogether sim live
together =
    one_more new_sim new_live (event.Boot a) (cells_behind (net_in new_live) 1 last) (begin_together lone First (file ∷ []) FirstComes)
    (subst (λ (s : StateView). TellTheSame s live) (sym state_is) tells)

not_refused : refused (first lone) (event.Boot a) ≡ None
unfolding refused
not_refused = refl

is_valid : IsValid (state_of sim)
unfolding step
is_valid = next_valid (first lone) (event.Boot a) First (first_valid lone within) not_refused

at_rest : AreBothAtRest sim live
unfolding forgotten
at_rest = record {
  valid = is_valid;
  reached = reached_again new_live last is_over;
  rest = rests_again new_live last is_over;
  later = λ n. no_timeouts n.0;
}

-- ---- it crashes

none_runs : (x : App) → standing_of state_up x ≡ Running a → ⊥
none_runs x is = cc

nothing_starts : StartsNothingAtOnce a sim live
unfolding forgotten is_acted is_quiet_at_once ended taken_down told
nothing_starts = record {
  timeouts = λ x runs. absurd (none_runs x (sym (ap (λ (s : StateView). standing_of s x) state_is) ∙ runs));
  ends = refl;
}

room : HasRoom sim live
room = record { steps = omega arith; calls = omega arith }

crash_row : IsAnsweredAlike (call.Step (event.Crash a)) sim live
crash_row = (crashes_alike sim live a together room at_rest nothing_starts).0

up_crashes : refused state_up (event.Crash a) ≡ None
unfolding refused
up_crashes = refl

-- and it isn't refused
crash_told : (served sim (call.Step (event.Crash a))).reply ≡ reply.Done (notice.Ended a ∷ [])
crash_told =
    (crashes_alike sim live a together room at_rest nothing_starts).3 (ap (λ (s : StateView). refused s (event.Crash a)) state_is ∙ up_crashes)
