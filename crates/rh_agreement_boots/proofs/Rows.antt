-- Worked rows: of three nodes that wait for one another the first begins, where none has begun, and then the second, which waits on for the
-- third, as the first does. So the laws are about something.
use Rattle.std.proofs.Common.{◌≡◌, ◌≢◌, ◌<◌, ℕ, zero, suc, true, false, List, Some, None, [], ◌∷◌, length, slice_get, slice_index, AllPairs, refl, sym, ap, subst, arith}
use Rattle.std.specs.Prelude.{All}
use Rattle.std.proofs.lemmas.List.Elements.{All-nil, All-cons}
use Rattle.std.proofs.lemmas.List.Kept.{AllPairs-cons}
use Rattle.std.proofs.lemmas.Option.{none-some, same_Some}
use Rattle.rh_model.specs.ClusterView.{ClusterView, NodeView, IsWithin, app_count, numbered, mandatory_of, optional_of, sync_wait_of, boot_of, is_listed_at}
use Rattle.rh_model.specs.Limits.{IsWithinLimit}
use Rattle.rh_model.specs.declared.node.App.{App}
use Rattle.rh_model.specs.declared.node.Node.{Node}
use Rattle.rh_model.specs.declared.settings.Restart.{Restart}
use Rattle.rh_model.specs.declared.settings.SyncWait.TheVariants.{After}
use Rattle.rh_rules.specs.declared.event.Event.TheVariants as event
use Rattle.rh_rules.specs.declared.pick.Pick.TheVariants.{First}
use Rattle.rh_rules.specs.NodesStart.{all_alive, is_ready, booted}
use Rattle.rh_rules.specs.Refusals.{refused}
use Rattle.rh_calls.specs.declared.call.Call.TheVariants as call
use Rattle.rh_calls.specs.declared.call.Reply.TheVariants as reply
use Rattle.rh_state.specs.First.{first}
use Rattle.rh_trail.specs.Lone.{served, opened}
use Rattle.rh_trail.specs.SimView.{SimView}
use Rattle.rh_otp_model.specs.declared.wait.OwnFile.{OwnFile}
use Rattle.rh_otp_model.specs.declared.wait.Wait.TheVariants as wait
use Rattle.rh_otp_model.specs.Own.{EntryView}
use Rattle.rh_otp_net.specs.declared.order.Order.TheVariants.{FirstComes}
use Rattle.rh_otp_node.specs.declared.node.Phase.TheVariants as phase
use Rattle.rh_otp_node.specs.Live.{never_begun}
use Rattle.rh_otp_sim.specs.declared.lines.Answer.TheVariants.{Told}
use Rattle.rh_otp_sim.specs.declared.lines.Line.TheVariants as line
use Rattle.rh_otp_sim.specs.declared.stepping.Outcome.TheVariants as outcome
use Rattle.rh_otp_sim.specs.declared.verdict.Verdict.TheVariants as verdict
use Rattle.rh_otp_sim.specs.Acting.{acted, acted_at_once, is_acted, is_quiet_at_once}
use Rattle.rh_otp_sim.specs.Calls.{made_by}
use Rattle.rh_otp_sim.specs.Refusing.{phase_in}
use Rattle.rh_otp_sim.specs.Sim.{LiveSimView, net_in}
use Rattle.rh_otp_sim.specs.Sim.{opened as live_opened}
use Rattle.rh_otp_sim.specs.Stepping.{outcome_with}
use Rattle.rh_otp_system.specs.Delivering.{slowed}
use Rattle.rh_otp_system.specs.Doing.{booted as system_booted}
use Rattle.rh_otp_system.specs.Joining.{join, boot_next}
use Rattle.rh_otp_system.specs.Moves.{made}
use Rattle.rh_otp_system.specs.Resting.{forgotten, rested}
use Rattle.rh_otp_system.specs.Sending.{told}
use Rattle.rh_otp_system.specs.State.{own_at}
use Rattle.rh_agreement.specs.Telling.{GoTogether}
use Rattle.rh_agreement.specs.Laws.{IsAnsweredAlike, HasRoom}
use Rattle.rh_agreement.specs.Resting.{AreBothAtRest, AreAlwaysAtRest, held}
use Rattle.rh_agreement.proofs.AtFirst.{begin_at_rest}
use Rattle.rh_agreement.proofs.Beginning.{begin_together}
use Rattle.rh_agreement_boots.specs.Boots.{BeginsToWait, IsBootedAlike}
use Rattle.rh_agreement_boots.proofs.Alone.{first_alike}

abbrev pub a : Node
a = numbered 0

abbrev pub b : Node
b = numbered 1

abbrev pub c : Node
c = numbered 2

abbrev name_a : List ℕ
name_a = 97 ∷ []

abbrev name_b : List ℕ
name_b = 98 ∷ []

abbrev name_c : List ℕ
name_c = 99 ∷ []

abbrev names : List (List ℕ)
names = name_a ∷ name_b ∷ name_c ∷ []

-- three nodes of which two wait for all others, five seconds, and no application; `a` ends without the others
abbrev pub three : ClusterView
three = record {
  profile = 2;
  node_names = names;
  app_names = [];
  platform_names = [];
  nodes =
      record { mandatory = b ∷ c ∷ []; optional = []; sync_wait = After 5000; boot = []; permissions = []; platforms = [] }
      ∷ record { mandatory = []; optional = a ∷ c ∷ []; sync_wait = After 5000; boot = []; permissions = []; platforms = [] }
      ∷ record { mandatory = []; optional = []; sync_wait = After 5000; boot = []; permissions = []; platforms = [] } ∷ [];
  apps = [];
}

-- and so their own files say, which have a `distributed`, with no entry
abbrev pub file : OwnFile
file = record { own = record { has_dist = true; entries = [] }; wait = wait.After 5000 }

abbrev pub sim : SimView
sim = opened three First

abbrev pub live : LiveSimView
live = live_opened three (file ∷ file ∷ file ∷ []) FirstComes

-- ---- the cluster file would be accepted

are_nodes : (j k : ℕ) → j < 3 → k < 3 → All (λ (m : Node). m.0 < 3) (numbered j ∷ numbered k ∷ [])
are_nodes j k one other =
    All-cons (λ (m : Node). m.0 < 3) (numbered j) (numbered k ∷ []) one (All-cons (λ (m : Node). m.0 < 3) (numbered k) [] other (All-nil _))

mandatory_in : (k : ℕ) → All (λ (m : Node). m.0 < 3) (mandatory_of three (numbered k))
mandatory_in zero = are_nodes 1 2 (omega arith) (omega arith)
mandatory_in (suc k) = none_there k
  where
    none_there : (j : ℕ) → All (λ (m : Node). m.0 < 3) (mandatory_of three (numbered (suc j)))
    none_there zero = All-nil _
    none_there (suc zero) = All-nil _
    none_there (suc (suc j)) = All-nil _

optional_in : (k : ℕ) → All (λ (m : Node). m.0 < 3) (optional_of three (numbered k))
optional_in zero = All-nil _
optional_in (suc zero) = are_nodes 0 2 (omega arith) (omega arith)
optional_in (suc (suc zero)) = All-nil _
optional_in (suc (suc (suc k))) = All-nil _

wait_in : (k : ℕ) → IsWithinLimit (sync_wait_of three (numbered k))
wait_in zero = omega arith
wait_in (suc zero) = omega arith
wait_in (suc (suc zero)) = omega arith
wait_in (suc (suc (suc k))) = tt

boot_none : (k : ℕ) → boot_of three (numbered k) ≡ []
boot_none zero = refl
boot_none (suc zero) = refl
boot_none (suc (suc zero)) = refl
boot_none (suc (suc (suc k))) = refl

lists_none : (k : ℕ) (v : NodeView) → slice_get three.nodes k ≡ Some v → (length v.permissions ≡ 0) × (length v.platforms ≡ 0)
lists_none zero v is =
    let same = sym (same_Some _ v is) in (ap (λ (x : NodeView). length x.permissions) same, ap (λ (x : NodeView). length x.platforms) same)
lists_none (suc zero) v is =
    let same = sym (same_Some _ v is) in (ap (λ (x : NodeView). length x.permissions) same, ap (λ (x : NodeView). length x.platforms) same)
lists_none (suc (suc zero)) v is =
    let same = sym (same_Some _ v is) in (ap (λ (x : NodeView). length x.permissions) same, ap (λ (x : NodeView). length x.platforms) same)
lists_none (suc (suc (suc k))) v is = absurd (none-some v is)

abbrev Differ : List ℕ → List ℕ → Type 0
Differ name later = name ≢ later

differ : (i j : ℕ) (one other : List ℕ) → slice_index one 0 ≡ i → slice_index other 0 ≡ j → i < j → Differ one other
differ i j one other first second apart same =
    let here : slice_index one 0 ≡ slice_index other 0 = ap (λ (name : List ℕ). slice_index name 0) same in
    omega (arith, first, second, apart, here)

names_apart : AllPairs Differ names
names_apart =
    AllPairs-cons Differ name_a (name_b ∷ name_c ∷ [])
    (All-cons (Differ name_a) name_b (name_c ∷ []) (differ 97 98 name_a name_b refl refl (omega arith))
    (All-cons (Differ name_a) name_c [] (differ 97 99 name_a name_c refl refl (omega arith)) (All-nil (Differ name_a))))
    (AllPairs-cons Differ name_b (name_c ∷ [])
    (All-cons (Differ name_b) name_c [] (differ 98 99 name_b name_c refl refl (omega arith)) (All-nil (Differ name_b)))
    (AllPairs-cons Differ name_c [] (All-nil (Differ name_c)) (λ i j d before inside. absurd (omega (arith, before, inside)))))

within : IsWithin three
within = record {
  profile = refl;
  some_node = omega arith;
  few_nodes = omega arith;
  few_apps = omega arith;
  few_platforms = omega arith;
  node_names = names_apart;
  app_names = λ i j d before inside. absurd (omega (arith, before, inside));
  platform_names = λ i j d before inside. absurd (omega (arith, before, inside));
  nodes = refl;
  apps = refl;
  mandatory = λ n. mandatory_in n.0;
  optional = λ n. optional_in n.0;
  sync_wait = λ n. wait_in n.0;
  boot = λ n. subst (All (λ (e : App × Restart). e.0.0 < app_count three)) (sym (boot_none n.0)) (All-nil _);
  boot_once = λ n.
      subst (AllPairs (λ (e later : App × Restart). e.0.0 ≢ later.0.0)) (sym (boot_none n.0))
      (λ i j d before inside. absurd (omega (arith, before, inside)));
  boot_listed = λ n. subst (All (λ (e : App × Restart). is_listed_at three e.0 n ≡ true)) (sym (boot_none n.0)) (All-nil _);
  permissions = λ k v is. (lists_none k v is).0;
  platforms = λ k v is. (lists_none k v is).1;
  deps = λ x. All-nil _;
  groups = λ x v is. absurd (none-some v is);
  timeouts = λ x v is. absurd (none-some v is);
}

-- ---- where no node has begun both tell the same, and are at rest

pub together : GoTogether sim live
together = begin_together three First (file ∷ file ∷ file ∷ []) FirstComes

no_timeouts : (k : ℕ) → All (λ (e : EntryView). 0 < e.timeout) (own_at (held live) (numbered k)).entries
unfolding forgotten
no_timeouts zero = All-nil _
no_timeouts (suc zero) = All-nil _
no_timeouts (suc (suc zero)) = All-nil _
no_timeouts (suc (suc (suc k))) = All-nil _

pub always : AreAlwaysAtRest sim live
always = begin_at_rest three First (file ∷ file ∷ file ∷ []) FirstComes within (λ n. no_timeouts n.0)

-- ---- the first begins to wait

all_down : (k : ℕ) → phase_in live (numbered k) ≡ phase.Down
all_down zero = refl
all_down (suc zero) = refl
all_down (suc (suc zero)) = refl
all_down (suc (suc (suc zero))) = refl
all_down (suc (suc (suc (suc k)))) = refl

pub begins : BeginsToWait a sim live
unfolding forgotten all_alive is_ready booted
begins = record {
  alone = λ m. all_down m.0;
  waits = refl;
  live_waits = omega arith;
  others = refl;
  there = λ inside. (never_begun, refl);
}

pub room : HasRoom sim live
room = record { steps = omega arith; calls = omega arith }

pub not_refused : refused (first three) (event.Boot a) ≡ None
unfolding refused
not_refused = refl

pub first_row : IsBootedAlike a sim live
first_row = first_alike sim live a together room always.now begins

boot_row : IsAnsweredAlike (call.Step (event.Boot a)) sim live
boot_row = first_row.0

-- and it isn't refused
boot_told : (served sim (call.Step (event.Boot a))).reply ≡ reply.Done []
boot_told = first_row.3 not_refused

-- behind it both are at rest again
rest_row : AreBothAtRest (served sim (call.Step (event.Boot a))).sim (made_by (call.Step (event.Boot a)) live)
rest_row = first_row.2

-- ---- and it would be wrong where the node's own file has it wait for nobody

abbrev hasty : OwnFile
hasty = record { own = record { has_dist = false; entries = [] }; wait = wait.Unset }

abbrev hasty_live : LiveSimView
hasty_live = live_opened three (hasty ∷ hasty ∷ hasty ∷ []) FirstComes

-- by the manual's rules it waits, and on live nodes it comes up at once
hasty_row : outcome_with (net_in hasty_live) (event.Boot a) hasty_live
    ≡ outcome.Done (record { answer = Told verdict.Done; lines = line.Up a ∷ [] })
unfolding acted acted_at_once is_acted is_quiet_at_once rested forgotten system_booted join boot_next told slowed made
hasty_row = refl
