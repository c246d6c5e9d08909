-- Two nodes of which none has begun, and each of whose lists names the other one: a cold start, as the files have it.
use Rattle.std.specs.Prelude.{All}
use Rattle.std.proofs.Common.{◌≡◌, ◌<◌, ◌≤◌, ◌+◌, ◌-◌, ◌^◌, ◌==◌, ◌&&◌, ◌||◌, nat_lt, ℕ, zero, suc, Bool, true, false, not, List, [], ◌∷◌, filter, length, Some, None, refl, sym, ap, ◌∙◌, arith}
use Rattle.std.proofs.lemmas.Bool.{and_parts, ltb-true, false_from_ne_true, ne_eqb}
use Rattle.std.proofs.lemmas.List.Elements.{All-nil, All-cons, All-head, All-tail}
use Rattle.std.proofs.lemmas.Option.{none-some}
use Rattle.rh_model.specs.ClusterView.{ClusterView, NodeView, is_in, mandatory_of, optional_of, boot_of, is_permitted}
use Rattle.rh_model.specs.declared.node.App.{App}
use Rattle.rh_model.specs.declared.node.Node.{Node}
use Rattle.rh_model.specs.declared.settings.Restart.TheVariants.{Permanent}
use Rattle.rh_model.specs.declared.settings.SyncWait.TheVariants.{After}
use Rattle.rh_otp_model.specs.declared.wait.OwnFile.{OwnFile}
use Rattle.rh_otp_model.specs.declared.wait.Wait.TheVariants as wait
use Rattle.rh_otp_model.specs.Own.{EntryView}
use Rattle.rh_otp_node.specs.Live.{never_begun}
use Rattle.rh_otp_sim.specs.Sim.{first_cells, first_net}
use Rattle.rh_otp_system.specs.State.{SystemView, system_of, node_at, own_at, wait_at, has_dist_at}
use Rattle.rh_otp_laws.specs.Acting.{IsThere, IsNew}
use Rattle.rh_otp_stops.proofs.Rows.{n1, n2, d1, l1}
use Rattle.rh_otp_waits.specs.Waits.{HasItWait}
use Rattle.rh_otp_gathers.specs.Gathers.{one_if}
use Rattle.rh_otp_together.specs.Together.{IsBefore, InOrder, distributed_of, boots_at, strangers_of}
use Rattle.rh_otp_together.proofs.Sharing.{few_left_to_one}
use Rattle.rh_otp_colds.specs.Colds.{is_there, NameEachOther}
use Rattle.rh_otp_colds.specs.Wholes.{may_start, first_runner, CanStartTogether}

-- ---- the cluster

-- it waits for the other one, and starts both applications
abbrev node_of : Node → NodeView
node_of other = record {
  mandatory = [];
  optional = other ∷ [];
  sync_wait = After 12000;
  boot = (d1, Permanent) ∷ (l1, Permanent) ∷ [];
  permissions = true ∷ true ∷ [];
  platforms = [];
}

abbrev pub cluster : ClusterView
cluster = record {
  profile = 1;
  node_names = (97 ∷ []) ∷ (98 ∷ []) ∷ [];
  app_names = (97 ∷ []) ∷ (98 ∷ []) ∷ [];
  platform_names = [];
  nodes = node_of n2 ∷ node_of n1 ∷ [];
  apps = record {
    deps = [];
    start_arg = None;
    phases = false;
    spread = Some (record { timeout = 5000; groups = (n1 ∷ []) ∷ (n2 ∷ []) ∷ [] });
  } ∷ record { deps = []; start_arg = None; phases = false; spread = None } ∷ [];
}

-- the application is to run at the first node, and else at the second one
abbrev entry : EntryView
entry = record {
  app = d1;
  timeout = 5000;
  places = record { is_tuple = false; nodes = n1 ∷ [] } ∷ record { is_tuple = false; nodes = n2 ∷ [] } ∷ [];
}

abbrev file : OwnFile
file = record { own = record { has_dist = true; entries = entry ∷ [] }; wait = wait.After 12000 }

abbrev pub files : List OwnFile
files = file ∷ file ∷ []

-- ---- none has begun

-- where the first command begins
abbrev pub fresh : SystemView
fresh = record (system_of cluster files (first_cells 2) first_net true) { step = 1 }

nobody_yet : (k : ℕ) → node_at fresh (record { 0 = k }) ≡ never_begun
nobody_yet zero = refl
nobody_yet (suc zero) = refl
nobody_yet (suc (suc zero)) = refl
nobody_yet (suc (suc (suc k))) = refl

pub is_new : IsNew fresh
is_new = record {
  nodes = λ n. nobody_yet n.0;
  alive = refl;
  links = refl;
  locks = refl;
  timers = refl;
  calls = refl;
  messages = refl;
  slow = refl;
}

-- what is so of the two is so of all that are there
of_two : (P : Node → Type 0) → P n1 → P n2 → (k : ℕ) → IsThere (record { 0 = k }) fresh → P (record { 0 = k })
of_two P one two zero there = one
of_two P one two (suc zero) there = two
of_two P one two (suc (suc zero)) there = absurd (none-some there.0 there.1)
of_two P one two (suc (suc (suc k))) there = absurd (none-some there.0 there.1)

-- no list of these names another one
abbrev IsOne : Node → Type 0
IsOne y = y.0 < 2

out_of : (k : ℕ) (nodes : List Node) → All IsOne nodes → is_in (record { 0 = suc (suc k) }) nodes ≡ false
out_of k [] all = refl
out_of k (y ∷ nodes) all =
    let first : y.0 < 2 = All-head IsOne y nodes all in
    ap (λ (c : Bool). c || is_in (record { 0 = suc (suc k) }) nodes) (ne_eqb (suc (suc k)) y.0 (λ is. omega (arith, is, first)))
    ∙ out_of k nodes (All-tail IsOne y nodes all)

nobody_more : (k : ℕ) (n : Node) → (is_there fresh (record { 0 = suc (suc k) }) && not (suc (suc k) == n.0)) ≡ false
nobody_more zero n = refl
nobody_more (suc k) n = refl

-- the node stands in one of the lists of the other one, and in that alone, or in none where it is to stand in none
abbrev IsListedOnce : Node → Node → Type 0
IsListedOnce n x =
    one_if (is_in x (mandatory_of cluster n)) + one_if (is_in x (optional_of cluster n)) ≡ one_if (is_there fresh x && not (x.0 == n.0))

lists_of : (n : Node) → All IsOne (mandatory_of cluster n) → All IsOne (optional_of cluster n) → IsListedOnce n n1 → IsListedOnce n n2
    → (k : ℕ) → IsListedOnce n (record { 0 = k })
lists_of n first second one two zero = one
lists_of n first second one two (suc zero) = two
lists_of n first second one two (suc (suc k)) =
    (λ i. one_if (out_of k (mandatory_of cluster n) first i) + one_if (out_of k (optional_of cluster n) second i))
    ∙ sym (ap one_if (nobody_more k n))

one_of : (y : Node) → y.0 < 2 → All IsOne (y ∷ [])
one_of y less = All-cons IsOne y [] less (All-nil IsOne)

pub names : NameEachOther fresh
names = record {
  wait = λ n there. of_two (λ (m : Node). HasItWait (wait_at fresh m)) (omega arith) (omega arith) n.0 there;
  lists = λ n x there.
      of_two (λ (m : Node). (k : ℕ) → IsListedOnce m (record { 0 = k }))
      (lists_of n1 (All-nil IsOne) (one_of n2 (omega arith)) refl refl) (lists_of n2 (All-nil IsOne) (one_of n1 (omega arith)) refl refl)
      n.0 there x.0;
}

nodes_so : (k : ℕ) → is_there fresh (record { 0 = k }) ≡ nat_lt k 2
nodes_so zero = refl
nodes_so (suc zero) = refl
nodes_so (suc (suc zero)) = refl
nodes_so (suc (suc (suc k))) =
    sym (false_from_ne_true _ (λ is. (let less : suc (suc (suc k)) < 2 = ltb-true (suc (suc (suc k))) 2 is in omega (arith, less))))

abbrev RunsThere : App → Type 0
RunsThere a = (boots_at fresh n1 a ≡ true) × (may_start fresh n1 a ≡ true)

abbrev IsAtFirst : Node → App → Type 0
IsAtFirst m a = boots_at fresh m a ≡ true → first_runner fresh m a ≡ Some n1

pub can : CanStartTogether fresh
can = record {
  nodes = λ m. nodes_so m.0;
  has_dist = λ m there. of_two (λ (n : Node). has_dist_at fresh n ≡ true) refl refl m.0 there;
  in_order = λ m there.
      of_two (λ (n : Node). InOrder fresh n [] (boot_of cluster n)) (ordered n1 refl) (ordered n2 refl) m.0 there;
  short = λ m there. of_two (λ (n : Node). length (boot_of cluster n) < 2 ^ 64 - 1) (omega arith) (omega arith) m.0 there;
  apps = d1 ∷ [];
  distributed = λ m there.
      of_two (λ (n : Node). distributed_of (own_at fresh n) (boot_of cluster n) ≡ filter (boots_at fresh n) (d1 ∷ [])) refl refl m.0 there;
  strangers = λ m there. few_left_to_one (λ a. n1) (strangers_of fresh m (d1 ∷ []))
      (of_two (λ (n : Node). length (strangers_of fresh n (d1 ∷ [])) ≤ 1) (omega arith) (omega arith) m.0 there);
  at = λ a. n1;
  runners = All-cons RunsThere d1 [] (refl, refl) (All-nil RunsThere);
  first = λ m there.
      of_two (λ (n : Node). All (IsAtFirst n) (d1 ∷ [])) (All-cons (IsAtFirst n1) d1 [] (λ boots. refl) (All-nil (IsAtFirst n1)))
      (All-cons (IsAtFirst n2) d1 [] (λ boots. refl) (All-nil (IsAtFirst n2))) m.0 there;
}
  where
    ordered : (m : Node) → (is_permitted cluster m d1 && is_permitted cluster m l1) ≡ true
        → InOrder fresh m [] ((d1, Permanent) ∷ (l1, Permanent) ∷ [])
    ordered m may =
        let both : (is_permitted cluster m d1 ≡ true) × (is_permitted cluster m l1 ≡ true) =
        and_parts (is_permitted cluster m d1) (is_permitted cluster m l1) may in
        (refl, All-nil (IsBefore fresh m []), λ out. both.0, (refl, All-nil (IsBefore fresh m (d1 ∷ [])), λ out. both.1, tt))

-- ---- the failover

-- an application that is lost is started later
pub later_of : (k : ℕ) → All (λ (e : EntryView). 0 < e.timeout) (own_at fresh (record { 0 = k })).entries
later_of zero = All-cons (λ (e : EntryView). 0 < e.timeout) entry [] (omega arith) (All-nil (λ (e : EntryView). 0 < e.timeout))
later_of (suc zero) = All-cons (λ (e : EntryView). 0 < e.timeout) entry [] (omega arith) (All-nil (λ (e : EntryView). 0 < e.timeout))
later_of (suc (suc k)) = All-nil (λ (e : EntryView). 0 < e.timeout)
