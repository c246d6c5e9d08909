-- A cluster of three nodes, which wait for one another, and of one distributed application, which each boots and may run, the first one
-- before the second, and that before the third: its file would be accepted.
use Rattle.std.proofs.Common.{◌≡◌, ◌≢◌, ◌<◌, ◌≤◌, ℕ, zero, suc, true, false, None, Some, IsSome, List, [], ◌∷◌, length, slice_get, slice_index, AllPairs, refl, sym, ap, subst, arith}
use Rattle.std.specs.Prelude.{All}
use Rattle.std.proofs.lemmas.Option.{none-some, same_Some}
use Rattle.std.proofs.lemmas.List.Elements.{All-nil, All-cons}
use Rattle.std.proofs.lemmas.List.Kept.{AllPairs-cons}
use Rattle.rh_model.specs.ClusterView.{ClusterView, NodeView, IsWithin, app_count, numbered, app_numbered, mandatory_of, optional_of, sync_wait_of, boot_of, deps_of, is_listed_at, spread_of, dep_name}
use Rattle.rh_model.specs.Limits.{IsWithinLimit, timeout_limit}
use Rattle.rh_model.specs.declared.node.App.{App}
use Rattle.rh_model.specs.declared.node.Node.{Node}
use Rattle.rh_model.specs.declared.settings.Dep.{Dep}
use Rattle.rh_model.specs.declared.settings.Restart.{Restart}
use Rattle.rh_model.specs.declared.settings.Restart.TheVariants.{Permanent}
use Rattle.rh_model.specs.declared.settings.Spread.{Spread}
use Rattle.rh_model.specs.declared.settings.SyncWait.TheVariants.{After}
use Rattle.rh_otp_model.specs.declared.wait.OwnFile.{OwnFile}
use Rattle.rh_otp_model.specs.declared.wait.Wait.TheVariants as wait

abbrev pub a : Node
a = numbered 0

abbrev pub b : Node
b = numbered 1

abbrev pub c : Node
c = numbered 2

abbrev pub web : App
web = app_numbered 0

abbrev spread : Spread
spread = record { timeout = 5000; groups = (a ∷ []) ∷ (b ∷ []) ∷ (c ∷ []) ∷ [] }

-- it waits for the others, boots the application, and may run it
abbrev node_of : List Node → NodeView
node_of others = record {
  mandatory = [];
  optional = others;
  sync_wait = After 12000;
  boot = (web, Permanent) ∷ [];
  permissions = true ∷ [];
  platforms = [];
}

abbrev name_a : List ℕ
name_a = 97 ∷ []

abbrev name_b : List ℕ
name_b = 98 ∷ []

abbrev name_c : List ℕ
name_c = 99 ∷ []

abbrev names : List (List ℕ)
names = name_a ∷ name_b ∷ name_c ∷ []

abbrev pub three : ClusterView
three = record {
  profile = 2;
  node_names = names;
  app_names = (119 ∷ []) ∷ [];
  platform_names = [];
  nodes = node_of (b ∷ c ∷ []) ∷ node_of (a ∷ c ∷ []) ∷ node_of (a ∷ b ∷ []) ∷ [];
  apps = record { deps = []; start_arg = None; phases = true; spread = Some spread } ∷ [];
}

-- and so the nodes' own files say
abbrev pub file : OwnFile
file = record {
  own = record {
    has_dist = true;
    entries = record {
      app = web;
      timeout = 5000;
      places = record { is_tuple = false; nodes = a ∷ [] } ∷ record { is_tuple = false; nodes = b ∷ [] }
          ∷ record { is_tuple = false; nodes = c ∷ [] } ∷ [];
    } ∷ [];
  };
  wait = wait.After 12000;
}

-- ---- the cluster file would be accepted

abbrev IsNodeIn : Node → Type 0
IsNodeIn m = m.0 < 3

two_in : (j k : ℕ) → j < 3 → k < 3 → All IsNodeIn (numbered j ∷ numbered k ∷ [])
two_in j k one other =
    All-cons IsNodeIn (numbered j) (numbered k ∷ []) one (All-cons IsNodeIn (numbered k) [] other (All-nil IsNodeIn))

mandatory_in : (k : ℕ) → All IsNodeIn (mandatory_of three (numbered k))
mandatory_in zero = All-nil IsNodeIn
mandatory_in (suc zero) = All-nil IsNodeIn
mandatory_in (suc (suc zero)) = All-nil IsNodeIn
mandatory_in (suc (suc (suc k))) = All-nil IsNodeIn

optional_in : (k : ℕ) → All IsNodeIn (optional_of three (numbered k))
optional_in zero = two_in 1 2 (omega arith) (omega arith)
optional_in (suc zero) = two_in 0 2 (omega arith) (omega arith)
optional_in (suc (suc zero)) = two_in 0 1 (omega arith) (omega arith)
optional_in (suc (suc (suc k))) = All-nil IsNodeIn

wait_in : (k : ℕ) → IsWithinLimit (sync_wait_of three (numbered k))
wait_in zero = omega arith
wait_in (suc zero) = omega arith
wait_in (suc (suc zero)) = omega arith
wait_in (suc (suc (suc k))) = tt

abbrev IsOfIt : (App × Restart) → Type 0
IsOfIt e = e.0.0 < app_count three

boot_in : (k : ℕ) → All IsOfIt (boot_of three (numbered k))
boot_in zero = All-cons IsOfIt (web, Permanent) [] (omega arith) (All-nil IsOfIt)
boot_in (suc zero) = All-cons IsOfIt (web, Permanent) [] (omega arith) (All-nil IsOfIt)
boot_in (suc (suc zero)) = All-cons IsOfIt (web, Permanent) [] (omega arith) (All-nil IsOfIt)
boot_in (suc (suc (suc k))) = All-nil IsOfIt

abbrev Differ : (App × Restart) → (App × Restart) → Type 0
Differ e later = e.0.0 ≢ later.0.0

boot_apart : (k : ℕ) → AllPairs Differ (boot_of three (numbered k))
boot_apart zero i j d before inside = absurd (omega (arith, before, inside))
boot_apart (suc zero) i j d before inside = absurd (omega (arith, before, inside))
boot_apart (suc (suc zero)) i j d before inside = absurd (omega (arith, before, inside))
boot_apart (suc (suc (suc k))) i j d before inside = absurd (omega (arith, before, inside))

abbrev IsListed : Node → (App × Restart) → Type 0
IsListed n e = is_listed_at three e.0 n ≡ true

boot_listed : (k : ℕ) → All (IsListed (numbered k)) (boot_of three (numbered k))
boot_listed zero = All-cons (IsListed a) (web, Permanent) [] refl (All-nil (IsListed a))
boot_listed (suc zero) = All-cons (IsListed b) (web, Permanent) [] refl (All-nil (IsListed b))
boot_listed (suc (suc zero)) = All-cons (IsListed c) (web, Permanent) [] refl (All-nil (IsListed c))
boot_listed (suc (suc (suc k))) = All-nil (IsListed (numbered (suc (suc (suc k)))))

abbrev AreApart : List ℕ → List ℕ → Type 0
AreApart name later = name ≢ later

differ : (i j : ℕ) (one other : List ℕ) → slice_index one 0 ≡ i → slice_index other 0 ≡ j → i < j → AreApart one other
differ i j one other first second apart same =
    let here : slice_index one 0 ≡ slice_index other 0 = ap (λ (name : List ℕ). slice_index name 0) same in
    omega (arith, first, second, apart, here)

names_apart : AllPairs AreApart names
names_apart =
    AllPairs-cons AreApart name_a (name_b ∷ name_c ∷ [])
    (All-cons (AreApart name_a) name_b (name_c ∷ []) (differ 97 98 name_a name_b refl refl (omega arith))
    (All-cons (AreApart name_a) name_c [] (differ 97 99 name_a name_c refl refl (omega arith)) (All-nil (AreApart name_a))))
    (AllPairs-cons AreApart name_b (name_c ∷ [])
    (All-cons (AreApart name_b) name_c [] (differ 98 99 name_b name_c refl refl (omega arith)) (All-nil (AreApart name_b)))
    (AllPairs-cons AreApart name_c [] (All-nil (AreApart name_c)) (λ i j d before inside. absurd (omega (arith, before, inside)))))

lists_in : (k : ℕ) (v : NodeView) → slice_get three.nodes k ≡ Some v → (length v.permissions ≡ 1) × (length v.platforms ≡ 0)
lists_in zero v is =
    let same = sym (same_Some _ v is) in
    (ap (λ (x : NodeView). length x.permissions) same, ap (λ (x : NodeView). length x.platforms) same)
lists_in (suc zero) v is =
    let same = sym (same_Some _ v is) in
    (ap (λ (x : NodeView). length x.permissions) same, ap (λ (x : NodeView). length x.platforms) same)
lists_in (suc (suc zero)) v is =
    let same = sym (same_Some _ v is) in
    (ap (λ (x : NodeView). length x.permissions) same, ap (λ (x : NodeView). length x.platforms) same)
lists_in (suc (suc (suc k))) v is = absurd (none-some v is)

deps_none : (k : ℕ) → deps_of three (app_numbered k) ≡ []
deps_none zero = refl
deps_none (suc k) = refl

spread_is : (k : ℕ) (x : Spread) → spread_of three (app_numbered k) ≡ Some x → spread ≡ x
spread_is zero x is = same_Some spread x is
spread_is (suc k) x is = absurd (none-some x is)

abbrev AreNodes : List Node → Type 0
AreNodes g = All IsNodeIn g

one_in : (k : ℕ) → k < 3 → AreNodes (numbered k ∷ [])
one_in k inside = All-cons IsNodeIn (numbered k) [] inside (All-nil IsNodeIn)

groups_in : All AreNodes spread.groups
groups_in =
    All-cons AreNodes (a ∷ []) ((b ∷ []) ∷ (c ∷ []) ∷ []) (one_in 0 (omega arith))
    (All-cons AreNodes (b ∷ []) ((c ∷ []) ∷ []) (one_in 1 (omega arith))
    (All-cons AreNodes (c ∷ []) [] (one_in 2 (omega arith)) (All-nil AreNodes)))

pub within : IsWithin three
within = record {
  profile = refl;
  some_node = omega arith;
  few_nodes = omega arith;
  few_apps = omega arith;
  few_platforms = omega arith;
  node_names = names_apart;
  app_names = λ i j d before inside. absurd (omega (arith, before, inside));
  platform_names = λ i j d before inside. absurd (omega (arith, before, inside));
  nodes = refl;
  apps = refl;
  mandatory = λ n. mandatory_in n.0;
  optional = λ n. optional_in n.0;
  sync_wait = λ n. wait_in n.0;
  boot = λ n. boot_in n.0;
  boot_once = λ n. boot_apart n.0;
  boot_listed = λ n. boot_listed n.0;
  permissions = λ k v is. (lists_in k v is).0;
  platforms = λ k v is. (lists_in k v is).1;
  deps = λ x. subst (All (λ (d : Dep). IsSome (dep_name three d))) (sym (deps_none x.0)) (All-nil _);
  groups = λ x v is. subst (λ (y : Spread). All AreNodes y.groups) (spread_is x.0 v is) groups_in;
  timeouts = λ x v is. subst (λ (y : Spread). y.timeout ≤ timeout_limit) (spread_is x.0 v is) (omega arith);
}
