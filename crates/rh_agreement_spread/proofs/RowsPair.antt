-- A cluster of two nodes, which wait for one another, and of one distributed application, which either may run, the first one before the
-- second: its file would be accepted.
use Rattle.std.proofs.Common.{◌≡◌, ◌≢◌, ◌<◌, ◌≤◌, ℕ, zero, suc, true, false, None, Some, IsSome, List, [], ◌∷◌, sum, length, slice_get, AllPairs, refl, sym, ap, subst, arith}
use Rattle.std.specs.Prelude.{All}
use Rattle.std.proofs.lemmas.Option.{none-some, same_Some}
use Rattle.std.proofs.lemmas.List.Elements.{All-nil, All-cons}
use Rattle.rh_model.specs.ClusterView.{ClusterView, NodeView, IsWithin, app_count, numbered, app_numbered, mandatory_of, optional_of, sync_wait_of, boot_of, deps_of, is_listed_at, spread_of, dep_name}
use Rattle.rh_model.specs.Limits.{IsWithinLimit}
use Rattle.rh_model.specs.declared.node.App.{App}
use Rattle.rh_model.specs.declared.node.Node.{Node}
use Rattle.rh_model.specs.declared.settings.Dep.{Dep}
use Rattle.rh_model.specs.declared.settings.Restart.{Restart}
use Rattle.rh_otp_model.specs.declared.wait.OwnFile.{OwnFile}
use Rattle.rh_otp_model.specs.declared.wait.Wait.TheVariants as wait
use Rattle.rh_model.specs.declared.settings.Spread.{Spread}
use Rattle.rh_model.specs.declared.settings.SyncWait.TheVariants.{After}
use Rattle.rh_model.specs.Limits.{timeout_limit}

abbrev pub a : Node
a = numbered 0

abbrev pub b : Node
b = numbered 1

abbrev pub web : App
web = app_numbered 0

abbrev spread : Spread
spread = record { timeout = 5000; groups = (a ∷ []) ∷ (b ∷ []) ∷ [] }

-- it waits for the other one, boots nothing, and may run the application
abbrev node_of : Node → NodeView
node_of other = record {
  mandatory = [];
  optional = other ∷ [];
  sync_wait = After 12000;
  boot = [];
  permissions = true ∷ [];
  platforms = [];
}

abbrev pub two : ClusterView
two = record {
  profile = 2;
  node_names = (97 ∷ []) ∷ (98 ∷ []) ∷ [];
  app_names = (119 ∷ []) ∷ [];
  platform_names = [];
  nodes = node_of b ∷ node_of a ∷ [];
  apps = record { deps = []; start_arg = None; phases = false; spread = Some spread } ∷ [];
}

abbrev pub file : OwnFile
file = record {
  own = record {
    has_dist = true;
    entries = record {
      app = web;
      timeout = 5000;
      places = record { is_tuple = false; nodes = a ∷ [] } ∷ record { is_tuple = false; nodes = b ∷ [] } ∷ [];
    } ∷ [];
  };
  wait = wait.After 12000;
}

-- ---- the cluster file would be accepted

two_apart : {A : Type 0} (P : A → A → Type 0) (x y : A) → P x y → AllPairs P (x ∷ y ∷ [])
two_apart P x y p zero zero d before inside = absurd (omega (arith, before))
two_apart P x y p zero (suc zero) d before inside = p
two_apart P x y p zero (suc (suc j)) d before inside = absurd (omega (arith, inside))
two_apart P x y p (suc i) j d before inside = absurd (omega (arith, before, inside))

abbrev IsNodeIn : Node → Type 0
IsNodeIn m = m.0 < 2

mandatory_in : (k : ℕ) → All IsNodeIn (mandatory_of two (numbered k))
mandatory_in zero = All-nil IsNodeIn
mandatory_in (suc zero) = All-nil IsNodeIn
mandatory_in (suc (suc k)) = All-nil IsNodeIn

optional_in : (k : ℕ) → All IsNodeIn (optional_of two (numbered k))
optional_in zero = All-cons IsNodeIn b [] (omega arith) (All-nil IsNodeIn)
optional_in (suc zero) = All-cons IsNodeIn a [] (omega arith) (All-nil IsNodeIn)
optional_in (suc (suc k)) = All-nil IsNodeIn

wait_in : (k : ℕ) → IsWithinLimit (sync_wait_of two (numbered k))
wait_in zero = omega arith
wait_in (suc zero) = omega arith
wait_in (suc (suc k)) = tt

boot_none : (k : ℕ) → boot_of two (numbered k) ≡ []
boot_none zero = refl
boot_none (suc zero) = refl
boot_none (suc (suc k)) = refl

abbrev a_name : List ℕ
a_name = 97 ∷ []

abbrev b_name : List ℕ
b_name = 98 ∷ []

names_apart : a_name ≢ b_name
names_apart is = let same : 97 ≡ 98 = ap (λ (l : List ℕ). sum l) is in omega (arith, same)

lists_in : (k : ℕ) (v : NodeView) → slice_get two.nodes k ≡ Some v → (length v.permissions ≡ 1) × (length v.platforms ≡ 0)
lists_in zero v is =
    let same = sym (same_Some _ v is) in
    (ap (λ (x : NodeView). length x.permissions) same, ap (λ (x : NodeView). length x.platforms) same)
lists_in (suc zero) v is =
    let same = sym (same_Some _ v is) in
    (ap (λ (x : NodeView). length x.permissions) same, ap (λ (x : NodeView). length x.platforms) same)
lists_in (suc (suc k)) v is = absurd (none-some v is)

deps_none : (k : ℕ) → deps_of two (app_numbered k) ≡ []
deps_none zero = refl
deps_none (suc k) = refl

spread_is : (k : ℕ) (x : Spread) → spread_of two (app_numbered k) ≡ Some x → spread ≡ x
spread_is zero x is = same_Some spread x is
spread_is (suc k) x is = absurd (none-some x is)

abbrev AreNodes : List Node → Type 0
AreNodes g = All IsNodeIn g

groups_in : All AreNodes spread.groups
groups_in =
    All-cons AreNodes (a ∷ []) ((b ∷ []) ∷ []) (All-cons IsNodeIn a [] (omega arith) (All-nil IsNodeIn))
    (All-cons AreNodes (b ∷ []) [] (All-cons IsNodeIn b [] (omega arith) (All-nil IsNodeIn)) (All-nil AreNodes))

abbrev BootsIn : List (App × Restart) → Type 0
BootsIn l = All (λ (e : App × Restart). e.0.0 < app_count two) l

pub within : IsWithin two
within = record {
  profile = refl;
  some_node = omega arith;
  few_nodes = omega arith;
  few_apps = omega arith;
  few_platforms = omega arith;
  node_names = two_apart (λ (name later : List ℕ). name ≢ later) a_name b_name names_apart;
  app_names = λ i j d before inside. absurd (omega (arith, before, inside));
  platform_names = λ i j d before inside. absurd (omega (arith, before, inside));
  nodes = refl;
  apps = refl;
  mandatory = λ n. mandatory_in n.0;
  optional = λ n. optional_in n.0;
  sync_wait = λ n. wait_in n.0;
  boot = λ n. subst BootsIn (sym (boot_none n.0)) (All-nil _);
  boot_once = λ n. subst (AllPairs (λ (e later : App × Restart). e.0.0 ≢ later.0.0)) (sym (boot_none n.0))
      (λ i j d before inside. absurd (omega (arith, before, inside)));
  boot_listed = λ n. subst (All (λ (e : App × Restart). is_listed_at two e.0 n ≡ true)) (sym (boot_none n.0)) (All-nil _);
  permissions = λ k v is. (lists_in k v is).0;
  platforms = λ k v is. (lists_in k v is).1;
  deps = λ x. subst (All (λ (d : Dep). IsSome (dep_name two d))) (sym (deps_none x.0)) (All-nil _);
  groups = λ x v is. subst (λ (y : Spread). All AreNodes y.groups) (spread_is x.0 v is) groups_in;
  timeouts = λ x v is. subst (λ (y : Spread). y.timeout ≤ timeout_limit) (spread_is x.0 v is) (omega arith);
}
