-- A cluster of two nodes, which wait for each other, and of two applications, both of which each node boots: its file would be accepted,
-- and its boot lists are in order.
use Rattle.std.proofs.Common.{◌≡◌, ◌≢◌, ◌<◌, ◌≤◌, ℕ, zero, suc, Bool, true, false, Option, None, Some, IsSome, List, [], ◌∷◌, sum, length, slice_get, AllPairs, refl, sym, ap, subst, arith}
use Rattle.std.specs.List.{filter}
use Rattle.std.specs.Prelude.{All}
use Rattle.std.proofs.lemmas.Bool.{true≢false}
use Rattle.std.proofs.lemmas.Option.{none-some, same_Some}
use Rattle.std.proofs.lemmas.List.Elements.{All-nil, All-cons}
use Rattle.rh_base.specs.Lists.{first_given}
use Rattle.rh_model.specs.ClusterView.{ClusterView, NodeView, IsWithin, numbered, app_numbered, mandatory_of, optional_of, sync_wait_of, boot_of, deps_of, is_listed_at, spread_of, dep_name}
use Rattle.rh_model.specs.Limits.{IsWithinLimit, timeout_limit}
use Rattle.rh_model.specs.declared.node.App.{App}
use Rattle.rh_model.specs.declared.node.Node.{Node}
use Rattle.rh_model.specs.declared.settings.Dep.{Dep}
use Rattle.rh_model.specs.declared.settings.Dep.TheVariants.{Listed}
use Rattle.rh_model.specs.declared.settings.Restart.{Restart}
use Rattle.rh_model.specs.declared.settings.Restart.TheVariants.{Permanent, Temporary}
use Rattle.rh_model.specs.declared.settings.Spread.{Spread}
use Rattle.rh_model.specs.declared.settings.SyncWait.TheVariants.{Forever}
use Rattle.rh_model.proofs.PlainNode.{plain_node}
use Rattle.rh_rules.specs.Course.{is_local}
use Rattle.rh_rules.specs.Placing.{groups_of}
use Rattle.rh_step_laws.specs.Laws.{boots}
use Rattle.rh_start_laws.specs.Starts.{IsBefore, InOrder, StartsInOrder, may_start}

abbrev pub p : Node
p = numbered 0

abbrev pub q : Node
q = numbered 1

-- log isn't distributed; web is, and needs it
abbrev pub log : App
log = app_numbered 0

abbrev pub web : App
web = app_numbered 1

abbrev pub spread : Spread
spread = record { timeout = 5000; groups = (p ∷ []) ∷ (q ∷ []) ∷ [] }

abbrev node : Node → List (App × Restart) → List Bool → NodeView
node other boot permissions =
    record plain_node { mandatory = other ∷ []; sync_wait = Forever; boot = boot; permissions = permissions }

-- both nodes have this boot list and these permissions, and web may run so
abbrev pub shop_of : List (App × Restart) → List Bool → Option Spread → ClusterView
shop_of boot permissions web_spread = record {
  profile = 2;
  node_names = (112 ∷ []) ∷ (113 ∷ []) ∷ [];
  app_names = (108 ∷ []) ∷ (119 ∷ []) ∷ [];
  platform_names = [];
  nodes = node q boot permissions ∷ node p boot permissions ∷ [];
  apps = record { deps = []; start_arg = None; phases = false; spread = None }
      ∷ record { deps = Listed log ∷ []; start_arg = None; phases = false; spread = web_spread }
      ∷ [];
}

abbrev pub boot : List (App × Restart)
boot = (log, Permanent) ∷ (web, Temporary) ∷ []

abbrev pub all_permitted : List Bool
all_permitted = true ∷ true ∷ []

abbrev pub shop : ClusterView
shop = shop_of boot all_permitted (Some spread)

-- ---- the cluster file would be accepted

two_apart : {A : Type 0} (P : A → A → Type 0) (x y : A) → P x y → AllPairs P (x ∷ y ∷ [])
two_apart P x y p zero zero d before inside = absurd (omega (arith, before))
two_apart P x y p zero (suc zero) d before inside = p
two_apart P x y p zero (suc (suc j)) d before inside = absurd (omega (arith, inside))
two_apart P x y p (suc i) j d before inside = absurd (omega (arith, before, inside))

abbrev IsNodeIn : Node → Type 0
IsNodeIn m = m.0 < 2

mandatory_in : (k : ℕ) → All IsNodeIn (mandatory_of shop (numbered k))
mandatory_in zero = All-cons IsNodeIn q [] (omega arith) (All-nil IsNodeIn)
mandatory_in (suc zero) = All-cons IsNodeIn p [] (omega arith) (All-nil IsNodeIn)
mandatory_in (suc (suc k)) = All-nil IsNodeIn

optional_in : (k : ℕ) → All IsNodeIn (optional_of shop (numbered k))
optional_in zero = All-nil IsNodeIn
optional_in (suc zero) = All-nil IsNodeIn
optional_in (suc (suc k)) = All-nil IsNodeIn

wait_in : (k : ℕ) → IsWithinLimit (sync_wait_of shop (numbered k))
wait_in zero = tt
wait_in (suc zero) = tt
wait_in (suc (suc k)) = tt

abbrev BootsIn : List (App × Restart) → Type 0
BootsIn l = All (λ (e : App × Restart). e.0.0 < 2) l

boot_in : (k : ℕ) → BootsIn (boot_of shop (numbered k))
boot_in zero = both_in
  where
    both_in : BootsIn boot
    both_in = All-cons (λ (e : App × Restart). e.0.0 < 2) (log, Permanent) ((web, Temporary) ∷ []) (omega arith)
        (All-cons (λ (e : App × Restart). e.0.0 < 2) (web, Temporary) [] (omega arith) (All-nil (λ (e : App × Restart). e.0.0 < 2)))
boot_in (suc zero) = boot_in zero
boot_in (suc (suc k)) = All-nil (λ (e : App × Restart). e.0.0 < 2)

web_apart : log.0 ≢ web.0
web_apart is = omega (arith, is)

once_in : (k : ℕ) → AllPairs (λ (e later : App × Restart). e.0.0 ≢ later.0.0) (boot_of shop (numbered k))
once_in zero = two_apart (λ (e later : App × Restart). e.0.0 ≢ later.0.0) (log, Permanent) (web, Temporary) web_apart
once_in (suc zero) = once_in zero
once_in (suc (suc k)) = λ i j d before inside. absurd (omega (arith, before, inside))

abbrev MayBoot : ℕ → App × Restart → Type 0
MayBoot k e = is_listed_at shop e.0 (numbered k) ≡ true

listed_in : (k : ℕ) → All (MayBoot k) (boot_of shop (numbered k))
listed_in zero =
    All-cons (MayBoot 0) (log, Permanent) ((web, Temporary) ∷ []) refl (All-cons (MayBoot 0) (web, Temporary) [] refl (All-nil (MayBoot 0)))
listed_in (suc zero) =
    All-cons (MayBoot 1) (log, Permanent) ((web, Temporary) ∷ []) refl (All-cons (MayBoot 1) (web, Temporary) [] refl (All-nil (MayBoot 1)))
listed_in (suc (suc k)) = All-nil (MayBoot (suc (suc k)))

abbrev p_name : List ℕ
p_name = 112 ∷ []

abbrev q_name : List ℕ
q_name = 113 ∷ []

abbrev log_name : List ℕ
log_name = 108 ∷ []

abbrev web_name : List ℕ
web_name = 119 ∷ []

node_names_apart : p_name ≢ q_name
node_names_apart is = let same : 112 ≡ 113 = ap (λ (l : List ℕ). sum l) is in omega (arith, same)

app_names_apart : log_name ≢ web_name
app_names_apart is = let same : 108 ≡ 119 = ap (λ (l : List ℕ). sum l) is in omega (arith, same)

lists_in : (k : ℕ) (v : NodeView) → slice_get shop.nodes k ≡ Some v → (length v.permissions ≡ 2) × (length v.platforms ≡ 0)
lists_in zero v is =
    let same = sym (same_Some _ v is) in
    (ap (λ (x : NodeView). length x.permissions) same, ap (λ (x : NodeView). length x.platforms) same)
lists_in (suc zero) v is =
    let same = sym (same_Some _ v is) in
    (ap (λ (x : NodeView). length x.permissions) same, ap (λ (x : NodeView). length x.platforms) same)
lists_in (suc (suc k)) v is = absurd (none-some v is)

abbrev IsNamed : Dep → Type 0
IsNamed d = IsSome (dep_name shop d)

deps_in : (k : ℕ) → All IsNamed (deps_of shop (app_numbered k))
deps_in zero = All-nil IsNamed
deps_in (suc zero) = All-cons IsNamed (Listed log) [] refl (All-nil IsNamed)
deps_in (suc (suc k)) = All-nil IsNamed

spread_is : (k : ℕ) (x : Spread) → spread_of shop (app_numbered k) ≡ Some x → spread ≡ x
spread_is zero x is = absurd (none-some x is)
spread_is (suc zero) x is = same_Some spread x is
spread_is (suc (suc k)) x is = absurd (none-some x is)

abbrev AreNodes : List Node → Type 0
AreNodes g = All IsNodeIn g

groups_in : All AreNodes spread.groups
groups_in =
    All-cons AreNodes (p ∷ []) ((q ∷ []) ∷ []) (All-cons IsNodeIn p [] (omega arith) (All-nil IsNodeIn))
    (All-cons AreNodes (q ∷ []) [] (All-cons IsNodeIn q [] (omega arith) (All-nil IsNodeIn)) (All-nil AreNodes))

pub within : IsWithin shop
within = record {
  profile = refl;
  some_node = omega arith;
  few_nodes = omega arith;
  few_apps = omega arith;
  few_platforms = omega arith;
  node_names = two_apart (λ (name later : List ℕ). name ≢ later) p_name q_name node_names_apart;
  app_names = two_apart (λ (name later : List ℕ). name ≢ later) log_name web_name app_names_apart;
  platform_names = λ i j d before inside. absurd (omega (arith, before, inside));
  nodes = refl;
  apps = refl;
  mandatory = λ n. mandatory_in n.0;
  optional = λ n. optional_in n.0;
  sync_wait = λ n. wait_in n.0;
  boot = λ n. boot_in n.0;
  boot_once = λ n. once_in n.0;
  boot_listed = λ n. listed_in n.0;
  permissions = λ k v is. (lists_in k v is).0;
  platforms = λ k v is. (lists_in k v is).1;
  deps = λ x. deps_in x.0;
  groups = λ x v is. subst (λ (y : Spread). All AreNodes y.groups) (spread_is x.0 v is) groups_in;
  timeouts = λ x v is. subst (λ (y : Spread). y.timeout ≤ timeout_limit) (spread_is x.0 v is) (omega arith);
}

-- ---- and the boot lists are in order

pub order_in : (k : ℕ) → k < 2 → InOrder shop (numbered k) [] (boot_of shop (numbered k))
order_in zero lt = (
  All-nil (IsBefore shop p []),
  λ is. refl,
  (All-cons (IsBefore shop p (log ∷ [])) (Listed log) [] (refl, refl) (All-nil (IsBefore shop p (log ∷ []))), λ is. refl, tt),
)
order_in (suc zero) lt = (
  All-nil (IsBefore shop q []),
  λ is. refl,
  (All-cons (IsBefore shop q (log ∷ [])) (Listed log) [] (refl, refl) (All-nil (IsBefore shop q (log ∷ []))), λ is. refl, tt),
)
order_in (suc (suc k)) lt = absurd (omega (arith, lt))

pub first_in : (m : Node) (k : ℕ) → boots shop m (app_numbered k) ≡ true → is_local shop (app_numbered k) ≡ false
    → first_given (filter (may_start shop (app_numbered k))) (groups_of shop (app_numbered k)) ≡ p ∷ []
first_in m zero there far = absurd (true≢false far)
first_in m (suc zero) there far = refl
first_in m (suc (suc k)) there far = absurd (true≢false far)

unfoldable pub in_order : StartsInOrder shop
in_order = record {
  in_order = λ m lt. order_in m.0 lt;
  at = λ a. p;
  first = λ m a there far. first_in m a.0 there far;
}
