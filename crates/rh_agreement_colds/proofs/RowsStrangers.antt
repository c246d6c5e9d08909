-- A cluster of two nodes, which wait for each other, and of three applications; the first node boots one application less than the second,
-- since it isn't in the list of that one. The cluster's file would be accepted, and its boot lists are in order.
use Rattle.std.proofs.Common.{◌≡◌, ◌≢◌, ◌<◌, ◌≤◌, ◌==◌, ℕ, zero, suc, true, false, None, Some, IsSome, List, [], ◌∷◌, length, slice_get, AllPairs, refl, sym, ap, subst, arith}
use Rattle.std.specs.List.{filter}
use Rattle.std.specs.Prelude.{All, if◌then◌else◌}
use Rattle.std.proofs.lemmas.Bool.{true≢false}
use Rattle.std.proofs.lemmas.Option.{none-some, same_Some}
use Rattle.std.proofs.lemmas.List.Elements.{All-nil, All-cons}
use Rattle.rh_base.specs.Lists.{first_given}
use Rattle.rh_model.specs.ClusterView.{ClusterView, NodeView, IsWithin, numbered, app_numbered, mandatory_of, optional_of, sync_wait_of, boot_of, deps_of, is_listed_at, spread_of, dep_name}
use Rattle.rh_model.specs.Limits.{IsWithinLimit, timeout_limit}
use Rattle.rh_model.specs.declared.node.App.{App}
use Rattle.rh_model.specs.declared.node.Node.{Node}
use Rattle.rh_model.specs.declared.settings.Dep.{Dep}
use Rattle.rh_model.specs.declared.settings.Dep.TheVariants.{Listed}
use Rattle.rh_model.specs.declared.settings.Restart.{Restart}
use Rattle.rh_model.specs.declared.settings.Restart.TheVariants.{Permanent, Temporary}
use Rattle.rh_model.specs.declared.settings.Spread.{Spread}
use Rattle.rh_model.specs.declared.settings.SyncWait.TheVariants.{Forever}
use Rattle.rh_model.proofs.PlainNode.{plain_node}
use Rattle.rh_rules.specs.Course.{is_local}
use Rattle.rh_rules.specs.Placing.{groups_of}
use Rattle.rh_step_laws.specs.Laws.{boots}
use Rattle.rh_start_laws.specs.Starts.{IsBefore, InOrder, StartsInOrder, may_start}
use Rattle.rh_start_laws.proofs.RowsCluster.{p, q, log, web, spread}

-- ---- the cluster

-- it is distributed, and needs nothing
abbrev pub db : App
db = app_numbered 2

abbrev pub db_spread : Spread
db_spread = record { timeout = 5000; groups = (q ∷ []) ∷ [] }

abbrev node : Node → List (App × Restart) → NodeView
node other boot =
    record plain_node { mandatory = other ∷ []; sync_wait = Forever; boot = boot; permissions = true ∷ true ∷ true ∷ [] }

abbrev pub without_db : List (App × Restart)
without_db = (log, Permanent) ∷ (web, Temporary) ∷ []

abbrev pub with_db : List (App × Restart)
with_db = (log, Permanent) ∷ (web, Temporary) ∷ (db, Temporary) ∷ []

abbrev pub store : ClusterView
store = record {
  profile = 2;
  node_names = (112 ∷ []) ∷ (113 ∷ []) ∷ [];
  app_names = (108 ∷ []) ∷ (119 ∷ []) ∷ (100 ∷ []) ∷ [];
  platform_names = [];
  nodes = node q without_db ∷ node p with_db ∷ [];
  apps = record { deps = []; start_arg = None; phases = false; spread = None }
      ∷ record { deps = Listed log ∷ []; start_arg = None; phases = false; spread = Some spread }
      ∷ record { deps = []; start_arg = None; phases = false; spread = Some db_spread }
      ∷ [];
}

-- ---- its file would be accepted

two_apart : {A : Type 0} (P : A → A → Type 0) (x y : A) → P x y → AllPairs P (x ∷ y ∷ [])
two_apart P x y one zero zero d before inside = absurd (omega (arith, before))
two_apart P x y one zero (suc zero) d before inside = one
two_apart P x y one zero (suc (suc j)) d before inside = absurd (omega (arith, inside))
two_apart P x y one (suc i) j d before inside = absurd (omega (arith, before, inside))

three_apart : {A : Type 0} (P : A → A → Type 0) (x y z : A) → P x y → P x z → P y z → AllPairs P (x ∷ y ∷ z ∷ [])
three_apart P x y z one two three zero zero d before inside = absurd (omega (arith, before))
three_apart P x y z one two three zero (suc zero) d before inside = one
three_apart P x y z one two three zero (suc (suc zero)) d before inside = two
three_apart P x y z one two three zero (suc (suc (suc j))) d before inside = absurd (omega (arith, inside))
three_apart P x y z one two three (suc zero) zero d before inside = absurd (omega (arith, before))
three_apart P x y z one two three (suc zero) (suc zero) d before inside = absurd (omega (arith, before))
three_apart P x y z one two three (suc zero) (suc (suc zero)) d before inside = three
three_apart P x y z one two three (suc zero) (suc (suc (suc j))) d before inside = absurd (omega (arith, inside))
three_apart P x y z one two three (suc (suc i)) j d before inside = absurd (omega (arith, before, inside))

abbrev IsNodeIn : Node → Type 0
IsNodeIn m = m.0 < 2

mandatory_in : (k : ℕ) → All IsNodeIn (mandatory_of store (numbered k))
mandatory_in zero = All-cons IsNodeIn q [] (omega arith) (All-nil IsNodeIn)
mandatory_in (suc zero) = All-cons IsNodeIn p [] (omega arith) (All-nil IsNodeIn)
mandatory_in (suc (suc k)) = All-nil IsNodeIn

optional_in : (k : ℕ) → All IsNodeIn (optional_of store (numbered k))
optional_in zero = All-nil IsNodeIn
optional_in (suc zero) = All-nil IsNodeIn
optional_in (suc (suc k)) = All-nil IsNodeIn

wait_in : (k : ℕ) → IsWithinLimit (sync_wait_of store (numbered k))
wait_in zero = tt
wait_in (suc zero) = tt
wait_in (suc (suc k)) = tt

-- what is so of the entries of the boot lists
two_rows : (P : App × Restart → Type 0) → P (log, Permanent) → P (web, Temporary) → All P without_db
two_rows P one two = All-cons P (log, Permanent) ((web, Temporary) ∷ []) one (All-cons P (web, Temporary) [] two (All-nil P))

three_rows : (P : App × Restart → Type 0) → P (log, Permanent) → P (web, Temporary) → P (db, Temporary) → All P with_db
three_rows P one two three =
    All-cons P (log, Permanent) ((web, Temporary) ∷ (db, Temporary) ∷ []) one
    (All-cons P (web, Temporary) ((db, Temporary) ∷ []) two (All-cons P (db, Temporary) [] three (All-nil P)))

abbrev IsAppIn : App × Restart → Type 0
IsAppIn e = e.0.0 < 3

boot_in : (k : ℕ) → All IsAppIn (boot_of store (numbered k))
boot_in zero = two_rows IsAppIn (omega arith) (omega arith)
boot_in (suc zero) = three_rows IsAppIn (omega arith) (omega arith) (omega arith)
boot_in (suc (suc k)) = All-nil IsAppIn

abbrev AreApart : App × Restart → App × Restart → Type 0
AreApart e later = e.0.0 ≢ later.0.0

once_in : (k : ℕ) → AllPairs AreApart (boot_of store (numbered k))
once_in zero = two_apart AreApart (log, Permanent) (web, Temporary) (λ is. omega (arith, is))
once_in (suc zero) =
    three_apart AreApart (log, Permanent) (web, Temporary) (db, Temporary) (λ is. omega (arith, is)) (λ is. omega (arith, is))
    (λ is. omega (arith, is))
once_in (suc (suc k)) = λ i j d before inside. absurd (omega (arith, before, inside))

abbrev MayBoot : ℕ → App × Restart → Type 0
MayBoot k e = is_listed_at store e.0 (numbered k) ≡ true

listed_in : (k : ℕ) → All (MayBoot k) (boot_of store (numbered k))
listed_in zero = two_rows (MayBoot 0) refl refl
listed_in (suc zero) = three_rows (MayBoot 1) refl refl refl
listed_in (suc (suc k)) = All-nil (MayBoot (suc (suc k)))

abbrev AreOthers : List ℕ → List ℕ → Type 0
AreOthers name later = name ≢ later

others : (j k : ℕ) → j ≢ k → AreOthers (j ∷ []) (k ∷ [])
others j k apart is = apart (let same : j ≡ k = cc in same)

lists_in : (k : ℕ) (v : NodeView) → slice_get store.nodes k ≡ Some v → (length v.permissions ≡ 3) × (length v.platforms ≡ 0)
lists_in zero v is =
    let same = sym (same_Some _ v is) in
    (ap (λ (x : NodeView). length x.permissions) same, ap (λ (x : NodeView). length x.platforms) same)
lists_in (suc zero) v is =
    let same = sym (same_Some _ v is) in
    (ap (λ (x : NodeView). length x.permissions) same, ap (λ (x : NodeView). length x.platforms) same)
lists_in (suc (suc k)) v is = absurd (none-some v is)

abbrev IsNamed : Dep → Type 0
IsNamed d = IsSome (dep_name store d)

deps_in : (k : ℕ) → All IsNamed (deps_of store (app_numbered k))
deps_in zero = All-nil IsNamed
deps_in (suc zero) = All-cons IsNamed (Listed log) [] refl (All-nil IsNamed)
deps_in (suc (suc zero)) = All-nil IsNamed
deps_in (suc (suc (suc k))) = All-nil IsNamed

abbrev AreNodes : List Node → Type 0
AreNodes g = All IsNodeIn g

-- its nodes are those of the cluster, and its timeout isn't too long
abbrev IsSpreadIn : Spread → Type 0
IsSpreadIn x = All AreNodes x.groups × (x.timeout ≤ timeout_limit)

spread_in : (k : ℕ) (x : Spread) → spread_of store (app_numbered k) ≡ Some x → IsSpreadIn x
spread_in zero x is = absurd (none-some x is)
spread_in (suc zero) x is =
    subst IsSpreadIn (same_Some spread x is) (
      All-cons AreNodes (p ∷ []) ((q ∷ []) ∷ []) (All-cons IsNodeIn p [] (omega arith) (All-nil IsNodeIn))
          (All-cons AreNodes (q ∷ []) [] (All-cons IsNodeIn q [] (omega arith) (All-nil IsNodeIn)) (All-nil AreNodes)),
      omega arith,
    )
spread_in (suc (suc zero)) x is =
    subst IsSpreadIn (same_Some db_spread x is) (
      All-cons AreNodes (q ∷ []) [] (All-cons IsNodeIn q [] (omega arith) (All-nil IsNodeIn)) (All-nil AreNodes),
      omega arith,
    )
spread_in (suc (suc (suc k))) x is = absurd (none-some x is)

pub within : IsWithin store
within = record {
  profile = refl;
  some_node = omega arith;
  few_nodes = omega arith;
  few_apps = omega arith;
  few_platforms = omega arith;
  node_names = two_apart AreOthers (112 ∷ []) (113 ∷ []) (others 112 113 (λ is. omega (arith, is)));
  app_names = three_apart AreOthers (108 ∷ []) (119 ∷ []) (100 ∷ []) (others 108 119 (λ is. omega (arith, is)))
      (others 108 100 (λ is. omega (arith, is))) (others 119 100 (λ is. omega (arith, is)));
  platform_names = λ i j d before inside. absurd (omega (arith, before, inside));
  nodes = refl;
  apps = refl;
  mandatory = λ n. mandatory_in n.0;
  optional = λ n. optional_in n.0;
  sync_wait = λ n. wait_in n.0;
  boot = λ n. boot_in n.0;
  boot_once = λ n. once_in n.0;
  boot_listed = λ n. listed_in n.0;
  permissions = λ k v is. (lists_in k v is).0;
  platforms = λ k v is. (lists_in k v is).1;
  deps = λ x. deps_in x.0;
  groups = λ x v is. (spread_in x.0 v is).0;
  timeouts = λ x v is. (spread_in x.0 v is).1;
}

-- ---- and the boot lists are in order

-- where they are to run
abbrev pub runner_of : App → Node
runner_of a = if a.0 == 1 then p else q

pub order_in : (k : ℕ) → k < 2 → InOrder store (numbered k) [] (boot_of store (numbered k))
order_in zero less = (
  All-nil (IsBefore store p []),
  λ is. refl,
  (All-cons (IsBefore store p (log ∷ [])) (Listed log) [] (refl, refl) (All-nil (IsBefore store p (log ∷ []))), λ is. refl, tt),
)
order_in (suc zero) less = (
  All-nil (IsBefore store q []),
  λ is. refl,
  (
    All-cons (IsBefore store q (log ∷ [])) (Listed log) [] (refl, refl) (All-nil (IsBefore store q (log ∷ []))),
    λ is. refl,
    (All-nil (IsBefore store q (web ∷ log ∷ [])), λ is. refl, tt),
  ),
)
order_in (suc (suc k)) less = absurd (omega (arith, less))

pub first_in : (m : Node) (k : ℕ) → boots store m (app_numbered k) ≡ true → is_local store (app_numbered k) ≡ false
    → first_given (filter (may_start store (app_numbered k))) (groups_of store (app_numbered k)) ≡ runner_of (app_numbered k) ∷ []
first_in m zero there far = absurd (true≢false far)
first_in m (suc zero) there far = refl
first_in m (suc (suc zero)) there far = refl
first_in m (suc (suc (suc k))) there far = absurd (true≢false far)

unfoldable pub in_order : StartsInOrder store
in_order = record {
  in_order = λ m less. order_in m.0 less;
  at = runner_of;
  first = λ m a there far. first_in m a.0 there far;
}
