-- A cluster of one node, which boots two distributed applications, one of which it may run: its file would be accepted.
use Rattle.std.proofs.Common.{◌≡◌, ◌≢◌, ◌<◌, ◌≤◌, ℕ, zero, suc, true, false, None, Some, IsSome, List, [], ◌∷◌, sum, length, slice_get, AllPairs, refl, sym, ap, subst, arith}
use Rattle.std.specs.Prelude.{All}
use Rattle.std.proofs.lemmas.Option.{none-some, same_Some}
use Rattle.std.proofs.lemmas.List.Elements.{All-nil, All-cons}
use Rattle.rh_model.specs.ClusterView.{ClusterView, NodeView, AppView, IsWithin, app_count, numbered, app_numbered, mandatory_of, optional_of, sync_wait_of, boot_of, deps_of, is_listed_at, spread_of, dep_name}
use Rattle.rh_model.specs.Limits.{IsWithinLimit}
use Rattle.rh_model.specs.declared.node.App.{App}
use Rattle.rh_model.specs.declared.node.Node.{Node}
use Rattle.rh_model.specs.declared.settings.Dep.{Dep}
use Rattle.rh_model.specs.declared.settings.Restart.{Restart}
use Rattle.rh_model.specs.declared.settings.Restart.TheVariants.{Temporary}
use Rattle.rh_model.proofs.PlainNode.{plain_node}
use Rattle.rh_otp_model.specs.declared.wait.OwnFile.{OwnFile}
use Rattle.rh_otp_model.specs.declared.wait.Wait.TheVariants as wait
use Rattle.rh_otp_model.specs.Own.{EntryView}
use Rattle.rh_model.specs.declared.settings.Spread.{Spread}
use Rattle.rh_model.specs.Limits.{timeout_limit}

abbrev pub a : Node
a = numbered 0

abbrev pub web : App
web = app_numbered 0

abbrev pub mail : App
mail = app_numbered 1

-- each is distributed, and its list is the node itself
abbrev pub spread : Spread
spread = record { timeout = 5000; groups = (a ∷ []) ∷ [] }

abbrev pub app : AppView
app = record { deps = []; start_arg = None; phases = false; spread = Some spread }

-- one node, which waits for nobody and boots both applications, the second of which is forbidden there
abbrev pub shop : ClusterView
shop = record {
  profile = 2;
  node_names = (97 ∷ []) ∷ [];
  app_names = (119 ∷ []) ∷ (109 ∷ []) ∷ [];
  platform_names = [];
  nodes = record plain_node { boot = (web, Temporary) ∷ (mail, Temporary) ∷ []; permissions = true ∷ false ∷ [] } ∷ [];
  apps = app ∷ app ∷ [];
}

abbrev pub entry_of : App → EntryView
entry_of x = record { app = x; timeout = 5000; places = record { is_tuple = false; nodes = a ∷ [] } ∷ [] }

abbrev pub file : OwnFile
file = record { own = record { has_dist = true; entries = entry_of web ∷ entry_of mail ∷ [] }; wait = wait.Unset }

-- ---- the cluster file would be accepted

two_apart : {A : Type 0} (P : A → A → Type 0) (x y : A) → P x y → AllPairs P (x ∷ y ∷ [])
two_apart P x y p zero zero d before inside = absurd (omega (arith, before))
two_apart P x y p zero (suc zero) d before inside = p
two_apart P x y p zero (suc (suc j)) d before inside = absurd (omega (arith, inside))
two_apart P x y p (suc i) j d before inside = absurd (omega (arith, before, inside))

mandatory_in : (k : ℕ) → All (λ (m : Node). m.0 < 1) (mandatory_of shop (numbered k))
mandatory_in zero = All-nil (λ (m : Node). m.0 < 1)
mandatory_in (suc k) = All-nil (λ (m : Node). m.0 < 1)

optional_in : (k : ℕ) → All (λ (m : Node). m.0 < 1) (optional_of shop (numbered k))
optional_in zero = All-nil (λ (m : Node). m.0 < 1)
optional_in (suc k) = All-nil (λ (m : Node). m.0 < 1)

wait_in : (k : ℕ) → IsWithinLimit (sync_wait_of shop (numbered k))
wait_in zero = tt
wait_in (suc k) = tt

abbrev IsOfShop : App × Restart → Type 0
IsOfShop e = e.0.0 < app_count shop

boot_in : (k : ℕ) → All IsOfShop (boot_of shop (numbered k))
boot_in zero =
    All-cons IsOfShop (web, Temporary) ((mail, Temporary) ∷ []) (omega arith)
    (All-cons IsOfShop (mail, Temporary) [] (omega arith) (All-nil IsOfShop))
boot_in (suc k) = All-nil IsOfShop

-- they have different numbers, and different names
web_apart : web.0 ≢ mail.0
web_apart is = omega (arith, is)

abbrev web_name : List ℕ
web_name = 119 ∷ []

abbrev mail_name : List ℕ
mail_name = 109 ∷ []

names_apart : web_name ≢ mail_name
names_apart is = let same : 119 ≡ 109 = ap (λ (l : List ℕ). sum l) is in omega (arith, same)

once_in : (k : ℕ) → AllPairs (λ (e later : App × Restart). e.0.0 ≢ later.0.0) (boot_of shop (numbered k))
once_in zero = two_apart (λ (e later : App × Restart). e.0.0 ≢ later.0.0) (web, Temporary) (mail, Temporary) web_apart
once_in (suc k) = λ i j d before inside. absurd (omega (arith, before, inside))

abbrev MayBoot : ℕ → App × Restart → Type 0
MayBoot k e = is_listed_at shop e.0 (numbered k) ≡ true

listed_in : (k : ℕ) → All (MayBoot k) (boot_of shop (numbered k))
listed_in zero =
    All-cons (MayBoot 0) (web, Temporary) ((mail, Temporary) ∷ []) refl (All-cons (MayBoot 0) (mail, Temporary) [] refl (All-nil
    (MayBoot 0)))
listed_in (suc k) = All-nil (MayBoot (suc k))

lists_in : (k : ℕ) (v : NodeView) → slice_get shop.nodes k ≡ Some v → (length v.permissions ≡ 2) × (length v.platforms ≡ 0)
lists_in zero v is =
    let same = sym (same_Some _ v is) in
    (ap (λ (x : NodeView). length x.permissions) same, ap (λ (x : NodeView). length x.platforms) same)
lists_in (suc k) v is = absurd (none-some v is)

deps_none : (k : ℕ) → deps_of shop (app_numbered k) ≡ []
deps_none zero = refl
deps_none (suc zero) = refl
deps_none (suc (suc k)) = refl

spread_is : (k : ℕ) (x : Spread) → spread_of shop (app_numbered k) ≡ Some x → spread ≡ x
spread_is zero x is = same_Some spread x is
spread_is (suc zero) x is = same_Some spread x is
spread_is (suc (suc k)) x is = absurd (none-some x is)

abbrev IsNodeIn : Node → Type 0
IsNodeIn m = m.0 < 1

abbrev AreNodes : List Node → Type 0
AreNodes g = All IsNodeIn g

groups_in : All AreNodes spread.groups
groups_in = All-cons AreNodes (a ∷ []) [] (All-cons IsNodeIn a [] (omega arith) (All-nil IsNodeIn)) (All-nil AreNodes)

pub within : IsWithin shop
within = record {
  profile = refl;
  some_node = omega arith;
  few_nodes = omega arith;
  few_apps = omega arith;
  few_platforms = omega arith;
  node_names = λ i j d before inside. absurd (omega (arith, before, inside));
  app_names = two_apart (λ (name later : List ℕ). name ≢ later) web_name mail_name names_apart;
  platform_names = λ i j d before inside. absurd (omega (arith, before, inside));
  nodes = refl;
  apps = refl;
  mandatory = λ n. mandatory_in n.0;
  optional = λ n. optional_in n.0;
  sync_wait = λ n. wait_in n.0;
  boot = λ n. boot_in n.0;
  boot_once = λ n. once_in n.0;
  boot_listed = λ n. listed_in n.0;
  permissions = λ k v is. (lists_in k v is).0;
  platforms = λ k v is. (lists_in k v is).1;
  deps = λ x. subst (All (λ (d : Dep). IsSome (dep_name shop d))) (sym (deps_none x.0)) (All-nil _);
  groups = λ x v is. subst (λ (y : Spread). All AreNodes y.groups) (spread_is x.0 v is) groups_in;
  timeouts = λ x v is. subst (λ (y : Spread). y.timeout ≤ timeout_limit) (spread_is x.0 v is) (omega arith);
}
