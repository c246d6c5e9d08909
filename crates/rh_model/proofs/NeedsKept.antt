-- What a cluster keeps of an application's needs is what its settings tell.
use Rattle.std.proofs.Common.{◌≡◌, sym, ap, ◌∙◌, ℕ, ◌+◌, ◌<◌, List, [], ◌∷◌, ◌++◌, length, take, get_or, slice_get, map, filter_map}
use Rattle.std.proofs.Common.{Option, Some, None, unwrap_or, IsSome, All, false, refl, subst, arith}
use Rattle.std.proofs.lemmas.List.{take_more}
use Rattle.std.proofs.lemmas.List.Elements.{All-nil, All-tail, filter_map-append}
use Rattle.std.proofs.lemmas.Option.{slice_get-map, slice_get_within, none-some}
use Rattle.std.specs.Option.{option_map, option_to_list}
use Rattle.rh_model.specs.declared.settings.Dep.{Dep}
use Rattle.rh_model.specs.declared.settings.Dep.TheVariants.{Listed, Platform}
use Rattle.rh_model.specs.declared.node.Node.{Node}
use Rattle.rh_model.specs.declared.node.App.{App}
use Rattle.rh_base.proofs.Elements.{All-cons_option}
use Rattle.rh_model.specs.ClusterView.{ClusterView, AppView, deps_of, dep_name, app_count}
use Rattle.rh_model.specs.Needs.{NeedsView, has_platforms, listed, is_home, needed_apps, needs_of, needs_in}

some_same : {A : Type 0} → (x y : A) → Some x ≡ Some y → x ≡ y
some_same x y h = ap (λ o. unwrap_or o x) h

-- what is kept is that of the application's settings
kept_of : (c : ClusterView) (a : App) (k : NeedsView) (o : Option AppView) → slice_get c.apps a.0 ≡ o → option_map (needs_of c.nodes) o ≡ Some k
    → k ≡ record { homes = map (has_platforms (deps_of c a)) c.nodes; apps = filter_map listed (deps_of c a) }
kept_of c a k None found h = absurd (none-some k h)
kept_of c a k (Some v) found h = sym (some_same (needs_of c.nodes v) k h)
    ∙ ap (λ o. needs_of c.nodes (record { deps = unwrap_or (option_map (λ (w : AppView). w.deps) o) []; start_arg = None; phases = false; spread = None }))
    (sym found)

kept : (c : ClusterView) (a : App) (k : NeedsView) → slice_get (needs_in c.nodes c.apps) a.0 ≡ Some k
    → k ≡ record { homes = map (has_platforms (deps_of c a)) c.nodes; apps = filter_map listed (deps_of c a) }
kept c a k h = kept_of c a k (slice_get c.apps a.0) refl (sym (slice_get-map (needs_of c.nodes) c.apps a.0) ∙ h)

pub home_kept : (c : ClusterView) (a : App) (n : Node) (k : NeedsView) → slice_get (needs_in c.nodes c.apps) a.0 ≡ Some k
    → unwrap_or (slice_get k.homes n.0) false ≡ is_home c a n
unfolding is_home
home_kept c a n k h = ap (λ (k : NeedsView). unwrap_or (slice_get k.homes n.0) false) (kept c a k h)
    ∙ ap (λ o. unwrap_or o false) (slice_get-map (has_platforms (deps_of c a)) c.nodes n.0)

pub apps_kept : (c : ClusterView) (a : App) (k : NeedsView) → slice_get (needs_in c.nodes c.apps) a.0 ≡ Some k → k.apps ≡ needed_apps c a
unfolding needed_apps
apps_kept c a k h = ap (λ (k : NeedsView). k.apps) (kept c a k h)

-- one more of what is needed
pub listed_more : (deps : List Dep) (n : ℕ) (d : Dep) → n < length deps
    → filter_map listed (take (n + 1) deps) ≡ filter_map listed (take n deps) ++ option_to_list (listed (get_or deps n d))
listed_more deps n d inside = ap (filter_map listed) (take_more deps n d inside)
    ∙ filter_map-append listed (take n deps) (get_or deps n d ∷ [])
    ∙ ap (λ ys. filter_map listed (take n deps) ++ ys) (one (get_or deps n d))
  where
    one : (dep : Dep) → filter_map listed (dep ∷ []) ≡ option_to_list (listed dep)
    one (Listed a) = refl
    one (Platform p) = refl

-- a place that holds something is one of the list's
inside : {A : Type 0} → (xs : List A) (k : ℕ) → IsSome (slice_get xs k) → k < length xs
inside {A = A} xs k there = by (slice_get xs k) refl there
  where
    by : (o : Option A) → slice_get xs k ≡ o → IsSome o → k < length xs
    by (Some x) is there = slice_get_within xs k x is
    by None is there = absurd (cc there)

-- an application that has a name is one of the cluster's
is_known : (c : ClusterView) (d : Dep) → IsSome (dep_name c d) → (b : App) → listed d ≡ Some b → b.0 < app_count c
is_known c (Listed a) known b is = subst (λ (m : App). m.0 < app_count c) (some_same a b is) (inside c.app_names a.0 known)
is_known c (Platform p) known b is = absurd (none-some b is)

pub known_apps : (c : ClusterView) (deps : List Dep) → All (λ (d : Dep). IsSome (dep_name c d)) deps
    → All (λ (b : App). b.0 < app_count c) (filter_map listed deps)
known_apps c [] known = All-nil (λ (b : App). b.0 < app_count c)
known_apps c (d ∷ deps) known = All-cons_option (λ (b : App). b.0 < app_count c) (listed d) (filter_map listed deps)
    (is_known c d (known 0 d (omega arith)))
    (known_apps c deps (All-tail (λ (d : Dep). IsSome (dep_name c d)) d deps known))
