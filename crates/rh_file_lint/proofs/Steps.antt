-- One step more of what applications depend on.
use Rattle.std.proofs.Common.{◌≡◌, ℕ, ◌+◌, ◌-◌, zero, suc, ◌<◌, ◌||◌, Bool, false, List, [], ◌∷◌, map, slice_get, unwrap_or, filter_map, Option, Some, None, IsSome, All, refl, sym, ap, ◌∙◌, arith}
use Rattle.std.specs.List.{list_any, range_with_len}
use Rattle.std.specs.Option.{option_map}
use Rattle.std.proofs.lemmas.Option.{slice_get-map, slice_get-get_or, slice_get_within}
use Rattle.std.proofs.lemmas.List.Elements.{All-nil, All-cons, All-head, All-tail}
use Rattle.std.proofs.lemmas.List.FromFn.{length-map-range_with_len, get_or-map-range_with_len}
use Rattle.rh_model.specs.declared.node.App.{App}
use Rattle.rh_model.specs.ClusterView.{ClusterView, IsWithin, app_count, app_numbered, deps_of, dep_name}
use Rattle.rh_model.specs.Needs.{needed_apps, listed}
use Rattle.rh_model.specs.declared.settings.Dep.{Dep}
use Rattle.rh_model.specs.declared.settings.Dep.TheVariants.{Listed, Platform}
use Rattle.rh_state.specs.Numbers.{apps_of, same_app}
use Rattle.rh_file_lint.specs.Circles.{depends_within, is_marked, needs_marked}

-- the mark of an application is what it was given
mark_given : (g : App → Bool) (n : ℕ) (a : App) → a.0 < n → is_marked (map g (map app_numbered (range_with_len 0 n))) a ≡ g a
mark_given g n a lt =
    let long = length-map-range_with_len app_numbered 0 n in
    ap (λ o. unwrap_or o false) (slice_get-map g (map app_numbered (range_with_len 0 n)) a.0)
    ∙ ap (λ o. unwrap_or (option_map g o) false) (slice_get-get_or (map app_numbered (range_with_len 0 n)) a.0 a (omega arith))
    ∙ ap g (get_or-map-range_with_len app_numbered 0 n a.0 a.0 a lt (plus a.0))
  where
    plus : (i : ℕ) → 0 + i ≡ i
    plus i = omega arith

-- tests that agree on the numbers of a list
same_any : (p q : App → Bool) (n : ℕ) (xs : List App) → All (λ (d : App). d.0 < n) xs → ((d : App) → d.0 < n → p d ≡ q d) → list_any p xs ≡ list_any q xs
same_any p q n [] below each = refl
same_any p q n (x ∷ xs) below each =
    let here = each x (All-head (λ (d : App). d.0 < n) x xs below) in
    let rest = same_any p q n xs (All-tail (λ (d : App). d.0 < n) x xs below) each in
    λ i. here i || rest i

-- a number that has a name is one of the cluster's
has_name : (c : ClusterView) (a : App) (o : Option (List ℕ)) → slice_get c.app_names a.0 ≡ o → IsSome o → a.0 < app_count c
has_name c a (Some name) is there = slice_get_within c.app_names a.0 name is
has_name c a None is there = absurd (cc there)

known_apps : (c : ClusterView) (deps : List Dep) → All (λ (d : Dep). IsSome (dep_name c d)) deps → All (λ (b : App). b.0 < app_count c) (filter_map listed deps)
known_apps c [] known = All-nil (λ (b : App). b.0 < app_count c)
known_apps c (Listed a ∷ deps) known = All-cons (λ (b : App). b.0 < app_count c) a (filter_map listed deps)
    (has_name c a (slice_get c.app_names a.0) refl (All-head (λ (d : Dep). IsSome (dep_name c d)) (Listed a) deps known))
    (known_apps c deps (All-tail (λ (d : Dep). IsSome (dep_name c d)) (Listed a) deps known))
known_apps c (Platform p ∷ deps) known = known_apps c deps (All-tail (λ (d : Dep). IsSome (dep_name c d)) (Platform p) deps known)

known_needs : (c : ClusterView) → IsWithin c → (a : App) → All (λ (d : App). d.0 < app_count c) (needed_apps c a)
unfolding needed_apps
known_needs c within a = known_apps c (deps_of c a) (within.deps a)

one_step : (c : ClusterView) (steps : ℕ) (marks : List Bool) (b : App) → IsWithin c
    → ((a : App) → a.0 < app_count c → is_marked marks a ≡ depends_within steps c a b)
    → (a : App) → needs_marked c marks b a ≡ depends_within (suc steps) c a b
unfolding needs_marked depends_within
one_step c steps marks b within so_far a =
    same_any (λ (d : App). same_app d b || is_marked marks d) (λ (d : App). same_app d b || depends_within steps c d b) (app_count c) (needed_apps c a)
    (known_needs c within a) (λ d lt. ap (λ k. same_app d b || k) (so_far d lt))

pub step_more : (c : ClusterView) (steps : ℕ) (marks more : List Bool) (b : App) → IsWithin c
    → ((a : App) → a.0 < app_count c → is_marked marks a ≡ depends_within steps c a b) → more ≡ map (needs_marked c marks b) (apps_of c)
    → (a : App) → a.0 < app_count c → is_marked more a ≡ depends_within (steps + 1) c a b
unfolding apps_of
step_more c steps marks more b within so_far is a lt =
    ap (λ ms. is_marked ms a) is
    ∙ mark_given (needs_marked c marks b) (app_count c) a lt
    ∙ one_step c steps marks b within so_far a
    ∙ ap (λ k. depends_within k c a b) (plus steps)
  where
    plus : (k : ℕ) → suc k ≡ k + 1
    plus k = omega arith

pub none_yet : (c : ClusterView) (marks : List Bool) (b : App) → marks ≡ [] → (a : App) → is_marked marks a ≡ depends_within 0 c a b
unfolding depends_within
none_yet c marks b is a = ap (λ ms. is_marked ms a) is

-- ---- marks to which a step adds none: all later steps leave them
stays : (c : ClusterView) (marks : List Bool) (b : App) → IsWithin c → marks ≡ map (needs_marked c marks b) (apps_of c) → (later steps : ℕ)
    → ((a : App) → a.0 < app_count c → is_marked marks a ≡ depends_within steps c a b)
    → (a : App) → a.0 < app_count c → is_marked marks a ≡ depends_within (steps + later) c a b
stays c marks b within same zero steps so_far a lt =
    let e : steps ≡ steps + 0 = omega arith in
    so_far a lt ∙ ap (λ k. depends_within k c a b) e
stays c marks b within same (suc later) steps so_far a lt =
    let e : steps + 1 + later ≡ steps + suc later = omega arith in
    stays c marks b within same later (steps + 1) (step_more c steps marks marks b within so_far same) a lt ∙ ap (λ k. depends_within k c a b) e

pub settled : (c : ClusterView) (steps : ℕ) (marks more : List Bool) (b : App) → IsWithin c
    → ((a : App) → a.0 < app_count c → is_marked marks a ≡ depends_within steps c a b) → more ≡ map (needs_marked c marks b) (apps_of c)
    → more ≡ marks → steps < app_count c
    → (a : App) → a.0 < app_count c → is_marked more a ≡ depends_within (app_count c) c a b
settled c steps marks more b within so_far is same few a lt =
    let e : steps + (app_count c - steps) ≡ app_count c = omega arith in
    ap (λ ms. is_marked ms a) same
    ∙ stays c marks b within (sym same ∙ is) (app_count c - steps) steps so_far a lt
    ∙ ap (λ k. depends_within k c a b) e
