-- That nothing fails: what an application needs is there when its turn comes.
use Rattle.std.proofs.Common.{◌≡◌, ◌≤◌, ◌⊎◌, ◌==◌, ◌||◌, ℕ, Bool, true, false, not, cond, is_some, unwrap_or, List, [], ◌∷◌, map, Option, Some, None, refl, ap, subst, ◌∙◌, inl, inr, arith}
use Rattle.std.specs.Option.{option_map}
use Rattle.std.specs.Prelude.{All, find}
use Rattle.std.proofs.lemmas.Bool.{cases_Bool, eqb-true}
use Rattle.std.proofs.lemmas.List.Elements.{All-head, All-tail}
use Rattle.rh_model.specs.ClusterView.{ClusterView, deps_of, is_permitted}
use Rattle.rh_model.specs.declared.node.App.{App}
use Rattle.rh_model.specs.declared.node.Node.{Node}
use Rattle.rh_model.specs.declared.settings.Dep.{Dep}
use Rattle.rh_model.specs.declared.settings.Dep.TheVariants.{Listed, Platform}
use Rattle.rh_model.specs.declared.settings.Restart.{Restart}
use Rattle.rh_otp_model.specs.Rows.{is_of, keyfind, has_row}
use Rattle.rh_otp_controller.specs.Calls.{is_forbidden}
use Rattle.rh_otp_controller.specs.Starting.{has_need, lacks}
use Rattle.rh_otp_controller.specs.State.{TurnView}
use Rattle.rh_otp_dist.specs.Attempts.{has_app}
use Rattle.rh_otp_dist.specs.State.{DistView, beginning}
use Rattle.rh_otp_node.specs.declared.node.Phase.{Phase}
use Rattle.rh_otp_node.specs.Live.{is_alive, is_down, all_apps, permission_rows}
use Rattle.rh_otp_system.specs.State.{SystemView, node_at}
use Rattle.rh_otp_joins.proofs.Lists.{count_of}
use Rattle.rh_otp_gathers.specs.Gathers.{times}
use Rattle.rh_otp_gathers.proofs.Opening.{counts_so}
use Rattle.rh_otp_together.specs.Together.{IsBefore, IsToBoot, BootTogether}
use Rattle.rh_otp_together.proofs.Apps.{same_app}
use Rattle.rh_otp_together.proofs.Forms.{app_of, d0}

-- ---- rows

-- there are rows of those whose start is over
pub has_rows : {T : Type 0} (f : App × Restart → T) (a : App) (done : List (App × Restart))
    → has_row a (map (λ (row : App × Restart). (row.0, f row)) done) ≡ has_app a (map app_of done)
has_rows f a [] = refl
has_rows {T} f a (row ∷ done) = by (row.0.0 == a.0) (has_rows f a done)
  where
    by : (c : Bool) → has_row a (map (λ (r : App × Restart). (r.0, f r)) done) ≡ has_app a (map app_of done)
        → is_some (option_map (λ (r : App × T). r.1)
        (cond c (Some (row.0, f row)) (find (is_of a) (map (λ (r : App × Restart). (r.0, f r)) done))))
        ≡ (c || has_app a (map app_of done))
    by true same = refl
    by false same = same

finds_none : {A : Type 0} (p : A → Bool) (xs : List A) → All (λ (x : A). p x ≡ false) xs → find p xs ≡ None
finds_none p [] none = refl
finds_none {A} p (x ∷ xs) none =
    ap (λ (c : Bool). cond c (Some x) (find p xs)) (All-head (λ (y : A). p y ≡ false) x xs none)
    ∙ finds_none p xs (All-tail (λ (y : A). p y ≡ false) x xs none)

-- so it lacks nothing, started or running
pub lacks_none : {T : Type 0} (b : SystemView) (m : Node) (f : App × Restart → T) (a : App) (done : List (App × Restart)) (t : TurnView)
    → t.cluster ≡ b.cluster → t.here.node ≡ m → All (IsBefore b m (map app_of done)) (deps_of b.cluster a)
    → lacks (λ (c : App). has_row c (map (λ (row : App × Restart). (row.0, f row)) done)) t a ≡ None
lacks_none {T} b m f a done t in_cluster here before =
    ap (λ (c : ClusterView). find (λ (d : Dep). not (has_need counts t d)) (deps_of c a)) in_cluster
    ∙ none (deps_of b.cluster a) before
  where
    counts : App → Bool
    counts c = has_row c (map (λ (row : App × Restart). (row.0, f row)) done)

    there : (d : Dep) → IsBefore b m (map app_of done) d → not (has_need counts t d) ≡ false
    there (Listed c) is = ap not (has_rows f c done ∙ is)
    there (Platform p) is =
        ap not ((λ i. is_platform_of (in_cluster i) (here i) p) ∙ is)
      where
        is_platform_of : ClusterView → Node → ℕ → Bool
        is_platform_of c n p = has_need counts (record t { cluster = c; here = record t.here { node = n } }) (Platform p)

    none : (deps : List Dep) → All (IsBefore b m (map app_of done)) deps → find (λ (d : Dep). not (has_need counts t d)) deps ≡ None
    none [] all = refl
    none (d ∷ deps) all =
        ap (λ (c : Bool). cond c (Some d) (find (λ (x : Dep). not (has_need counts t x)) deps))
        (there d (All-head (IsBefore b m (map app_of done)) d deps all))
        ∙ none deps (All-tail (IsBefore b m (map app_of done)) d deps all)

-- ---- permissions

pub is_allowed : (c : ClusterView) (m : Node) (a : App) → is_permitted c m a ≡ true → is_forbidden (keyfind a (permission_rows c m)) ≡ false
is_allowed c m a permitted = by (all_apps c)
  where
    by : (apps : List App) → is_forbidden (keyfind a (map (λ (x : App). (x, is_permitted c m x)) apps)) ≡ false
    by [] = refl
    by (x ∷ apps) = at (cases_Bool (x.0 == a.0)) (by apps)
      where
        at : ((x.0 == a.0) ≡ true) ⊎ ((x.0 == a.0) ≡ false) → is_forbidden (keyfind a (map (λ (y : App). (y, is_permitted c m y)) apps))
            ≡ false
            → is_forbidden (keyfind a ((x, is_permitted c m x) ∷ map (λ (y : App). (y, is_permitted c m y)) apps)) ≡ false
        at (inl is) rest =
            ap (λ (d : Bool). is_forbidden
            (option_map (λ (r : App × Bool). r.1)
            (cond d (Some (x, is_permitted c m x)) (find (is_of a) (map (λ (y : App). (y, is_permitted c m y)) apps))))) is
            ∙ ap (λ (d : Bool). is_forbidden (Some d)) (ap (is_permitted c m) (same_app x a (eqb-true x.0 a.0 is)) ∙ permitted)
        at (inr other) rest =
            ap (λ (d : Bool). is_forbidden
            (option_map (λ (r : App × Bool). r.1)
            (cond d (Some (x, is_permitted c m x)) (find (is_of a) (map (λ (y : App). (y, is_permitted c m y)) apps))))) other
            ∙ rest

-- ---- what is so of a node that is alive

pub each_of : {b : SystemView} (g : BootTogether b) (m : Node) → 1 ≤ count_of m b.alive → IsToBoot g.apps g.at m b
each_of {b} g m alive = g.each m (subst (λ (k : ℕ). 1 ≤ k) (counts_so m b.alive) alive)

pub once_of : {b : SystemView} (g : BootTogether b) (m : Node) → 1 ≤ count_of m b.alive → count_of m b.alive ≡ 1
once_of {b} g m alive =
    let same : count_of m b.alive ≡ times m b.alive = counts_so m b.alive in
    let few : times m b.alive ≤ 1 = g.once m in
    omega (arith, alive, same, few)

pub up_of : {b : SystemView} (g : BootTogether b) (m : Node) → 1 ≤ count_of m b.alive → is_alive (node_at b m) ≡ true
up_of g m alive = ap (λ (p : Phase). cond (is_down p) false true) (each_of g m alive).up

pub dist_so : {b : SystemView} (g : BootTogether b) (m : Node) (alive : 1 ≤ count_of m b.alive) → d0 b g.at m ≡ (each_of g m alive).dist
dist_so {b} g m alive = ap (λ (o : Option DistView). unwrap_or o (beginning 0 0 m [])) (each_of g m alive).has
