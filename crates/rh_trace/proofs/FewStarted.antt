-- At a node there are no more applications that are started than the cluster has.
use Rattle.std.proofs.Common.{◌≡◌, ◌≢◌, ◌<◌, ◌≤◌, ◌+◌, ◌||◌, ℕ, zero, suc, Bool, eqb, true, false, List, [], ◌∷◌, ◌++◌, length, length-append, map, get_or, All, AllPairs}
use Rattle.std.proofs.Common.{refl, sym, ◌∙◌, inl, inr, arith}
use Rattle.std.specs.List.{list_any}
use Rattle.std.proofs.lemmas.Bool.Decides.{eqb_tells, Decides-eqb}
use Rattle.std.proofs.lemmas.List.{get_or-map, length-map}
use Rattle.std.proofs.lemmas.List.Elements.{All-append}
use Rattle.std.proofs.lemmas.List.Kept.{AllPairs-cons}
use Rattle.std.proofs.lemmas.Map.Made.{IsDistinct-from_AllPairs}
use Rattle.std.proofs.lemmas.Map.Steps.{length-le_from_distinct_below}
use Rattle.rh_base.proofs.Lists.{cases}
use Rattle.rh_model.specs.ClusterView.{ClusterView, app_count, app_numbered}
use Rattle.rh_model.specs.declared.node.Node.{Node}
use Rattle.rh_model.specs.declared.node.App.{App}
use Rattle.rh_state.specs.Lists.{has_app}
use Rattle.rh_state.specs.Numbers.{same_app}
use Rattle.rh_state.specs.Shape.{IsAppOf, IsShaped, OnceAtEachNode}
use Rattle.rh_state.specs.StateView.{StateView, running_at, waiting_at}
use Rattle.rh_state.specs.Tables.{row}
use Rattle.rh_state.proofs.AppLists.{AreOnce, differs_from_absent}

numbers_differ : (apps : List App) → AreOnce apps → AllPairs (λ i j. i ≢ j) (map (λ (a : App). a.0) apps)
numbers_differ apps once i j d before within same =
    let f : App → ℕ = λ a. a.0 in
    let size = length-map apps f in
    let later : j < length apps = omega (arith, within, size) in
    let sooner : i < length apps = omega (arith, before, later) in
    let first : get_or (map f apps) i d ≡ f (get_or apps i (app_numbered d)) = get_or-map f apps i (app_numbered d) d sooner in
    let second : get_or (map f apps) j d ≡ f (get_or apps j (app_numbered d)) = get_or-map f apps j (app_numbered d) d later in
    once i j (app_numbered d) before later (sym first ∙ same ∙ second)

below : (n : ℕ) (apps : List App) → All (λ (a : App). a.0 < n) apps → (i : ℕ) → list_any (eqb i) (map (λ (a : App). a.0) apps) ≡ true → i < n
below n [] all i h = absurd cc
below n (a ∷ apps) all i h = elim (eqb_tells i a.0) [
  | inl e ↦ (let first = all 0 a (omega arith) in omega (arith, e.1, first))
  | inr e ↦ below n apps (λ k d l. all (suc k) d (omega (arith, l))) i (simp e.0 at h)
]

absent-cons : (a b : App) (apps : List App) → has_app (b ∷ apps) a ≡ false → (same_app a b ≡ false) × (has_app apps a ≡ false)
absent-cons a b apps = by (same_app a b)
  where
    by : (t : Bool) → (t || has_app apps a) ≡ false → (t ≡ false) × (has_app apps a ≡ false)
    by true h = absurd (cc)
    by false h = (refl, h)

-- a list that has an application doesn't lack it
not_absent : (a : App) (apps : List App) → has_app (a ∷ apps) a ≡ false → ⊥
not_absent a apps h = elim (eqb_tells a.0 a.0) [
  | inl e ↦ (let f = (absent-cons a a apps h).0 in cc (e.0, f))
  | inr e ↦ e.1 refl
]

-- two lists that have no application in common, one behind the other
joined : (xs ys : List App) → AreOnce xs → AreOnce ys → ((a : App) → has_app ys a ≡ true → has_app xs a ≡ false) → AreOnce (xs ++ ys)
joined [] ys once other apart = other
joined (x ∷ xs) ys once other apart =
    let absent : has_app ys x ≡ false = cases (has_app ys x) (λ t. absurd (not_absent x xs (apart x t))) (λ f. f) in
    AllPairs-cons (λ (a b : App). a.0 ≢ b.0) x (xs ++ ys)
    (All-append (λ (b : App). x.0 ≢ b.0) xs ys
    (λ k d l. once 0 (suc k) d (omega arith) (omega (arith, l)))
    (λ k d l e. differs_from_absent x ys absent k d l (sym e)))
    (joined xs ys (λ i j d a b. once (suc i) (suc j) d (omega (arith, a)) (omega (arith, b))) other
    (λ a h. (absent-cons a x xs (apart a h)).1))

all_of_row : (c : ClusterView) (table : List (List App)) (n : ℕ) → All (λ (apps : List App). All (IsAppOf c) apps) table → All (IsAppOf c) (row table n)
all_of_row c [] n all = λ k d l. absurd (omega (arith, l))
all_of_row c (xs ∷ table) zero all = all 0 xs (omega arith)
all_of_row c (xs ∷ table) (suc n) all = all_of_row c table n (λ k d l. all (suc k) d (omega (arith, l)))

pub few_started : (s : StateView) (n : Node) → IsShaped s → OnceAtEachNode s → length (running_at s n) + length (waiting_at s n) ≤ app_count s.cluster
few_started s n shape once =
    let xs = running_at s n in
    let ys = waiting_at s n in
    let different : AreOnce (xs ++ ys) = joined xs ys (once.running n) (once.waiting n) (once.apart n) in
    let numbered : All (IsAppOf s.cluster) (xs ++ ys) = All-append (IsAppOf s.cluster) xs ys
    (all_of_row s.cluster s.running n.0 shape.running_apps) (all_of_row s.cluster s.waiting n.0 shape.waiting_apps) in
    let numbers = map (λ (a : App). a.0) (xs ++ ys) in
    let few = length-le_from_distinct_below numbers (app_count s.cluster)
    (IsDistinct-from_AllPairs Decides-eqb numbers (numbers_differ (xs ++ ys) different)) (below (app_count s.cluster) (xs ++ ys) numbered) in
    let size = length-map (xs ++ ys) (λ (a : App). a.0) in
    let sum = length-append xs ys in omega (arith, few, size, sum)
