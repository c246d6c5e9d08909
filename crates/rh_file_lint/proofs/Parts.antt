-- What holds of all that is told, and what is told.
use Rattle.std.proofs.Common.{◌≡◌, ◌<◌, ◌+◌, ℕ, zero, suc, Bool, true, false, List, [], ◌∷◌, ◌++◌, map, length, get_or, refl, sym, subst, arith, All, Contains}
use Rattle.std.specs.List.{flat_map, range_with_len}
use Rattle.std.proofs.lemmas.List.Elements.{All-nil, All-cons, All-append, Contains-append_left, Contains-append_right}
use Rattle.std.proofs.lemmas.List.FromFn.{length-map-range_with_len, get_or-map-range_with_len}
use Rattle.rh_model.specs.declared.node.Node.{Node}
use Rattle.rh_model.specs.declared.node.App.{App}
use Rattle.rh_model.specs.ClusterView.{ClusterView, node_count, app_count, numbered, app_numbered}
use Rattle.rh_state.specs.Numbers.{nodes_of, apps_of}
use Rattle.rh_file_lint.specs.declared.finding.FileFinding.{FileFinding}
use Rattle.rh_file_lint.specs.Findings.{finding_if, at_nodes, at_apps}
use Rattle.rh_file_lint.specs.Laws.{IsNode, IsApp, IsSo}

-- all findings of a list are so
pub record Sound (c : ClusterView) (xs : List FileFinding) : Type 0 where
  pub all : All (IsSo c) xs

-- a list has the finding
pub record Has (xs : List FileFinding) (f : FileFinding) : Type 0 where
  pub there : Contains xs f

-- ---- soundness
pub none_sound : (c : ClusterView) → Sound c []
none_sound c = record { all = All-nil (IsSo c) }

pub one_sound : (c : ClusterView) (f : FileFinding) → IsSo c f → Sound c (f ∷ [])
one_sound c f so = record { all = All-cons (IsSo c) f [] so (All-nil (IsSo c)) }

pub told_sound : (c : ClusterView) (f : FileFinding) (b : Bool) → (b ≡ true → IsSo c f) → Sound c (finding_if f b)
told_sound c f true so = one_sound c f (so refl)
told_sound c f false so = none_sound c

pub both_sound : (c : ClusterView) (xs ys : List FileFinding) → Sound c xs → Sound c ys → Sound c (xs ++ ys)
both_sound c xs ys s t = record { all = All-append (IsSo c) xs ys s.all t.all }

flat_sound : {A : Type 0} (c : ClusterView) (P : A → Type 0) (g : A → List FileFinding) → ((x : A) → P x → Sound c (g x)) → (xs : List A) → ((k : ℕ) (d : A) → k < length xs → P (get_or xs k d))
    → Sound c (flat_map g xs)
flat_sound c P g each [] known = none_sound c
flat_sound c P g each (x ∷ xs) known =
    both_sound c (g x) (flat_map g xs) (each x (known 0 x (omega arith))) (flat_sound c P g each xs (λ k d lt. known (suc k) d (omega arith)))

pub nodes_sound : (c : ClusterView) (g : Node → List FileFinding) → ((n : Node) → IsNode c n → Sound c (g n)) → Sound c (at_nodes c g)
unfolding nodes_of
nodes_sound c g each = flat_sound c (IsNode c) g each (map numbered (range_with_len 0 (node_count c))) (λ k d lt.
    let long = length-map-range_with_len numbered 0 (node_count c) in
    let below : k < node_count c = omega arith in
    subst (IsNode c) (sym (get_or-map-range_with_len numbered 0 (node_count c) k k d below (plus k))) below)
  where
    plus : (i : ℕ) → 0 + i ≡ i
    plus i = omega arith

pub apps_sound : (c : ClusterView) (g : App → List FileFinding) → ((a : App) → IsApp c a → Sound c (g a)) → Sound c (at_apps c g)
unfolding apps_of
apps_sound c g each = flat_sound c (IsApp c) g each (map app_numbered (range_with_len 0 (app_count c))) (λ k d lt.
    let long = length-map-range_with_len app_numbered 0 (app_count c) in
    let below : k < app_count c = omega arith in
    subst (IsApp c) (sym (get_or-map-range_with_len app_numbered 0 (app_count c) k k d below (plus k))) below)
  where
    plus : (i : ℕ) → 0 + i ≡ i
    plus i = omega arith

-- ---- completeness
pub one_told : (f : FileFinding) → Has (f ∷ []) f
one_told f = record { there = (0, omega arith, refl) }

pub told_if : (f : FileFinding) (b : Bool) → b ≡ true → Has (finding_if f b) f
told_if f true h = one_told f
told_if f false h = cc

pub left : (xs ys : List FileFinding) (f : FileFinding) → Has xs f → Has (xs ++ ys) f
left xs ys f h = record { there = Contains-append_left xs ys f h.there }

pub right : (xs ys : List FileFinding) (f : FileFinding) → Has ys f → Has (xs ++ ys) f
right xs ys f h = record { there = Contains-append_right xs ys f h.there }

flat_told : {A : Type 0} (g : A → List FileFinding) (f : FileFinding) (xs : List A) (k : ℕ) (x : A) → k < length xs → get_or xs k x ≡ x → Has (g x) f → Has (flat_map g xs) f
flat_told g f [] k x lt is h = absurd (omega arith)
flat_told g f (y ∷ ys) zero x lt is h = left (g y) (flat_map g ys) f (subst (λ z. Has (g z) f) (sym is) h)
flat_told g f (y ∷ ys) (suc k) x lt is h = right (g y) (flat_map g ys) f (flat_told g f ys k x (omega arith) is h)

pub node_told : (c : ClusterView) (g : Node → List FileFinding) (f : FileFinding) (n : Node) → IsNode c n → Has (g n) f → Has (at_nodes c g) f
unfolding nodes_of
node_told c g f n lt h =
    let long = length-map-range_with_len numbered 0 (node_count c) in
    flat_told g f (map numbered (range_with_len 0 (node_count c))) n.0 n (omega arith)
    (get_or-map-range_with_len numbered 0 (node_count c) n.0 n.0 n lt (plus n.0)) h
  where
    plus : (i : ℕ) → 0 + i ≡ i
    plus i = omega arith

pub app_told : (c : ClusterView) (g : App → List FileFinding) (f : FileFinding) (a : App) → IsApp c a → Has (g a) f → Has (at_apps c g) f
unfolding apps_of
app_told c g f a lt h =
    let long = length-map-range_with_len app_numbered 0 (app_count c) in
    flat_told g f (map app_numbered (range_with_len 0 (app_count c))) a.0 a (omega arith)
    (get_or-map-range_with_len app_numbered 0 (app_count c) a.0 a.0 a lt (plus a.0)) h
  where
    plus : (i : ℕ) → 0 + i ≡ i
    plus i = omega arith
