-- What isn't of the cluster waits nowhere, and for nobody.
use Rattle.std.proofs.Common.{◌≡◌, ◌≤◌, ◌<◌, ◌++◌, ◌⊎◌, inl, inr, ℕ, List, true, false, [], unwrap_or, sym, ap, ◌∙◌, subst, append-nil, arith}
use Rattle.std.proofs.lemmas.Option.{slice_get_past}
use Rattle.rh_model.specs.ClusterView.{ClusterView, node_count, app_count}
use Rattle.rh_model.specs.declared.node.Node.{Node}
use Rattle.rh_model.specs.declared.node.App.{App}
use Rattle.rh_base.proofs.Lists.{cases}
use Rattle.rh_state.specs.declared.status.Mode.TheVariants as mode
use Rattle.rh_state.specs.Shape.{IsShaped}
use Rattle.rh_state.specs.StateView.{StateView, mode_of, runs_at, waits_at}
use Rattle.rh_trace.specs.Validity.{IsValid}
use Rattle.rh_base.proofs.Truths.{or_right}
use Rattle.rh_trace.proofs.Shapes.{started_within}
use Rattle.rh_why.specs.Reasons.{reasons, awaited}
use Rattle.rh_why.proofs.HasReason.{waits_node}
use Rattle.rh_story.specs.LineText.{app_lines, node_lines}

-- ---- an application
waits_app : (s : StateView) (n : Node) (a : App) → IsShaped s → waits_at s n a ≡ true → a.0 < app_count s.cluster
waits_app s n a shape w = started_within s n a shape (or_right (runs_at s n a) (waits_at s n a) w)

-- what doesn't wait has no reasons
idle : (s : StateView) (a : App) (n : Node) → waits_at s n a ≡ false → app_lines s a n ≡ []
unfolding reasons
idle s a n f = cc

pub no_app_lines : (s : StateView) (a : App) (n : Node) → IsValid s → (node_count s.cluster ≤ n.0) ⊎ (app_count s.cluster ≤ a.0) → app_lines s a n ≡ []
no_app_lines s a n valid out = cases (waits_at s n a)
    (λ w. absurd (there out (waits_node s n a valid.sound.shaped w) (waits_app s n a valid.sound.shaped w)))
    (λ f. idle s a n f)
  where
    there : (node_count s.cluster ≤ n.0) ⊎ (app_count s.cluster ≤ a.0) → n.0 < node_count s.cluster → a.0 < app_count s.cluster → ⊥
    there (inl l) m k = omega (arith, l, m)
    there (inr l) m k = omega (arith, l, k)

-- ---- a node
no_mode : (s : StateView) (n : Node) → IsShaped s → node_count s.cluster ≤ n.0 → mode_of s n ≡ mode.Down
no_mode s n shape l =
    let e = shape.modes in
    ap (λ o. unwrap_or o mode.Down) (slice_get_past s.modes n.0 (omega (arith, l, e)))

pub no_node_lines : (s : StateView) (n : Node) → IsValid s → node_count s.cluster ≤ n.0 → node_lines s n ≡ []
unfolding awaited
no_node_lines s n valid l = let e = no_mode s n valid.sound.shaped l in cc

-- ---- where the code tests that: count is that of the nodes of c, and many that of its applications
pub nothing_of_node : (s : StateView) (n : Node) (c : ClusterView) (count : ℕ) (text : List ℕ) → IsValid s → c ≡ s.cluster
    → count ≡ node_count c → count ≤ n.0 → text ≡ text ++ node_lines s n
nothing_of_node s n c count text valid same is l =
    let le : node_count s.cluster ≤ n.0 = subst (λ (k : ℕ). k ≤ n.0) (is ∙ ap (λ (k : ClusterView). node_count k) same) l in
    sym (append-nil text) ∙ ap (λ (ls : List ℕ). text ++ ls) (sym (no_node_lines s n valid le))

pub nothing_past_node : (s : StateView) (a : App) (n : Node) (c : ClusterView) (count : ℕ) (text : List ℕ) → IsValid s → c ≡ s.cluster
    → count ≡ node_count c → count ≤ n.0 → text ≡ text ++ app_lines s a n
nothing_past_node s a n c count text valid same is l =
    let le : node_count s.cluster ≤ n.0 = subst (λ (k : ℕ). k ≤ n.0) (is ∙ ap (λ (k : ClusterView). node_count k) same) l in
    sym (append-nil text) ∙ ap (λ (ls : List ℕ). text ++ ls) (sym (no_app_lines s a n valid (inl le)))

pub nothing_past_app : (s : StateView) (a : App) (n : Node) (c : ClusterView) (many : ℕ) (text : List ℕ) → IsValid s → c ≡ s.cluster
    → many ≡ app_count c → many ≤ a.0 → text ≡ text ++ app_lines s a n
nothing_past_app s a n c many text valid same is l =
    let le : app_count s.cluster ≤ a.0 = subst (λ (k : ℕ). k ≤ a.0) (is ∙ ap (λ (k : ClusterView). app_count k) same) l in
    sym (append-nil text) ∙ ap (λ (ls : List ℕ). text ++ ls) (sym (no_app_lines s a n valid (inr le)))
