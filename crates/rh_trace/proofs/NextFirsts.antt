-- The next moves are the enabled ones before which no other enabled one goes.
use Rattle.std.proofs.Common.{◌≡◌, ◌↔◌, ℕ, ◌<◌, ◌⊎◌, inl, inr, Bool, true, false, ◌&&◌, List, [], map, Option, refl, sym, ap, ◌∙◌, arith, subst}
use Rattle.std.specs.List.{Contains}
use Rattle.rh_model.specs.declared.node.Node.{Node}
use Rattle.rh_model.specs.declared.node.App.{App}
use Rattle.rh_model.specs.ClusterView.{node_count, app_count, numbered, app_numbered}
use Rattle.rh_state.specs.declared.status.Standing.{Standing}
use Rattle.rh_state.specs.declared.status.Standing.TheVariants.{Quiet, Wanted, Running, Lost}
use Rattle.rh_state.specs.Numbers.{nodes_of, apps_of}
use Rattle.rh_state.specs.StateView.{StateView, is_allowed, standing_of}
use Rattle.rh_base.specs.Lists.{or_else, first_given}
use Rattle.rh_rules.specs.Placing.{deps_run, is_operational, best, candidates}
use Rattle.rh_rules.specs.declared.notice.Move.{Move}
use Rattle.rh_rules.specs.declared.notice.Move.TheVariants.{Local, Placement, Takeover}
use Rattle.rh_rules.specs.declared.notice.Pair.{Pair}
use Rattle.rh_rules.specs.Course.{is_local}
use Rattle.rh_rules.specs.Moves.{can_start, local_moves, placements, placements_from, takeovers, takeovers_from, calls_away}
use Rattle.rh_rules.specs.Settling.{next_moves, IsBest, IsEnabled, IsFirst, goes_before, NoneEnabled}
use Rattle.rh_trace.proofs.Falls.{app_of}
use Rattle.rh_trace.proofs.Best.{each_best, in_best}
use Rattle.rh_trace.proofs.Firsts.{In, in_contained, contained_in, every_in, empty_of, in_map, of_map, either_of, Firsts, firsts_flat, firsts_nil, firsts_as}
use Rattle.rh_trace.proofs.Firsts.{firsts_else, Numbered, firsts_range}
use Rattle.rh_trace.proofs.LocalFirsts.{LocalAt, less, not_less, not_itself, before_is, locals_at, locals_apart}

-- ---- placements and takeovers by application
abbrev PlacedAs : StateView → ℕ → Move → Type 0
PlacedAs s k m = (from : Option Node) × (n : Node) × (m ≡ Placement (app_numbered k) from n) × (standing_of s (app_numbered k) ≡ Wanted from)
    × IsBest s (app_numbered k) (is_operational s (app_numbered k)) n

abbrev TakenAs : StateView → List Pair → ℕ → Move → Type 0
TakenAs s fresh k m = (j : Node) × (n : Node) × (m ≡ Takeover (app_numbered k) j n) × (standing_of s (app_numbered k) ≡ Running j)
    × IsBest s (app_numbered k) (calls_away s fresh (app_numbered k) j) n

not_placed : (s : StateView) (k : ℕ) (st : Standing) → ((from : Option Node) → st ≡ Wanted from → ⊥) → standing_of s (app_numbered k) ≡ st
    → Firsts (goes_before s) (PlacedAs s k) []
not_placed s k st other e = firsts_nil (goes_before s) (PlacedAs s k) (λ m p. other p.0 (sym e ∙ p.3))

placed_from : (s : StateView) (k : ℕ) (st : Standing) → standing_of s (app_numbered k) ≡ st
    → Firsts (goes_before s) (PlacedAs s k) (placements_from s (app_numbered k) st)
unfolding candidates
placed_from s k Quiet e = not_placed s k Quiet (λ from c. wrong from c) e
  where
    wrong : (from : Option Node) → Quiet ≡ Wanted from → ⊥
    wrong from c = cc
placed_from s k (Running j) e = not_placed s k (Running j) (λ from c. wrong j from c) e
  where
    wrong : (j : Node) (from : Option Node) → Running j ≡ Wanted from → ⊥
    wrong j from c = cc
placed_from s k (Lost j) e = not_placed s k (Lost j) (λ from c. wrong j from c) e
  where
    wrong : (j : Node) (from : Option Node) → Lost j ≡ Wanted from → ⊥
    wrong j from c = cc
placed_from s k (Wanted from) e =
    let a : App = app_numbered k in
    let test : Node → Bool = is_operational s a in
    firsts_flat (goes_before s) (PlacedAs s k) (map (Placement a from) (best s a test))
    (λ m o p q. before_is s m o (Placement a p.0 p.1) (Placement a q.0 q.1) p.2 q.2 ∙ not_itself k)
    (λ m i. let r = of_map (Placement a from) (best s a test) m i in
    (from, r.0, sym r.2, e, every_in (IsBest s a test) (best s a test) r.0 (each_best s a test) r.1))
    (λ m p. subst (λ o. In o (map (Placement a from) (best s a test))) (ap (λ f. Placement a f p.1) (same_from from p.0 (sym e ∙ p.3)) ∙ sym p.2)
    (in_map (Placement a from) (best s a test) p.1 (in_best s a test p.1 p.4)))
  where
    same_from : (f g : Option Node) → Wanted f ≡ Wanted g → f ≡ g
    same_from f g c = cc

not_taken : (s : StateView) (fresh : List Pair) (k : ℕ) (st : Standing) → ((j : Node) → st ≡ Running j → ⊥) → standing_of s (app_numbered k) ≡ st
    → Firsts (goes_before s) (TakenAs s fresh k) []
not_taken s fresh k st other e = firsts_nil (goes_before s) (TakenAs s fresh k) (λ m p. other p.0 (sym e ∙ p.3))

taken_from : (s : StateView) (fresh : List Pair) (k : ℕ) (st : Standing) → standing_of s (app_numbered k) ≡ st
    → Firsts (goes_before s) (TakenAs s fresh k) (takeovers_from s fresh (app_numbered k) st)
taken_from s fresh k Quiet e = not_taken s fresh k Quiet (λ j c. wrong j c) e
  where
    wrong : (j : Node) → Quiet ≡ Running j → ⊥
    wrong j c = cc
taken_from s fresh k (Wanted from) e = not_taken s fresh k (Wanted from) (λ j c. wrong from j c) e
  where
    wrong : (from : Option Node) (j : Node) → Wanted from ≡ Running j → ⊥
    wrong from j c = cc
taken_from s fresh k (Lost l) e = not_taken s fresh k (Lost l) (λ j c. wrong l j c) e
  where
    wrong : (l j : Node) → Lost l ≡ Running j → ⊥
    wrong l j c = cc
taken_from s fresh k (Running j) e =
    let a : App = app_numbered k in
    let test : Node → Bool = calls_away s fresh a j in
    firsts_flat (goes_before s) (TakenAs s fresh k) (map (Takeover a j) (best s a test))
    (λ m o p q. before_is s m o (Takeover a p.0 p.1) (Takeover a q.0 q.1) p.2 q.2 ∙ not_itself k)
    (λ m i. let r = of_map (Takeover a j) (best s a test) m i in
    (j, r.0, sym r.2, e, every_in (IsBest s a test) (best s a test) r.0 (each_best s a test) r.1))
    (λ m p. let same = same_node j p.0 (sym e ∙ p.3) in
    subst (λ o. In o (map (Takeover a j) (best s a test))) (ap (λ f. Takeover a f p.1) same ∙ sym p.2)
    (in_map (Takeover a j) (best s a test) p.1 (in_best s a test p.1 (subst (λ f. IsBest s a (calls_away s fresh a f) p.1) (sym same) p.4))))
  where
    same_node : (f g : Node) → Running f ≡ Running g → f ≡ g
    same_node f g c = cc

placed_apart : (s : StateView) (i j : ℕ) → i < j → (m o : Move) → PlacedAs s i m → PlacedAs s j o → (goes_before s m o ≡ true) × (goes_before s o m ≡ false)
placed_apart s i j lt m o p q = (
  before_is s m o (Placement (app_numbered i) p.0 p.1) (Placement (app_numbered j) q.0 q.1) p.2 q.2 ∙ less i j lt,
  before_is s o m (Placement (app_numbered j) q.0 q.1) (Placement (app_numbered i) p.0 p.1) q.2 p.2 ∙ not_less i j lt,
)

taken_apart : (s : StateView) (fresh : List Pair) (i j : ℕ) → i < j → (m o : Move) → TakenAs s fresh i m → TakenAs s fresh j o
    → (goes_before s m o ≡ true) × (goes_before s o m ≡ false)
taken_apart s fresh i j lt m o p q = (
  before_is s m o (Takeover (app_numbered i) p.0 p.1) (Takeover (app_numbered j) q.0 q.1) p.2 q.2 ∙ less i j lt,
  before_is s o m (Takeover (app_numbered j) q.0 q.1) (Takeover (app_numbered i) p.0 p.1) q.2 p.2 ∙ not_less i j lt,
)

-- ---- each kind of move
abbrev Locals : StateView → Move → Type 0
Locals s = Numbered (LocalAt s) 0 (node_count s.cluster)

abbrev Placed : StateView → Move → Type 0
Placed s = Numbered (PlacedAs s) 0 (app_count s.cluster)

abbrev Taken : StateView → List Pair → Move → Type 0
Taken s fresh = Numbered (TakenAs s fresh) 0 (app_count s.cluster)

locals : (s : StateView) → Firsts (goes_before s) (Locals s) (first_given (local_moves s) (nodes_of s.cluster))
unfolding nodes_of
locals s = firsts_range (goes_before s) numbered (local_moves s) (LocalAt s) (locals_apart s) (locals_at s) 0 (node_count s.cluster)

placed : (s : StateView) → Firsts (goes_before s) (Placed s) (first_given (placements s) (apps_of s.cluster))
unfolding apps_of placements
placed s = firsts_range (goes_before s) app_numbered (placements s) (PlacedAs s) (placed_apart s) (λ k. placed_from s k (standing_of s (app_numbered k)) refl) 0
    (app_count s.cluster)

taken : (s : StateView) (fresh : List Pair) → Firsts (goes_before s) (Taken s fresh) (first_given (takeovers s fresh) (apps_of s.cluster))
unfolding apps_of takeovers
taken s fresh = firsts_range (goes_before s) app_numbered (takeovers s fresh) (TakenAs s fresh) (taken_apart s fresh)
    (λ k. taken_from s fresh k (standing_of s (app_numbered k)) refl) 0 (app_count s.cluster)

-- ---- all of them
abbrev AnyKind : StateView → List Pair → Move → Type 0
AnyKind s fresh m = Locals s m ⊎ (Placed s m ⊎ Taken s fresh m)

can_start_all : (s : StateView) (n : Node) (a : App) → is_local s.cluster a ≡ true → is_allowed s n a ≡ true → deps_run s n a ≡ true → can_start s n a ≡ true
unfolding can_start
can_start_all s n a l m r = rw (l, m, r) refl

can_start_parts : (s : StateView) (n : Node) (a : App) → can_start s n a ≡ true → (is_local s.cluster a ≡ true) × (is_allowed s n a ≡ true)
    × (deps_run s n a ≡ true)
unfolding can_start
can_start_parts s n a h = by (is_local s.cluster a) (is_allowed s n a) (deps_run s n a) h
  where
    by : (p q r : Bool) → p && (q && r) ≡ true → (p ≡ true) × (q ≡ true) × (r ≡ true)
    by true true r h = (refl, refl, h)
    by true false r h = cc
    by false q r h = cc

kind_of_enabled : (s : StateView) (fresh : List Pair) (m : Move) → IsEnabled s fresh m → AnyKind s fresh m
kind_of_enabled s fresh (Local n a) e = inl (n.0, omega arith, (let l = e.0 in omega arith), (refl, e.2, can_start_all s n a e.1 e.3 e.4))
kind_of_enabled s fresh (Placement a from n) e = inr (inl (a.0, omega arith, (let l = e.0 in omega arith), (from, n, refl, e.1, e.2)))
kind_of_enabled s fresh (Takeover a j n) e = inr (inr (a.0, omega arith, (let l = e.0 in omega arith), (j, n, refl, e.1, e.2)))

enabled_kind : (s : StateView) (fresh : List Pair) (m : Move) → AnyKind s fresh m → IsEnabled s fresh m
enabled_kind s fresh m k = either_of k
    (λ l. subst (IsEnabled s fresh) (sym l.3.0)
    (let c = can_start_parts s (numbered l.0) (app_of m) l.3.2 in ((let h = l.2 in omega arith), c.0, l.3.1, c.1, c.2)))
    (λ r. either_of r
    (λ p. subst (IsEnabled s fresh) (sym p.3.2) ((let h = p.2 in omega arith), p.3.3, p.3.4))
    (λ t. subst (IsEnabled s fresh) (sym t.3.2) ((let h = t.2 in omega arith), t.3.3, t.3.4)))

firsts : (s : StateView) (fresh : List Pair) → Firsts (goes_before s) (IsEnabled s fresh) (next_moves s fresh)
unfolding next_moves
firsts s fresh =
    firsts_as (goes_before s) (goes_before s) (AnyKind s fresh) (IsEnabled s fresh)
    (or_else (first_given (local_moves s) (nodes_of s.cluster))
    (or_else (first_given (placements s) (apps_of s.cluster)) (first_given (takeovers s fresh) (apps_of s.cluster))))
    (enabled_kind s fresh) (kind_of_enabled s fresh) (λ m o e k. refl)
    (firsts_else (goes_before s) (Locals s) (λ m. Placed s m ⊎ Taken s fresh m) (first_given (local_moves s) (nodes_of s.cluster))
    (or_else (first_given (placements s) (apps_of s.cluster)) (first_given (takeovers s fresh) (apps_of s.cluster)))
    (λ m o l r. either_of r
    (λ p. (
      before_is s m o (Local (numbered l.0) (app_of m)) (Placement (app_numbered p.0) p.3.0 p.3.1) l.3.0 p.3.2,
      before_is s o m (Placement (app_numbered p.0) p.3.0 p.3.1) (Local (numbered l.0) (app_of m)) p.3.2 l.3.0,
    ))
    (λ t. (
      before_is s m o (Local (numbered l.0) (app_of m)) (Takeover (app_numbered t.0) t.3.0 t.3.1) l.3.0 t.3.2,
      before_is s o m (Takeover (app_numbered t.0) t.3.0 t.3.1) (Local (numbered l.0) (app_of m)) t.3.2 l.3.0,
    )))
    (locals s)
    (firsts_else (goes_before s) (Placed s) (Taken s fresh) (first_given (placements s) (apps_of s.cluster))
    (first_given (takeovers s fresh) (apps_of s.cluster))
    (λ m o p t. (
      before_is s m o (Placement (app_numbered p.0) p.3.0 p.3.1) (Takeover (app_numbered t.0) t.3.0 t.3.1) p.3.2 t.3.2,
      before_is s o m (Takeover (app_numbered t.0) t.3.0 t.3.1) (Placement (app_numbered p.0) p.3.0 p.3.1) t.3.2 p.3.2,
    ))
    (placed s) (taken s fresh)))

pub next_are_first : (s : StateView) (fresh : List Pair) (m : Move) → Contains (next_moves s fresh) m ↔ IsFirst s fresh m
next_are_first s fresh m = (
  (λ c. let r = (firsts s fresh).each m (in_contained (next_moves s fresh) c.0 m c.1 c.2) in record { enabled = r.0; first = r.1 }),
  (λ f. contained_in (next_moves s fresh) m ((firsts s fresh).all m f.enabled f.first)),
)

pub still_if_none_enabled : (s : StateView) (fresh : List Pair) → (next_moves s fresh ≡ []) ↔ NoneEnabled s fresh
still_if_none_enabled s fresh = (
  (firsts s fresh).none,
  (λ h. empty_of (next_moves s fresh) (λ m i. h m ((firsts s fresh).each m i).0)),
)
