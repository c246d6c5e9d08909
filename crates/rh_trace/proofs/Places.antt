-- What a list of applications has, and in which list of its node a pair stands, after it leaves one and enters another.
use Rattle.std.proofs.Common.{◌≡◌, ◌≢◌, ◌<◌, ℕ, zero, suc, Bool, true, false, cond, not, ◌||◌, List, [], ◌∷◌, ◌++◌, length, refl, ap, ◌∙◌, arith, nat_eq}
use Rattle.std.proofs.Common.{unwrap_or, slice_get, slice_set}
use Rattle.std.proofs.lemmas.Bool.Decides.{nat_tests}
use Rattle.rh_model.specs.declared.node.Node.{Node}
use Rattle.rh_model.specs.declared.node.App.{App}
use Rattle.rh_state.specs.Numbers.{same_app}
use Rattle.rh_model.specs.ClusterView.{node_count}
use Rattle.rh_state.specs.Shape.{IsShaped}
use Rattle.rh_state.specs.Tables.{row}
use Rattle.rh_state.specs.Lists.{has_app, without_app}
use Rattle.rh_state.specs.declared.status.Place.TheVariants.{Off, InRunning, InWaiting}
use Rattle.rh_state.specs.StateView.{StateView, runs_at, waits_at, is_started, place_of}
use Rattle.rh_state.specs.Setters.{unlisted}
use Rattle.rh_base.proofs.Truths.{or_left, or_right}
use Rattle.rh_base.proofs.Lists.{cases}
use Rattle.rh_trace.proofs.Every.{filter_no, filter_yes}

-- what a list holds after a write
pub at_set : {A P : Type 0} (xs : List A) (i j : ℕ) (v d : A) → (unwrap_or (slice_get (slice_set xs i v) j) d ≡ unwrap_or (slice_get xs j) d → P)
    → (j ≡ i → unwrap_or (slice_get (slice_set xs i v) j) d ≡ v → P) → P
at_set [] i j v d old new = old refl
at_set (x ∷ xs) zero zero v d old new = new refl refl
at_set (x ∷ xs) zero (suc j) v d old new = old refl
at_set (x ∷ xs) (suc i) zero v d old new = old refl
at_set (x ∷ xs) (suc i) (suc j) v d old new = at_set xs i j v d old (λ e h. new (ap suc e) h)

pub at_set_here : {A : Type 0} (xs : List A) (i : ℕ) (v d : A) → i < length xs → unwrap_or (slice_get (slice_set xs i v) i) d ≡ v
at_set_here [] i v d h = absurd (omega arith)
at_set_here (x ∷ xs) zero v d h = refl
at_set_here (x ∷ xs) (suc i) v d h = at_set_here xs i v d (omega arith)

pub at_set_there : {A : Type 0} (xs : List A) (i j : ℕ) (v d : A) → j ≢ i → unwrap_or (slice_get (slice_set xs i v) j) d ≡ unwrap_or (slice_get xs j) d
at_set_there xs i j v d other = at_set xs i j v d (λ e. e) (λ e h. absurd (other e))

pub or_true : (p q r : Bool) → (q ≡ true → r ≡ true) → p || q ≡ true → p || r ≡ true
or_true true q r h e = refl
or_true false q r h e = h e

-- ---- lists
pub without_has : (xs : List App) (a b : App) → has_app (without_app xs a) b ≡ true → has_app xs b ≡ true
without_has [] a b h = h
without_has (x ∷ xs) a b h =
    let rest = without_has xs a b in
    go (not (same_app a x)) rest h
  where
    go : (keep : Bool) → (has_app (without_app xs a) b ≡ true → has_app xs b ≡ true) → has_app (cond keep (x ∷ without_app xs a) (without_app xs a)) b ≡ true
        → has_app (x ∷ xs) b ≡ true
    go true rest h = or_true (same_app b x) _ _ rest h
    go false rest h = or_right (same_app b x) _ (rest h)

pub without_not : (xs : List App) (a : App) → has_app (without_app xs a) a ≡ false
without_not [] a = refl
without_not (x ∷ xs) a =
    let rest = without_not xs a in
    cases (same_app a x)
    (λ t. ap (λ ys. has_app ys a) (filter_no (λ b. not (same_app a b)) x xs (ap not t)) ∙ rest)
    (λ f. ap (λ ys. has_app ys a) (filter_yes (λ b. not (same_app a b)) x xs (ap not f)) ∙ ap (λ p. p || has_app (without_app xs a) a) f ∙ rest)

pub append_has : (xs : List App) (a b : App) → same_app b a ≡ false → has_app (xs ++ a ∷ []) b ≡ true → has_app xs b ≡ true
append_has [] a b d h = absurd (clash (same_app b a) d h)
  where
    clash : (p : Bool) → p ≡ false → p || false ≡ true → ⊥
    clash true d h = cc
    clash false d h = cc
append_has (x ∷ xs) a b d h = or_true (same_app b x) _ _ (append_has xs a b d) h

-- the others stay
pub without_keeps : (xs : List App) (a b : App) → same_app b a ≡ false → has_app xs b ≡ true → has_app (without_app xs a) b ≡ true
without_keeps [] a b d h = h
without_keeps (x ∷ xs) a b d h =
    let rest = without_keeps xs a b d in
    cases (same_app a x)
    (λ t. ap (λ ys. has_app ys b) (filter_no (λ c. not (same_app a c)) x xs (ap not t)) ∙ rest (only (same_app b x) (has_app xs b) (other a.0 b.0 x.0 d t) h))
    (λ f. ap (λ ys. has_app ys b) (filter_yes (λ c. not (same_app a c)) x xs (ap not f)) ∙ or_true (same_app b x) _ _ rest h)
  where
    only : (p q : Bool) → p ≡ false → p || q ≡ true → q ≡ true
    only true q d h = cc
    only false q d h = h

    other : (a b x : ℕ) → nat_eq b a ≡ false → nat_eq a x ≡ true → nat_eq b x ≡ false
    other a b x d t = grind (arith, nat_tests)

pub append_keeps : (xs : List App) (a b : App) → has_app xs b ≡ true → has_app (xs ++ a ∷ []) b ≡ true
append_keeps [] a b h = cc
append_keeps (x ∷ xs) a b h = or_true (same_app b x) _ _ (append_keeps xs a b) h

pub append_gives : (xs : List App) (a b : App) → same_app b a ≡ true → has_app (xs ++ a ∷ []) b ≡ true
append_gives [] a b t = or_left (same_app b a) false t
append_gives (x ∷ xs) a b t = or_right (same_app b x) _ (append_gives xs a b t)

-- ---- places
pub off_of : (s : StateView) (n : Node) (a : App) → runs_at s n a ≡ false → waits_at s n a ≡ false → place_of s n a ≡ Off
off_of s n a r w = by (runs_at s n a) (waits_at s n a) r w
  where
    by : (p q : Bool) → p ≡ false → q ≡ false → cond p InRunning (cond q InWaiting Off) ≡ Off
    by true q r w = cc
    by false true r w = cc
    by false false r w = refl

pub started_on : (s : StateView) (n : Node) (a : App) → is_started s n a ≡ true → place_of s n a ≢ Off
started_on s n a h e = by (runs_at s n a) (waits_at s n a) h e
  where
    by : (p q : Bool) → p || q ≡ true → cond p InRunning (cond q InWaiting Off) ≡ Off → ⊥
    by true q h e = cc
    by false true h e = cc
    by false false h e = cc

-- a pair that left its list stands in none
pub off_unlisted : (s : StateView) (n : Node) (a : App) → n.0 < length s.running → n.0 < length s.waiting → place_of (unlisted s n a) n a ≡ Off
off_unlisted s n a running waiting = off_of (unlisted s n a) n a
    (ap (λ xs. has_app xs a) (at_set_here s.running n.0 (without_app (row s.running n.0) a) [] running) ∙ without_not (row s.running n.0) a)
    (ap (λ xs. has_app xs a) (at_set_here s.waiting n.0 (without_app (row s.waiting n.0) a) [] waiting) ∙ without_not (row s.waiting n.0) a)

pub off_unlisted_shaped : (s : StateView) (n : Node) (a : App) → IsShaped s → n.0 < node_count s.cluster → place_of (unlisted s n a) n a ≡ Off
off_unlisted_shaped s n a shape lt = off_unlisted s n a (let e = shape.running in omega (arith, e)) (let e = shape.waiting in omega (arith, e))
