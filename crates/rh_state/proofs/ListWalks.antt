-- A walk over a list of applications, from each to the one behind it.
use Rattle.std.proofs.Common.{◌≡◌, ◌≢◌, ◌<◌, ◌||◌, ℕ, suc, true, false, cond, Option, Some, None, List, [], ◌∷◌, length, slice_get, All, AllPairs, IfSome, refl}
use Rattle.std.proofs.Common.{sym, ap, ◌∙◌, arith, subst}
use Rattle.rh_model.specs.declared.node.App.{App}
use Rattle.rh_model.specs.declared.node.Node.{Node}
use Rattle.rh_model.specs.ClusterView.{app_numbered}
use Rattle.rh_state.specs.Numbers.{same_app}
use Rattle.rh_state.specs.Lists.{has_app, next_app}
use Rattle.rh_state.specs.Shape.{OnceAtEachNode}
use Rattle.rh_state.specs.StateView.{StateView, running_at, waiting_at, runs_at, waits_at, next_in_list}
use Rattle.rh_base.proofs.Lists.{cases}
use Rattle.rh_base.specs.Lists.{or_else, first_given}
use Rattle.rh_base.proofs.Truths.{both, same_number, same_some, same_refl, or_left, or_right}

-- no application stands twice in the list
abbrev pub Once : List App → Type 0
Once [] = Unit {0}
Once (a ∷ apps) = (has_app apps a ≡ false) × Once apps

absent : (a : App) (apps : List App) → All (λ (b : App). a.0 ≢ b.0) apps → has_app apps a ≡ false
absent a [] h = refl
absent a (b ∷ apps) h = cases (same_app a b)
    (λ t. absurd (h 0 b (omega arith) (same_number a.0 b.0 t)))
    (λ f. ap (λ p. p || has_app apps a) f ∙ absent a apps (λ k d l. h (suc k) d (omega arith)))

pub once_of : (apps : List App) → AllPairs (λ (a b : App). a.0 ≢ b.0) apps → Once apps
once_of [] h = tt
once_of (a ∷ apps) h = (
  absent a apps (λ k d l. h 0 (suc k) d (omega arith) (omega arith)),
  once_of apps (λ i j d l m. h (suc i) (suc j) d (omega arith) (omega arith)),
)

-- what is left of a list from an application on
abbrev pub from_app : List App → App → List App
from_app [] a = []
from_app (b ∷ apps) a = cond (same_app a b) (b ∷ apps) (from_app apps a)

abbrev pub left_of : List App → Option App → List App
left_of apps None = []
left_of apps (Some a) = from_app apps a

pub all_left : (apps : List App) → left_of apps (slice_get apps 0) ≡ apps
all_left [] = refl
all_left (a ∷ apps) = ap (λ b. cond b (a ∷ apps) (from_app apps a)) (same_refl a.0)

pub first_is_next : (apps : List App) → IfSome (slice_get apps 0) (λ a. has_app apps a ≡ true)
first_is_next [] = tt
first_is_next (a ∷ apps) = or_left (same_app a a) _ (same_refl a.0)

first_in : (apps : List App) (c : App) → slice_get apps 0 ≡ Some c → has_app apps c ≡ true
first_in [] c e = cc
first_in (b ∷ apps) c e = or_left (same_app c b) _ (subst (λ (x : App). same_app c x ≡ true) (sym (same_some b c e)) (same_refl c.0))

-- the one behind another is in the list
next_in : (apps : List App) (a c : App) → next_app apps a ≡ Some c → has_app apps c ≡ true
next_in [] a c e = cc
next_in (b ∷ apps) a c e = cases (same_app a b)
    (λ t. or_right (same_app c b) _ (first_in apps c (sym (ap (λ p. cond p (slice_get apps 0) (next_app apps a)) t) ∙ e)))
    (λ f. or_right (same_app c b) _ (next_in apps a c (sym (ap (λ p. cond p (slice_get apps 0) (next_app apps a)) f) ∙ e)))

pub next_is_next : (apps : List App) (a : App) → IfSome (next_app apps a) (λ c. has_app apps c ≡ true)
next_is_next apps a = by (next_app apps a) refl
  where
    by : (o : Option App) → next_app apps a ≡ o → IfSome o (λ c. has_app apps c ≡ true)
    by None e = tt
    by (Some c) e = next_in apps a c e

-- an element in front, that isn't what is next, is passed over
passed : (b : App) (apps : List App) (next : Option App) → has_app apps b ≡ false → IfSome next (λ c. has_app apps c ≡ true)
    → left_of (b ∷ apps) next ≡ left_of apps next
passed b apps None out h = refl
passed b apps (Some c) out h = cases (same_app c b)
    (λ t. both (has_app apps b) (ap (λ (k : ℕ). has_app apps (app_numbered k)) (sym (same_number c.0 b.0 t)) ∙ h) out)
    (λ f. ap (λ p. cond p (b ∷ apps) (from_app apps c)) f)

-- what is left from an application on is that one, and what is left from the next one on
pub left_more : (apps : List App) (a : App) → Once apps → has_app apps a ≡ true → left_of apps (Some a) ≡ a ∷ left_of apps (next_app apps a)
left_more [] a once h = cc
left_more (b ∷ apps) a once h = cases (same_app a b)
    (λ t. ap (λ p. cond p (b ∷ apps) (from_app apps a)) t
    ∙ ap (λ xs. b ∷ xs) (sym (all_left apps) ∙ sym (passed b apps (slice_get apps 0) once.0 (first_is_next apps)))
    ∙ ap (λ (k : ℕ). app_numbered k ∷ left_of (b ∷ apps) (slice_get apps 0)) (sym (same_number a.0 b.0 t))
    ∙ ap (λ p. a ∷ left_of (b ∷ apps) (cond p (slice_get apps 0) (next_app apps a))) (sym t))
    (λ f. ap (λ p. cond p (b ∷ apps) (from_app apps a)) f
    ∙ left_more apps a once.1 (sym (ap (λ p. p || has_app apps a) f) ∙ h)
    ∙ ap (λ xs. a ∷ xs) (sym (passed b apps (next_app apps a) once.0 (next_is_next apps a)))
    ∙ ap (λ p. a ∷ left_of (b ∷ apps) (cond p (slice_get apps 0) (next_app apps a))) (sym f))

-- ---- a search along the walk
module _ {B : Type 0} (f : App → List B) (apps : List App) (next : Option App) (so_far : first_given f (left_of apps next) ≡ first_given f apps) where
  here : (a : App) → Once apps → has_app apps a ≡ true → next ≡ Some a → first_given f apps ≡ or_else (f a) (first_given f (left_of apps (next_app apps a)))
  here a once h is = sym so_far ∙ ap (λ o. first_given f (left_of apps o)) is ∙ ap (first_given f) (left_more apps a once h)

  pub found_on_walk : (a : App) (y : B) → Once apps → has_app apps a ≡ true → next ≡ Some a → f a ≡ y ∷ [] → first_given f apps ≡ y ∷ []
  found_on_walk a y once h is gives = here a once h is ∙ ap (λ ys. or_else ys (first_given f (left_of apps (next_app apps a)))) gives

  pub later_on_walk : (a : App) → Once apps → has_app apps a ≡ true → next ≡ Some a → f a ≡ []
      → first_given f (left_of apps (next_app apps a)) ≡ first_given f apps
  later_on_walk a once h is none = sym (ap (λ ys. or_else ys (first_given f (left_of apps (next_app apps a)))) none) ∙ sym (here a once h is)

  pub end_of_walk : next ≡ None → first_given f apps ≡ []
  end_of_walk is = sym so_far ∙ ap (λ o. first_given f (left_of apps o)) is

-- the walk gets shorter
pub shorter_walk : (apps : List App) (a : App) → Once apps → has_app apps a ≡ true → length (left_of apps (next_app apps a)) < length (left_of apps (Some a))
shorter_walk apps a once h = let e = ap length (left_more apps a once h) in omega (arith, e)

-- what is next is in the list
pub is_in_list : (P : App → Type 0) (next : Option App) (a : App) → IfSome next P → next ≡ Some a → P a
is_in_list P None a h e = cc
is_in_list P (Some b) a h e = subst P (same_some b a e) h

-- ---- the lists of a node
pub behind_running : (s : StateView) (n : Node) (a : App) → runs_at s n a ≡ true → next_in_list s n a ≡ next_app (running_at s n) a
behind_running s n a h = ap (λ b. cond b (next_app (running_at s n) a) (next_app (waiting_at s n) a)) h

pub behind_waiting : (s : StateView) (n : Node) (a : App) → OnceAtEachNode s → waits_at s n a ≡ true → next_in_list s n a ≡ next_app (waiting_at s n) a
behind_waiting s n a once h = ap (λ b. cond b (next_app (running_at s n) a) (next_app (waiting_at s n) a)) (once.apart n a h)
