-- A node that is emptied, one application after the other.
use Rattle.std.proofs.Common.{◌≡◌, ◌<◌, ◌≤◌, ◌+◌, ◌||◌, ℕ, zero, suc, Bool, true, false, not, List, [], ◌∷◌, length, Option, Some, None, IsNone, IfSome}
use Rattle.std.proofs.Common.{unwrap_or, slice_get, slice_set, refl, sym, ap, ◌∙◌, arith}
use Rattle.rh_model.specs.declared.node.Node.{Node}
use Rattle.rh_model.specs.declared.node.App.{App}
use Rattle.rh_state.specs.Numbers.{same_app}
use Rattle.rh_state.specs.Tables.{row}
use Rattle.rh_state.specs.Lists.{has_app, without_app}
use Rattle.rh_state.specs.StateView.{StateView, running_at, waiting_at, runs_at, waits_at, is_started}
use Rattle.rh_state.specs.Setters.{unlisted}
use Rattle.rh_base.proofs.Lists.{cases}
use Rattle.rh_trace.proofs.Every.{filter_no, filter_yes}
use Rattle.rh_base.proofs.Truths.{or_left, or_right}
use Rattle.rh_state.proofs.ListWalks.{first_is_next, is_in_list}
use Rattle.rh_rules.specs.NodesEnd.{emptied}

-- ---- writes
-- of two writes at a place, the later one stays
pub set_twice : {A : Type 0} (xs : List A) (i : ℕ) (v w : A) → slice_set (slice_set xs i v) i w ≡ slice_set xs i w
set_twice [] i v w = refl
set_twice (x ∷ xs) zero v w = refl
set_twice (x ∷ xs) (suc i) v w = ap (λ ys. x ∷ ys) (set_twice xs i v w)

-- what a place has may be written there again
pub set_same : {A : Type 0} (xs : List A) (i : ℕ) (d : A) → slice_set xs i (unwrap_or (slice_get xs i) d) ≡ xs
set_same [] i d = refl
set_same (x ∷ xs) zero d = refl
set_same (x ∷ xs) (suc i) d = ap (λ ys. x ∷ ys) (set_same xs i d)

-- ---- lists
pub without_of_set : (table : List (List App)) (n : ℕ) (a : App) → row (slice_set table n (without_app (row table n) a)) n ≡ without_app (row table n) a
without_of_set [] n a = refl
without_of_set (xs ∷ table) zero a = refl
without_of_set (xs ∷ table) (suc n) a = without_of_set table n a

pub first_none : {A : Type 0} (xs : List A) → IsNone (slice_get xs 0) → xs ≡ []
first_none [] h = refl
first_none (x ∷ xs) h = cc

no_longer : (xs : List App) (a : App) → length (without_app xs a) ≤ length xs
no_longer [] a = omega arith
no_longer (x ∷ xs) a =
    let rest = no_longer xs a in
    cases (same_app a x)
    (λ t. let e = ap length (filter_no (λ b. not (same_app a b)) x xs (ap not t)) in omega (arith, e, rest))
    (λ f. let e = ap length (filter_yes (λ b. not (same_app a b)) x xs (ap not f)) in omega (arith, e, rest))

shorter : (xs : List App) (a : App) → has_app xs a ≡ true → length (without_app xs a) < length xs
shorter [] a h = cc
shorter (x ∷ xs) a h =
    let rest = no_longer xs a in
    cases (same_app a x)
    (λ t. let e = ap length (filter_no (λ b. not (same_app a b)) x xs (ap not t)) in omega (arith, e, rest))
    (λ f. let e = ap length (filter_yes (λ b. not (same_app a b)) x xs (ap not f)) in
    let less = shorter xs a (only (same_app a x) (has_app xs a) f h) in omega (arith, e, less))
  where
    only : (p q : Bool) → p ≡ false → p || q ≡ true → q ≡ true
    only true q f h = cc
    only false q f h = h

-- ---- the first that is started
pub runs_first : (s : StateView) (n : Node) (a : App) → slice_get (running_at s n) 0 ≡ Some a → is_started s n a ≡ true
runs_first s n a e = or_left (runs_at s n a) _ (is_in_list (λ b. has_app (running_at s n) b ≡ true) (slice_get (running_at s n) 0) a
    (first_is_next (running_at s n)) e)

pub waits_first : (s : StateView) (n : Node) → IfSome (slice_get (waiting_at s n) 0) (λ a. is_started s n a ≡ true)
waits_first s n = by (slice_get (waiting_at s n) 0) (first_is_next (waiting_at s n))
  where
    by : (o : Option App) → IfSome o (λ a. has_app (waiting_at s n) a ≡ true) → IfSome o (λ a. is_started s n a ≡ true)
    by None h = tt
    by (Some a) h = or_right (runs_at s n a) _ h

pub started_some : (s : StateView) (n : Node) (o : Option App) (a : App) → IfSome o (λ b. is_started s n b ≡ true) → o ≡ Some a → is_started s n a ≡ true
started_some s n o a h e = is_in_list (λ b. is_started s n b ≡ true) o a h e

pub none_of_default : (o : Option App) → ((a : App) → o ≡ Some a → ⊥) → IsNone o
none_of_default None h = refl
none_of_default (Some a) h = absurd (h a refl)

-- ---- one application less
abbrev pub how_many : StateView → Node → ℕ
how_many s n = length (running_at s n) + length (waiting_at s n)

pub one_less : (s : StateView) (n : Node) (a : App) → is_started s n a ≡ true → how_many (unlisted s n a) n < how_many s n
one_less s n a h =
    let r = ap length (without_of_set s.running n.0 a) in
    let w = ap length (without_of_set s.waiting n.0 a) in
    let r_le = no_longer (running_at s n) a in
    let w_le = no_longer (waiting_at s n) a in
    cases (runs_at s n a)
    (λ t. let r_lt = shorter (running_at s n) a t in omega (arith, r, w, r_lt, w_le))
    (λ f. let w_lt = shorter (waiting_at s n) a (only (runs_at s n a) (waits_at s n a) f h) in omega (arith, r, w, r_le, w_lt))
  where
    only : (p q : Bool) → p ≡ false → p || q ≡ true → q ≡ true
    only true q f h = cc
    only false q f h = h

pub emptied_unlisted : (s : StateView) (n : Node) (a : App) → emptied (unlisted s n a) n ≡ emptied s n
emptied_unlisted s n a = λ i. record s {
  running = set_twice s.running n.0 (without_app (running_at s n) a) [] i;
  waiting = set_twice s.waiting n.0 (without_app (waiting_at s n) a) [] i;
}

-- where nothing is started it is empty already
pub empty_already : (s : StateView) (n : Node) → running_at s n ≡ [] → waiting_at s n ≡ [] → emptied s n ≡ s
empty_already s n r w = λ i. record s {
  running = (ap (slice_set s.running n.0) (sym r) ∙ set_same s.running n.0 []) i;
  waiting = (ap (slice_set s.waiting n.0) (sym w) ∙ set_same s.waiting n.0 []) i;
}
