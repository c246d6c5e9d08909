-- A table of lists of applications, in which one list loses an application or gains one at its end.
use Rattle.std.proofs.Common.{◌≡◌, ◌≢◌, ◌<◌, ℕ, zero, suc, Bool, true, false, List, [], ◌∷◌, ◌++◌, ◌||◌, length, refl, sym, ap, ◌∙◌, arith, nat_eq, slice_set}
use Rattle.std.proofs.Common.{AllPairs, subst, not, ◌≤◌, nat_lt}
use Rattle.std.specs.Cmp.{both_ways}
use Rattle.std.proofs.lemmas.Bool.Decides.{nat_tests}
use Rattle.std.proofs.lemmas.List.{length-set}
use Rattle.std.proofs.lemmas.List.Kept.{AllPairs-filter}
use Rattle.rh_model.specs.declared.node.App.{App}
use Rattle.rh_state.specs.Numbers.{same_app}
use Rattle.rh_state.specs.Tables.{row}
use Rattle.rh_state.specs.Lists.{has_app, without_app}
use Rattle.rh_state.proofs.AppLists.{AreOnce-push}
use Rattle.rh_base.proofs.Truths.{both}
use Rattle.rh_base.proofs.Lists.{cases}
use Rattle.rh_trace.proofs.Places.{at_set, at_set_here, at_set_there, without_has, without_not, without_keeps, append_has, append_keeps, append_gives}

pub other_number : (i j : ℕ) → nat_eq i j ≡ false → i ≢ j
other_number i j f e = grind (arith, nat_tests)

pub not_same : (i j : ℕ) → i ≢ j → nat_eq i j ≡ false
not_same i j other = grind (arith, nat_tests)

pub is_below : (i j : ℕ) → nat_lt i j ≡ true → i < j
is_below i j t = grind (arith, nat_tests)

pub is_above : (i j : ℕ) → nat_lt i j ≡ false → j ≤ i
is_above i j f = grind (arith, nat_tests)

pub is_false : (p : Bool) → (p ≡ true → ⊥) → p ≡ false
is_false true h = absurd (h refl)
is_false false h = refl

-- ---- a table of lists, in which one list loses an application or gains one at its end
abbrev pub taken : List (List App) → ℕ → App → List (List App)
taken table n a = slice_set table n (without_app (row table n) a)

abbrev pub put : List (List App) → ℕ → App → List (List App)
put table n a = slice_set table n (row table n ++ a ∷ [])

abbrev pub has : List (List App) → ℕ → App → Bool
has table m b = has_app (row table m) b

pub taken_has : (table : List (List App)) (n m : ℕ) (a b : App) → has (taken table n a) m b ≡ true → has table m b ≡ true
taken_has table n m a b h = at_set table n m (without_app (row table n) a) []
    (λ e. sym (ap (λ xs. has_app xs b) e) ∙ h)
    (λ e v. ap (λ k. has table k b) e ∙ without_has (row table n) a b (sym (ap (λ xs. has_app xs b) v) ∙ h))

pub taken_not : (table : List (List App)) (n : ℕ) (a : App) → n < length table → has (taken table n a) n a ≡ false
taken_not table n a h = ap (λ xs. has_app xs a) (at_set_here table n (without_app (row table n) a) [] h) ∙ without_not (row table n) a

-- another application stays
pub taken_keeps : (table : List (List App)) (n m : ℕ) (a b : App) → same_app b a ≡ false → has table m b ≡ true → has (taken table n a) m b ≡ true
taken_keeps table n m a b d h = at_set table n m (without_app (row table n) a) []
    (λ e. ap (λ xs. has_app xs b) e ∙ h)
    (λ e v. ap (λ xs. has_app xs b) v ∙ without_keeps (row table n) a b d (sym (ap (λ k. has table k b) e) ∙ h))

-- and so it does in another list
pub there : (table : List (List App)) (n m : ℕ) (xs : List App) (b : App) → m ≢ n → has (slice_set table n xs) m b ≡ has table m b
there table n m xs b other = ap (λ ys. has_app ys b) (at_set_there table n m xs [] other)

pub put_has : {P : Type 0} (table : List (List App)) (n m : ℕ) (a b : App) → has (put table n a) m b ≡ true → (has table m b ≡ true → P)
    → (m ≡ n → same_app b a ≡ true → P) → P
put_has table n m a b h before more = cases (same_app b a)
    (λ t. at_set table n m (row table n ++ a ∷ []) []
    (λ e. before (sym (ap (λ xs. has_app xs b) e) ∙ h))
    (λ e v. more e t))
    (λ f. before (at_set table n m (row table n ++ a ∷ []) []
    (λ e. sym (ap (λ xs. has_app xs b) e) ∙ h)
    (λ e v. ap (λ k. has table k b) e ∙ append_has (row table n) a b f (sym (ap (λ xs. has_app xs b) v) ∙ h))))

pub put_keeps : (table : List (List App)) (n m : ℕ) (a b : App) → has table m b ≡ true → has (put table n a) m b ≡ true
put_keeps table n m a b h = at_set table n m (row table n ++ a ∷ []) []
    (λ e. ap (λ xs. has_app xs b) e ∙ h)
    (λ e v. ap (λ xs. has_app xs b) v ∙ append_keeps (row table n) a b (sym (ap (λ k. has table k b) e) ∙ h))

pub put_gives : (table : List (List App)) (n : ℕ) (a b : App) → n < length table → same_app b a ≡ true → has (put table n a) n b ≡ true
put_gives table n a b lt t = ap (λ xs. has_app xs b) (at_set_here table n (row table n ++ a ∷ []) [] lt) ∙ append_gives (row table n) a b t

abbrev pub AreOnce : List App → Type 0
AreOnce apps = AllPairs (λ (a b : App). a.0 ≢ b.0) apps

pub once_taken : (table : List (List App)) (n m : ℕ) (a : App) → AreOnce (row table n) → AreOnce (row table m) → AreOnce (row (taken table n a) m)
once_taken table n m a here at = at_set table n m (without_app (row table n) a) []
    (λ e. subst AreOnce (sym e) at)
    (λ e v. subst AreOnce (sym v) (AllPairs-filter (λ (x y : App). x.0 ≢ y.0) (λ x. not (same_app a x)) (row table n) here))

pub once_put : (table : List (List App)) (n m : ℕ) (a : App) → AreOnce (row table n) → AreOnce (row table m) → has table n a ≡ false
    → AreOnce (row (put table n a) m)
once_put table n m a here at absent = at_set table n m (row table n ++ a ∷ []) []
    (λ e. subst AreOnce (sym e) at)
    (λ e v. subst AreOnce (sym v) (AreOnce-push a (row table n) here absent))

-- only a list that is there has any
pub row_there : (table : List (List App)) (n : ℕ) (a : App) → has table n a ≡ true → n < length table
row_there [] n a h = cc
row_there (xs ∷ table) zero a h = omega arith
row_there (xs ∷ table) (suc n) a h = let l = row_there table n a h in omega arith

pub put_other : (table : List (List App)) (n m : ℕ) (a b : App) → same_app b a ≡ false → has (put table n a) m b ≡ true → has table m b ≡ true
put_other table n m a b d h = put_has table n m a b h (λ before. before) (λ e t. both (same_app b a) t d)

-- another application stands where it stood
pub taken_apart : (table : List (List App)) (n m : ℕ) (a b : App) → same_app b a ≡ false → has (taken table n a) m b ≡ has table m b
taken_apart table n m a b d = both_ways (has (taken table n a) m b) (has table m b) (taken_has table n m a b) (taken_keeps table n m a b d)

pub put_apart : (table : List (List App)) (n m : ℕ) (a b : App) → same_app b a ≡ false → has (put table n a) m b ≡ has table m b
put_apart table n m a b d = both_ways (has (put table n a) m b) (has table m b) (put_other table n m a b d) (put_keeps table n m a b)

pub length_taken : (table : List (List App)) (n : ℕ) (a : App) → length (taken table n a) ≡ length table
length_taken table n a = length-set table n (without_app (row table n) a)

pub length_put : (table : List (List App)) (n : ℕ) (a : App) → length (put table n a) ≡ length table
length_put table n a = length-set table n (row table n ++ a ∷ [])

-- one of two
pub either : {P : Type 0} (p q : Bool) → p || q ≡ true → (p ≡ true → P) → (q ≡ true → P) → P
either true q h left right = left refl
either false q h left right = right h
