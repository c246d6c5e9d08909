-- Lists of which a loop has gone over a part.
use Rattle.std.proofs.Common.{◌≡◌, ◌<◌, ◌+◌, ◌&&◌, ◌||◌, ℕ, zero, suc, Bool, true, false, cond, not, min, List, [], ◌∷◌, ◌++◌}
use Rattle.std.proofs.Common.{fold, length, get_or, take, Option, Some, None, is_some, is_none, unwrap_or, find, refl, sym, ap, ◌∙◌, arith, nat_lt}
use Rattle.std.specs.List.{filter, list_any, list_all, position, position_or_len}
use Rattle.std.proofs.lemmas.Bool.Decides.{nat_tests}
use Rattle.std.proofs.lemmas.List.Sums.{fold_push}
use Rattle.std.proofs.lemmas.List.Elements.{filter_more}
use Rattle.std.proofs.lemmas.List.Quantifiers.{position-Some}
use Rattle.rh_base.specs.Lists.{or_else, first_given, least}

pub cases : {P : Type 0} (b : Bool) → (b ≡ true → P) → (b ≡ false → P) → P
cases true when unless = when refl
cases false when unless = unless refl

-- all pass if none is found that doesn't
pub all_pass : {A : Type 0} (p : A → Bool) (xs : List A) → is_none (find (λ x. not (p x)) xs) ≡ list_all p xs
all_pass p [] = refl
all_pass p (x ∷ xs) = by (p x) (all_pass p xs)
  where
    by : (b : Bool) → is_none (find (λ y. not (p y)) xs) ≡ list_all p xs → is_none (cond (not b) (Some x) (find (λ y. not (p y)) xs)) ≡ (b && list_all p xs)
    by true h = h
    by false h = refl

-- ---- what passes two tests
pub filter_both : {A : Type 0} (p q : A → Bool) (xs : List A) → filter q (filter p xs) ≡ filter (λ x. p x && q x) xs
filter_both p q [] = refl
filter_both p q (x ∷ xs) = by (p x) (q x) refl (filter_both p q xs)
  where
    by : (b e : Bool) → q x ≡ e → filter q (filter p xs) ≡ filter (λ y. p y && q y) xs
        → filter q (cond b (x ∷ filter p xs) (filter p xs)) ≡ cond (b && q x) (x ∷ filter (λ y. p y && q y) xs) (filter (λ y. p y && q y) xs)
    by true e is h = ap (cond (q x) (x ∷ filter q (filter p xs))) h ∙ ap (λ ys. cond (q x) (x ∷ ys) (filter (λ y. p y && q y) xs)) h
    by false e is h = h

pub both_more : {A : Type 0} (p q : A → Bool) (xs : List A) (i : ℕ) (d : A) → i < length xs
    → filter q (filter p (take (i + 1) xs)) ≡ filter q (filter p (take i xs)) ++ cond (p (get_or xs i d) && q (get_or xs i d)) (get_or xs i d ∷ []) []
both_more p q xs i d h =
    filter_both p q (take (i + 1) xs)
    ∙ filter_more (λ x. p x && q x) xs i d h
    ∙ ap (λ ys. ys ++ cond (p (get_or xs i d) && q (get_or xs i d)) (get_or xs i d ∷ []) []) (sym (filter_both p q (take i xs)))

-- ---- the first group that has one that passes
pub any_filter : {A : Type 0} (p : A → Bool) (xs ys : List A) → list_any p xs ≡ true → or_else (filter p xs) ys ≡ filter p xs
any_filter p [] ys h = cc
any_filter p (x ∷ xs) ys h = by (p x) h (any_filter p xs ys)
  where
    by : (b : Bool) → (b || list_any p xs) ≡ true → (list_any p xs ≡ true → or_else (filter p xs) ys ≡ filter p xs)
        → or_else (cond b (x ∷ filter p xs) (filter p xs)) ys ≡ cond b (x ∷ filter p xs) (filter p xs)
    by true any rest = refl
    by false any rest = rest any

pub none_filter : {A : Type 0} (p : A → Bool) (xs : List A) → list_any p xs ≡ false → filter p xs ≡ []
none_filter p [] h = refl
none_filter p (x ∷ xs) h = by (p x) h (none_filter p xs)
  where
    by : (b : Bool) → (b || list_any p xs) ≡ false → (list_any p xs ≡ false → filter p xs ≡ []) → cond b (x ∷ filter p xs) (filter p xs) ≡ []
    by true any rest = cc
    by false any rest = rest any

first_at : {A : Type 0} (p : A → Bool) (groups : List (List A)) (i : ℕ) (d : List A) → i < length groups → list_any p (get_or groups i d) ≡ true
    → ((k : ℕ) → k < i → list_any p (get_or groups k d) ≡ false) → first_given (filter p) groups ≡ filter p (get_or groups i d)
first_at p [] i d h here before = absurd (omega arith)
first_at p (g ∷ groups) zero d h here before = any_filter p g (first_given (filter p) groups) here
first_at p (g ∷ groups) (suc i) d h here before =
    ap (λ xs. or_else xs (first_given (filter p) groups)) (none_filter p g (before 0 (omega arith)))
    ∙ first_at p groups i d (omega arith) here (λ k less. before (suc k) (omega arith))

pub first_meeting : {A : Type 0} (p : A → Bool) (groups : List (List A)) (i : ℕ) (g : List A) → position (list_any p) groups ≡ Some i → g ≡ get_or groups i g
    → filter p g ≡ first_given (filter p) groups
first_meeting p groups i g h is =
    let at = position-Some (list_any p) groups i g h in
    ap (filter p) is ∙ sym (first_at p groups i g at.0 at.1 at.2)

any_place : {A : Type 0} (p : A → Bool) (xs : List A) → nat_lt (position_or_len p xs) (length xs) ≡ list_any p xs
any_place p [] = refl
any_place p (x ∷ xs) = by (p x) (any_place p xs)
  where
    first : (n : ℕ) → nat_lt 0 (suc n) ≡ true
    first n = grind (arith, nat_tests)

    later : (n m : ℕ) → nat_lt (1 + n) (suc m) ≡ nat_lt n m
    later n m = grind (arith, nat_tests)

    by : (b : Bool) → nat_lt (position_or_len p xs) (length xs) ≡ list_any p xs → nat_lt (cond (not b) (1 + position_or_len p xs) 0) (suc (length xs))
        ≡ (b || list_any p xs)
    by true h = first (length xs)
    by false h = later (position_or_len p xs) (length xs) ∙ h

-- there is a place exactly if any passes
pub place_any : {A : Type 0} (p : A → Bool) (xs : List A) → is_some (position p xs) ≡ list_any p xs
place_any p xs = by (nat_lt (position_or_len p xs) (length xs)) ∙ any_place p xs
  where
    by : (b : Bool) → is_some (cond b (Some (position_or_len p xs)) None) ≡ b
    by true = refl
    by false = refl

-- nothing is given exactly if no group has one that passes
pub nothing_given : {A : Type 0} (p : A → Bool) (groups : List (List A)) → list_any (list_any p) groups ≡ false → first_given (filter p) groups ≡ []
nothing_given p [] h = refl
nothing_given {A} p (g ∷ groups) h = by (list_any p g) refl h (nothing_given p groups)
  where
    by : (b : Bool) → list_any p g ≡ b → (b || list_any (list_any p) groups) ≡ false
        → (list_any (list_any p) groups ≡ false → first_given (filter p) groups ≡ []) → first_given (filter p) (g ∷ groups) ≡ []
    by true is any rest = cc
    by false is any rest = ap (λ xs. or_else xs (first_given (filter p) groups)) (none_filter p g is) ∙ rest any

pub none_meets : {A : Type 0} (p : A → Bool) (groups : List (List A)) → position (list_any p) groups ≡ None → [] ≡ first_given (filter p) groups
none_meets p groups h = sym (nothing_given p groups (sym (place_any (list_any p) groups) ∙ ap is_some h))

-- ---- the least
abbrev pub smallest : List ℕ → Option ℕ
smallest [] = None
smallest (n ∷ ns) = Some (fold min n ns)

abbrev pub smaller : Option ℕ → ℕ → ℕ
smaller None k = k
smaller (Some n) k = min n k

pub smallest_push : (ns : List ℕ) (k : ℕ) → smallest (ns ++ k ∷ []) ≡ Some (smaller (smallest ns) k)
smallest_push [] k = refl
smallest_push (n ∷ ns) k = ap Some (fold_push min n ns k)

pub least_smallest : (ns : List ℕ) → least ns ≡ unwrap_or (smallest ns) 0
least_smallest [] = refl
least_smallest (n ∷ ns) = refl

-- ---- an element more
pub any_push : {A : Type 0} (p : A → Bool) (xs : List A) (x : A) → list_any p (xs ++ x ∷ []) ≡ (p x || list_any p xs)
any_push p [] x = refl
any_push p (y ∷ ys) x = ap (λ b. p y || b) (any_push p ys x) ∙ swap (p y) (p x) (list_any p ys)
  where
    swap : (a b c : Bool) → (a || (b || c)) ≡ (b || (a || c))
    swap true true c = refl
    swap true false c = refl
    swap false b c = refl
