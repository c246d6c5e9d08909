-- A walk over groups as far as the first that has a node, and what is asked of the nodes of all groups only.
use Rattle.std.proofs.Common.{◌≡◌, ◌<◌, ◌≤◌, ◌||◌, ℕ, zero, suc, Bool, true, false, cond, List, [], ◌∷◌, All, Option, Some, None, length, take, get_or, nat_eq, refl, ap, ◌∙◌, arith, is_some, unwrap_or}
use Rattle.std.specs.List.{list_any, position, filter}
use Rattle.std.specs.Option.{option_map, option_and_then}
use Rattle.std.proofs.lemmas.Bool.Decides.{nat_tests}
use Rattle.rh_model.specs.declared.node.Node.{Node}
use Rattle.rh_model.specs.declared.node.App.{App}
use Rattle.rh_model.specs.declared.settings.Spread.{Spread}
use Rattle.rh_model.specs.ClusterView.{is_in, group_of, spread_of}
use Rattle.rh_state.specs.StateView.{StateView, running_count}
use Rattle.rh_base.specs.Lists.{or_else, first_given, lightest}
use Rattle.rh_base.proofs.Lists.{place_any}
use Rattle.rh_rules.specs.Placing.{best}
use Rattle.rh_rules.specs.Moves.{comes_before}
use Rattle.rh_base.proofs.Truths.{both, same_refl, or_left, or_right}
use Rattle.rh_trace.proofs.InGroups.{position_cons, none_before, first_before, before_suc}

pub neither : (p q : Bool) → p || q ≡ false → (p ≡ false) × (q ≡ false)
neither true q h = both true refl h
neither false q h = (refl, h)

pub behind : {A : Type 0} (p : A → Bool) (x : A) (xs : List A) (r : Option ℕ) (some : Bool) → comes_before (position p xs) r ≡ some
    → comes_before (position p (x ∷ xs)) (option_map suc r) ≡ (p x || some)
behind p x xs r some h = ap (λ o. comes_before o (option_map suc r)) (position_cons p x xs) ∙ by (p x)
  where
    by : (b : Bool) → comes_before (cond b (Some 0) (option_map suc (position p xs))) (option_map suc r) ≡ (b || some)
    by true = first_before r
    by false = before_suc (position p xs) r ∙ h

pub passed : {A : Type 0} (q : A → Bool) (x : A) (xs : List A) → q x ≡ false → position q (x ∷ xs) ≡ option_map suc (position q xs)
passed q x xs f = position_cons q x xs ∙ ap (λ b. cond b (Some 0) (option_map suc (position q xs))) f

-- what comes before the first group that passes is what stands before it
pub before_here : {A : Type 0} (p q : A → Bool) (xs : List A) (i : ℕ) (d : A) → i < length xs → list_any q (take i xs) ≡ false → q (get_or xs i d) ≡ true
    → comes_before (position p xs) (position q xs) ≡ list_any p (take i xs)
before_here p q [] i d lt none here = absurd (omega arith)
before_here p q (x ∷ xs) zero d lt none here =
    ap (comes_before (position p (x ∷ xs))) (position_cons q x xs ∙ ap (λ b. cond b (Some 0) (option_map suc (position q xs))) here)
    ∙ none_before (position p (x ∷ xs))
before_here p q (x ∷ xs) (suc i) d lt none here =
    let apart = neither (q x) (list_any q (take i xs)) none in
    ap (comes_before (position p (x ∷ xs))) (passed q x xs apart.0)
    ∙ behind p x xs (position q xs) (list_any p (take i xs)) (before_here p q xs i d (omega arith) apart.1 here)

-- where none passes, all stand before
pub before_none : {A : Type 0} (p q : A → Bool) (xs : List A) → list_any q xs ≡ false → comes_before (position p xs) (position q xs) ≡ list_any p xs
before_none p q [] none = refl
before_none p q (x ∷ xs) none =
    let apart = neither (q x) (list_any q xs) none in
    ap (comes_before (position p (x ∷ xs))) (passed q x xs apart.0)
    ∙ behind p x xs (position q xs) (list_any p xs) (before_none p q xs apart.1)

-- a node of a higher number than all is in no group
not_in : (count : ℕ) (group : List Node) (n : Node) → All (λ (m : Node). m.0 < count) group → count ≤ n.0 → is_in n group ≡ false
not_in count [] n all past = refl
not_in count (m ∷ group) n all past =
    ap (λ b. b || is_in n group) (other n.0 m.0 count past (all 0 m (omega arith)))
    ∙ not_in count group n (λ k d l. all (suc k) d (omega arith)) past
  where
    other : (i j k : ℕ) → k ≤ i → j < k → nat_eq i j ≡ false
    other i j k le lt = grind (arith, nat_tests)

pub nowhere : (count : ℕ) (groups : List (List Node)) (n : Node) → All (All (λ (m : Node). m.0 < count)) groups → count ≤ n.0
    → position (is_in n) groups ≡ None
nowhere count [] n all past = refl
nowhere count (g ∷ groups) n all past =
    passed (is_in n) g groups (not_in count g n (all 0 g (omega arith)) past)
    ∙ ap (option_map suc) (nowhere count groups n (λ k d l. all (suc k) d (omega arith)) past)

-- ---- what is asked of the nodes of a list only
same_filter : (p q : Node → Bool) (group : List Node) → ((n : Node) → is_in n group ≡ true → p n ≡ q n) → filter p group ≡ filter q group
same_filter p q [] same = refl
same_filter p q (m ∷ group) same =
    let here = same m (or_left (nat_eq m.0 m.0) (is_in m group) (same_refl m.0)) in
    let rest = same_filter p q group (λ n h. same n (or_right (nat_eq n.0 m.0) (is_in n group) h)) in
    λ i. cond (here i) (m ∷ rest i) (rest i)

same_given : (p q : Node → Bool) (groups : List (List Node)) → ((n : Node) → list_any (is_in n) groups ≡ true → p n ≡ q n)
    → first_given (filter p) groups ≡ first_given (filter q) groups
same_given p q [] same = refl
same_given p q (g ∷ groups) same =
    let here = same_filter p q g (λ n h. same n (or_left (is_in n g) (list_any (is_in n) groups) h)) in
    let rest = same_given p q groups (λ n h. same n (or_right (is_in n g) (list_any (is_in n) groups) h)) in
    λ i. or_else (here i) (rest i)

pub same_best : (s : StateView) (a : App) (p q : Node → Bool) → ((n : Node) → is_some (group_of s.cluster a n) ≡ true → p n ≡ q n) → best s a p ≡ best s a q
unfolding best
same_best s a p q same = ap (lightest (running_count s)) (by (spread_of s.cluster a) same)
  where
    by : (o : Option Spread) → ((n : Node) → is_some (option_and_then (λ (v : Spread). position (is_in n) v.groups) o) ≡ true → p n ≡ q n)
        → first_given (filter p) (unwrap_or (option_map (λ (v : Spread). v.groups) o) []) ≡ first_given (filter q) (unwrap_or (option_map (λ (v : Spread). v.groups) o) [])
    by None same = refl
    by (Some v) same = same_given p q v.groups (λ n h. same n (place_any (is_in n) v.groups ∙ h))
