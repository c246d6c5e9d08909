-- The nodes that are best for an application are those that pass, in the first group that has any, with fewest applications.
use Rattle.std.proofs.Common.{◌≡◌, ◌≤◌, ◌||◌, unwrap_or, ℕ, Bool, true, min, nat_eq, List, [], ◌∷◌, map, fold, Option, Some, None, is_some, inl, inr, refl, sym}
use Rattle.std.proofs.Common.{ap, ◌∙◌, arith}
use Rattle.std.specs.List.{position}
use Rattle.std.specs.Option.{option_map, option_and_then}
use Rattle.std.proofs.lemmas.Bool.Decides.{nat_tests}
use Rattle.rh_model.specs.declared.node.Node.{Node}
use Rattle.rh_model.specs.declared.node.App.{App}
use Rattle.rh_model.specs.declared.settings.Spread.{Spread}
use Rattle.rh_model.specs.ClusterView.{ClusterView, is_in, group_of, spread_of, numbered}
use Rattle.rh_state.specs.StateView.{StateView, running_count}
use Rattle.rh_base.specs.Lists.{least, lightest}
use Rattle.rh_rules.specs.Placing.{best, groups_of}
use Rattle.rh_base.proofs.Lists.{cases}
use Rattle.rh_rules.specs.Moves.{comes_before}
use Rattle.rh_rules.specs.Settling.{IsBest}
use Rattle.rh_base.proofs.Truths.{both, same_number, same_refl, or_left, or_right}
use Rattle.rh_trace.proofs.Every.{Every, every_filter, every_passes}
use Rattle.rh_trace.proofs.Firsts.{In}
use Rattle.rh_trace.proofs.InGroups.{place, among, Chosen, each_chosen, every_both, every_weaker, kept_in, IsAmong, among_first}

-- ---- the lightest
min_left : (m n : ℕ) → min m n ≤ m
min_left m n = grind (arith, nat_tests)

min_right : (m n : ℕ) → min m n ≤ n
min_right m n = grind (arith, nat_tests)

fold_le : (m : ℕ) (ns : List ℕ) → fold min m ns ≤ m
fold_le m [] = omega arith
fold_le m (n ∷ ns) = let h = fold_le (min m n) ns in let l = min_left m n in omega (arith, h, l)

fold_each : (w : Node → ℕ) (m : ℕ) (xs : List Node) (k : Node) → is_in k xs ≡ true → fold min m (map w xs) ≤ w k
fold_each w m [] k h = cc
fold_each w m (x ∷ xs) k h = cases (nat_eq k.0 x.0)
    (λ t. let e : w k ≡ w x = ap (λ i. w (numbered i)) (same_number k.0 x.0 t) in
    let f = fold_le (min m (w x)) (map w xs) in let l = min_right m (w x) in omega (arith, e, f, l))
    (λ f. fold_each w (min m (w x)) xs k (sym (ap (λ b. b || is_in k xs) f) ∙ h))

least_le : (w : Node → ℕ) (xs : List Node) (k : Node) → is_in k xs ≡ true → least (map w xs) ≤ w k
least_le w [] k h = cc
least_le w (x ∷ xs) k h = cases (nat_eq k.0 x.0)
    (λ t. let e : w k ≡ w x = ap (λ i. w (numbered i)) (same_number k.0 x.0 t) in let f = fold_le (w x) (map w xs) in omega (arith, e, f))
    (λ f. fold_each w (w x) xs k (sym (ap (λ b. b || is_in k xs) f) ∙ h))

each_lightest : (w : Node → ℕ) (xs : List Node) → Every (λ n. (k : Node) → is_in k xs ≡ true → w n ≤ w k) (lightest w xs)
each_lightest w xs = every_weaker (λ n. nat_eq (w n) (least (map w xs)) ≡ true) (λ n. (k : Node) → is_in k xs ≡ true → w n ≤ w k) (lightest w xs)
    (λ n t k h. let e = same_number (w n) (least (map w xs)) t in let l = least_le w xs k h in omega (arith, e, l))
    (every_passes (λ n. nat_eq (w n) (least (map w xs))) xs)

-- and what is at most as heavy as each is at most as heavy as the least
fold_ge : (w : Node → ℕ) (m a : ℕ) (xs : List Node) → m ≤ a → ((k : Node) → is_in k xs ≡ true → m ≤ w k) → m ≤ fold min a (map w xs)
fold_ge w m a [] h each = h
fold_ge w m a (x ∷ xs) h each =
    fold_ge w m (min a (w x)) xs (let l = each x (or_left (nat_eq x.0 x.0) (is_in x xs) (same_refl x.0)) in min_least m a (w x) h l)
    (λ k i. each k (or_right (nat_eq k.0 x.0) (is_in k xs) i))
  where
    min_least : (m a b : ℕ) → m ≤ a → m ≤ b → m ≤ min a b
    min_least m a b h l = grind (arith, nat_tests)

least_ge : (w : Node → ℕ) (m : ℕ) (xs : List Node) (n : Node) → is_in n xs ≡ true → ((k : Node) → is_in k xs ≡ true → m ≤ w k) → m ≤ least (map w xs)
least_ge w m [] n h each = cc
least_ge w m (x ∷ xs) n h each =
    fold_ge w m (w x) xs (each x (or_left (nat_eq x.0 x.0) (is_in x xs) (same_refl x.0))) (λ k i. each k (or_right (nat_eq k.0 x.0) (is_in k xs) i))

in_lightest : (w : Node → ℕ) (xs : List Node) (n : Node) → is_in n xs ≡ true → ((k : Node) → is_in k xs ≡ true → w n ≤ w k) → is_in n (lightest w xs) ≡ true
in_lightest w xs n h each =
    kept_in (λ x. nat_eq (w x) (least (map w xs))) xs n (equal (w n) (least (map w xs)) (least_ge w (w n) xs n h each) (least_le w xs n h)) h
  where
    equal : (i j : ℕ) → i ≤ j → j ≤ i → nat_eq i j ≡ true
    equal i j h l = grind (arith, nat_tests)

-- ---- the best nodes
group_is : (c : ClusterView) (a : App) (n : Node) → group_of c a n ≡ place (groups_of c a) n
group_is c a n = by (spread_of c a)
  where
    by : (o : Option Spread) → option_and_then (λ (s : Spread). position (is_in n) s.groups) o
        ≡ place (unwrap_or (option_map (λ (v : Spread). v.groups) o) []) n
    by None = refl
    by (Some v) = refl

before_is : (c : ClusterView) (a : App) (k n : Node) → comes_before (group_of c a k) (group_of c a n)
    ≡ comes_before (place (groups_of c a) k) (place (groups_of c a) n)
before_is c a k n = ap (λ q. comes_before q (group_of c a n)) (group_is c a k) ∙ ap (comes_before (place (groups_of c a) k)) (group_is c a n)

is_best : (s : StateView) (a : App) (p : Node → Bool) (n : Node) → Chosen p (groups_of s.cluster a) n
    → ((k : Node) → is_in k (among p (groups_of s.cluster a)) ≡ true → running_count s n ≤ running_count s k) → IsBest s a p n
is_best s a p n c few = record {
  listed = ap is_some (group_is s.cluster a n) ∙ c.3;
  passes = c.0;
  first = λ k t. cases (comes_before (group_of s.cluster a k) (group_of s.cluster a n))
      (λ h. both (p k) t (c.1 k (sym (before_is s.cluster a k n) ∙ h)))
      (λ f. f);
  fewest = λ k t e. few k (c.2 k (sym (group_is s.cluster a k) ∙ e ∙ group_is s.cluster a n) t);
}

pub each_best : (s : StateView) (a : App) (p : Node → Bool) → Every (IsBest s a p) (best s a p)
unfolding best
each_best s a p =
    let groups : List (List Node) = groups_of s.cluster a in
    every_both (Chosen p groups) (λ n. (k : Node) → is_in k (among p groups) ≡ true → running_count s n ≤ running_count s k) (IsBest s a p)
    (lightest (running_count s) (among p groups)) (is_best s a p)
    (every_filter (Chosen p groups) _ (among p groups) (each_chosen p groups))
    (each_lightest (running_count s) (among p groups))

in_nodes : (xs : List Node) (n : Node) → is_in n xs ≡ true → In n xs
in_nodes [] n h = cc
in_nodes (x ∷ xs) n h = cases (nat_eq n.0 x.0)
    (λ t. inl (ap numbered (sym (same_number n.0 x.0 t))))
    (λ f. inr (in_nodes xs n (sym (ap (λ b. b || is_in n xs) f) ∙ h)))

pub in_best : (s : StateView) (a : App) (p : Node → Bool) (n : Node) → IsBest s a p n → In n (best s a p)
unfolding best
in_best s a p n b =
    let groups : List (List Node) = groups_of s.cluster a in
    let r : IsAmong p groups n = among_first p groups n (sym (ap is_some (group_is s.cluster a n)) ∙ b.listed) b.passes
    (λ k t. sym (before_is s.cluster a k n) ∙ b.first k t) in
    in_nodes (best s a p) n (in_lightest (running_count s) (among p groups) n r.0
    (λ k i. let q = r.1 k i in b.fewest k q.1 (group_is s.cluster a k ∙ q.0 ∙ sym (group_is s.cluster a n))))
