-- Nothing is chosen exactly if no node that passes the test stands in a group.
use Rattle.std.proofs.Common.{◌≡◌, ◌↔◌, ◌==◌, ◌||◌, ℕ, Bool, true, false, cond, eqb, min, List, [], ◌∷◌, map, fold, IsNone, Option, Some, None, unwrap_or, refl}
use Rattle.std.proofs.Common.{sym, ap, ◌∙◌, inl, inr, arith}
use Rattle.std.specs.List.{filter, list_any, position}
use Rattle.std.specs.Option.{option_map, option_and_then}
use Rattle.std.proofs.lemmas.Bool.{eq-eqb}
use Rattle.std.proofs.lemmas.Bool.Decides.{nat_tests, eqb_tells}
use Rattle.rh_model.specs.declared.node.Node.{Node}
use Rattle.rh_model.specs.declared.node.App.{App}
use Rattle.rh_model.specs.declared.settings.Spread.{Spread}
use Rattle.rh_model.specs.ClusterView.{is_in, group_of, spread_of}
use Rattle.rh_state.specs.StateView.{StateView, running_count}
use Rattle.rh_rules.specs.Placing.{best, picked}
use Rattle.rh_rules.specs.declared.pick.Pick.{Pick}
use Rattle.rh_base.specs.Lists.{or_else, first_given, lightest}
use Rattle.rh_base.proofs.Lists.{cases, any_filter, none_filter, place_any, nothing_given}
use Rattle.rh_place.proofs.Picks.{picked_none}

filter_no : {A : Type 0} (p : A → Bool) (x : A) (xs : List A) → p x ≡ false → filter p (x ∷ xs) ≡ filter p xs
filter_no p x xs h = ap (λ b. cond b (x ∷ filter p xs) (filter p xs)) h

filter_yes : {A : Type 0} (p : A → Bool) (x : A) (xs : List A) → p x ≡ true → filter p (x ∷ xs) ≡ x ∷ filter p xs
filter_yes p x xs h = ap (λ b. cond b (x ∷ filter p xs) (filter p xs)) h

no_cons : {A P : Type 0} (x : A) (xs : List A) → x ∷ xs ≡ [] → P
no_cons x xs h = cc

min_step : (m n v : ℕ) → m ≡ min n v → eqb v m ≡ false → m ≡ n
min_step m n v e f = grind (arith, nat_tests)

differ : (a m : ℕ) → eqb a m ≡ false → m ≡ a → ⊥
differ a m f e = grind (arith, nat_tests)

-- where none has the least, it is the first number
none_attains : {A : Type 0} (w : A → ℕ) (n m : ℕ) (xs : List A) → m ≡ fold min n (map w xs) → filter (λ x. w x == m) xs ≡ [] → m ≡ n
none_attains w n m [] e none = e
none_attains w n m (x ∷ xs) e none = cases (w x == m)
    (λ t. no_cons x (filter (λ y. w y == m) xs) (sym (filter_yes (λ y. w y == m) x xs t) ∙ none))
    (λ f. min_step m n (w x) (none_attains w (min n (w x)) m xs e (sym (filter_no (λ y. w y == m) x xs f) ∙ none)) f)

-- of any there is a lightest
lightest_nil : {A : Type 0} (w : A → ℕ) (xs : List A) → lightest w xs ≡ [] → xs ≡ []
lightest_nil w [] h = refl
lightest_nil w (x ∷ xs) h =
    let m : ℕ = fold min (w x) (map w xs) in
    cases (w x == m)
    (λ t. no_cons x (filter (λ y. w y == m) xs) (sym (filter_yes (λ y. w y == m) x xs t) ∙ h))
    (λ f. absurd (differ (w x) m f (none_attains w (w x) m xs refl (sym (filter_no (λ y. w y == m) x xs f) ∙ h))))

neither : (a b : Bool) → (a || b) ≡ false → (a ≡ false) × (b ≡ false)
neither true b h = absurd (cc)
neither false b h = (refl, h)

yes_no : {P : Type 0} (b : Bool) → b ≡ true → b ≡ false → P
yes_no {P = P} b t f = clash (sym t ∙ f)
  where
    clash : true ≡ false → P
    clash e = cc

any_not_nil : {A P : Type 0} (p : A → Bool) (xs : List A) → list_any p xs ≡ true → filter p xs ≡ [] → P
any_not_nil p [] h e = cc
any_not_nil p (x ∷ xs) h e = cases (p x)
    (λ t. no_cons x (filter p xs) (sym (filter_yes p x xs t) ∙ e))
    (λ f. any_not_nil p xs (ap (λ b. b || list_any p xs) (sym f) ∙ h) (sym (filter_no p x xs f) ∙ e))

given_nil : {A : Type 0} (p : A → Bool) (groups : List (List A)) → first_given (filter p) groups ≡ [] → list_any (list_any p) groups ≡ false
given_nil p [] h = refl
given_nil p (g ∷ groups) h = cases (list_any p g)
    (λ t. any_not_nil p g t (sym (any_filter p g (first_given (filter p) groups) t) ∙ h))
    (λ f. ap (λ b. b || list_any (list_any p) groups) f ∙ given_nil p groups
    (sym (ap (λ xs. or_else xs (first_given (filter p) groups)) (none_filter p g f)) ∙ h))

not_in : (p : Node → Bool) (n : Node) (g : List Node) → p n ≡ true → list_any p g ≡ false → is_in n g ≡ false
not_in p n [] t h = refl
not_in p n (m ∷ ms) t h =
    let s = neither (p m) (list_any p ms) h in
    elim (eqb_tells n.0 m.0) [
      | inl same ↦ yes_no (p n) t (ap (λ (k : ℕ). p (record { 0 = k })) same.1 ∙ s.0)
      | inr other ↦ rw other.0 (not_in p n ms t s.1)
    ]

in_none : (p : Node → Bool) (n : Node) (groups : List (List Node)) → p n ≡ true → list_any (list_any p) groups ≡ false → list_any (is_in n) groups ≡ false
in_none p n [] t h = refl
in_none p n (g ∷ groups) t h =
    let s = neither (list_any p g) (list_any (list_any p) groups) h in
    ap (λ b. b || list_any (is_in n) groups) (not_in p n g t s.0) ∙ in_none p n groups t s.1

none_passes : (p : Node → Bool) (g : List Node) → ((n : Node) → p n ≡ true → is_in n g ≡ false) → list_any p g ≡ false
none_passes p [] h = refl
none_passes p (m ∷ ms) h = cases (p m)
    (λ t. yes_no (m.0 == m.0) (eq-eqb m.0 m.0 refl) (neither (m.0 == m.0) (is_in m ms) (h m t)).0)
    (λ f. ap (λ b. b || list_any p ms) f ∙ none_passes p ms (λ n t. (neither (n.0 == m.0) (is_in n ms) (h n t)).1))

none_of_groups : (p : Node → Bool) (groups : List (List Node)) → ((n : Node) → p n ≡ true → list_any (is_in n) groups ≡ false)
    → list_any (list_any p) groups ≡ false
none_of_groups p [] h = refl
none_of_groups p (g ∷ groups) h =
    ap (λ b. b || list_any (list_any p) groups) (none_passes p g (λ n t. (neither (is_in n g) (list_any (is_in n) groups) (h n t)).0))
    ∙ none_of_groups p groups (λ n t. (neither (is_in n g) (list_any (is_in n) groups) (h n t)).1)

none_chosen_among : (w : Node → ℕ) (pick : Pick) (p : Node → Bool) (groups : List (List Node))
    → IsNone (picked pick (lightest w (first_given (filter p) groups))) ↔ ((n : Node) → p n ≡ true → IsNone (position (is_in n) groups))
none_chosen_among w pick p groups = (
  (λ h n t. place_any (is_in n) groups ∙ in_none p n groups t
      (given_nil p groups (lightest_nil w (first_given (filter p) groups) ((picked_none pick (lightest w (first_given (filter p) groups))).0 h)))),
  (λ h. (picked_none pick (lightest w (first_given (filter p) groups))).1
      (ap (lightest w) (nothing_given p groups (none_of_groups p groups (λ n t. sym (place_any (is_in n) groups) ∙ h n t))))),
)

pub none_chosen : (s : StateView) (a : App) (pick : Pick) (p : Node → Bool) → IsNone (picked pick (best s a p))
    ↔ ((n : Node) → p n ≡ true → IsNone (group_of s.cluster a n))
unfolding best
none_chosen s a pick p = by (spread_of s.cluster a)
  where
    by : (o : Option Spread) → IsNone (picked pick (lightest (running_count s) (first_given (filter p)
        (unwrap_or (option_map (λ (v : Spread). v.groups) o) [])))) ↔
        ((n : Node) → p n ≡ true → IsNone (option_and_then (λ (v : Spread). position (is_in n) v.groups) o))
    by None = ((λ h n t. refl), (λ h. (none_chosen_among (running_count s) pick p []).1 (λ n t. refl)))
    by (Some v) = none_chosen_among (running_count s) pick p v.groups
