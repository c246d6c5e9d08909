-- A node is outranked exactly where the first group that has a node which may run the application comes before its own.
use Rattle.std.proofs.Common.{◌≡◌, ◌∙◌, ◌<◌, ◌≤◌, ◌==◌, ◌&&◌, ◌∷◌, [], ℕ, List, Bool, true, false, Option, Some, None, All, cond, length, map, get_or, position, is_some, unwrap_or, nat_lt, refl, ap, sym, subst, inl, inr, arith, ltb-true, eqb-true, eq-eqb, lt-ltb, le-ltb}
use Rattle.std.specs.List.{list_any, position_or_len, range_with_len}
use Rattle.std.specs.Option.{option_and_then, option_map}
use Rattle.std.proofs.lemmas.Bool.{false≢true, true≢false, or_cases, or_left, or_right, and_right, and_parts, and_from, cases_lt}
use Rattle.std.proofs.lemmas.List.Quantifiers.{position-Some}
use Rattle.std.proofs.lemmas.List.Sums.{fails_before_first}
use Rattle.std.proofs.lemmas.List.Folds.{Any-from_list_any, list_any_at, list_any_none}
use Rattle.std.proofs.lemmas.List.FromFn.{get_or-map-range_with_len, length-map-range_with_len}
use Rattle.rh_model.specs.ClusterView.{ClusterView, IsWithin, node_count, numbered, is_in, group_of, spread_of, app_count}
use Rattle.rh_model.specs.declared.node.Node.{Node}
use Rattle.rh_model.specs.declared.node.App.{App}
use Rattle.rh_model.specs.declared.settings.Spread.{Spread}
use Rattle.rh_state.specs.Numbers.{nodes_of}
use Rattle.rh_state.specs.StateView.{StateView}
use Rattle.rh_rules.specs.Moves.{comes_before}
use Rattle.rh_rules.specs.declared.event.Event.{Event}
use Rattle.rh_step_findings.specs.Candidates.{ranks_before, is_in_tuple, is_available, is_outranked}
use Rattle.rh_step_findings.specs.Pairs.{is_behind_tuple}
use Rattle.rh_step_findings.specs.Ranked.{is_free, groups_at, best_place}
use Rattle.rh_step_lint.proofs.Beyond.{spread_beyond}

-- ---- lists
-- a place that passes is at the first such place or behind it
reaches : {X : Type 0} (p : X → Bool) (xs : List X) (k : ℕ) (d : X) → k < length xs → p (get_or xs k d) ≡ true → (i : ℕ) × (i ≤ k) × (position p xs ≡ Some i)
reaches p xs k d lt here = elim (cases_lt k (position_or_len p xs)) [
  | inl before ↦ absurd (true≢false (sym here ∙ fails_before_first p xs k d before))
  | inr behind ↦ (position_or_len p xs, behind, ap (λ t. cond t (Some (position_or_len p xs)) None) (lt-ltb (position_or_len p xs) (length xs) (omega (arith, behind, lt))))
]

-- two tests that follow from one another are one
alike : (x y : Bool) → (x ≡ true → y ≡ true) → (y ≡ true → x ≡ true) → x ≡ y
alike true y to from = sym (to refl)
alike false true to from = from refl
alike false false to from = refl

-- a node of a list that passes
pub member : (n : Node) (p : Node → Bool) (g : List Node) → is_in n g ≡ true → p n ≡ true → list_any p g ≡ true
member n p [] here free = here
member n p (m ∷ g) here free = elim (or_cases (n.0 == m.0) (is_in n g) here) [
  | inl same ↦ or_left (p m) (list_any p g) (ap (λ k. p (numbered k)) (sym (eqb-true n.0 m.0 same)) ∙ free)
  | inr later ↦ or_right (p m) (list_any p g) (member n p g later free)
]

earlier : (p i : ℕ) (j : Option ℕ) → p ≤ i → comes_before (Some i) j ≡ true → comes_before (Some p) j ≡ true
earlier p i None le h = refl
earlier p i (Some k) le h = lt-ltb p k (let l = ltb-true i k h in omega (arith, l, le))

-- ---- the groups of one application, of which j is a place
module _ (groups : List (List Node)) (free : Node → Bool) (j : Option ℕ) (count : ℕ)
    (within : All (λ (g : List Node). All (λ (m : Node). m.0 < count) g) groups) where
  abbrev place : Node → Option ℕ
  place m = position (is_in m) groups

  abbrev test : Node → Bool
  test m = comes_before (place m) j && (is_some (place m) && free m)

  abbrev nodes : List Node
  nodes = map numbered (range_with_len 0 count)

  forth_at : (m : Node) (p : Option ℕ) → place m ≡ p → comes_before p j ≡ true → free m ≡ true → comes_before (position (list_any free) groups) j ≡ true
  forth_at m None is before can = absurd (false≢true before)
  forth_at m (Some i) is before can =
      let here = position-Some (is_in m) groups i [] is in
      let first = reaches (list_any free) groups i [] here.0 (member m free (get_or groups i []) here.1 can) in
      rw first.2 (earlier first.0 i j first.1 before)

  forth : list_any test nodes ≡ true → comes_before (position (list_any free) groups) j ≡ true
  forth any =
      let one = Any-from_list_any test nodes any in
      let outer = and_parts (comes_before (place one.1) j) (is_some (place one.1) && free one.1) one.4 in
      forth_at one.1 (place one.1) refl outer.0 (and_parts (is_some (place one.1)) (free one.1) outer.1).1

  back_at : (q : Option ℕ) → position (list_any free) groups ≡ q → comes_before q j ≡ true → list_any test nodes ≡ true
  back_at None is before = absurd (false≢true before)
  back_at (Some p) is before =
      let here = position-Some (list_any free) groups p [] is in
      let one = Any-from_list_any free (get_or groups p []) here.1 in
      let m : Node = one.1 in
      let known : m.0 < count = subst (λ (x : Node). x.0 < count) one.3 (within p [] here.0 one.0 m one.2) in
      let inside : is_in m (get_or groups p []) ≡ true =
      list_any_at (λ (x : Node). m.0 == x.0) (get_or groups p []) one.0 m one.2 (eq-eqb m.0 (get_or (get_or groups p []) one.0 m).0 (ap (λ (x : Node). x.0) (sym one.3))) in
      let first = reaches (is_in m) groups p [] here.0 inside in
      let passes : test m ≡ true = rw first.2 (and_from (comes_before (Some first.0) j) (free m) (earlier first.0 p j first.1 before) one.4) in
      list_any_at test nodes m.0 m (rw (length-map-range_with_len numbered 0 count) known)
      (ap test (get_or-map-range_with_len numbered 0 count m.0 m.0 m known (omega arith)) ∙ passes)

  pub ranked : list_any test nodes ≡ comes_before (position (list_any free) groups) j
  ranked = alike (list_any test nodes) (comes_before (position (list_any free) groups) j) forth (back_at (position (list_any free) groups) refl)

-- ---- of a cluster
abbrev place_in : Option Spread → Node → Option ℕ
place_in o m = option_and_then (λ (v : Spread). position (is_in m) v.groups) o

abbrev groups_in : Option Spread → List (List Node)
groups_in o = unwrap_or (option_map (λ (v : Spread). v.groups) o) []

at : (o : Option Spread) (free : Node → Bool) (n : Node) (count : ℕ)
    → ((v : Spread) → o ≡ Some v → All (λ (g : List Node). All (λ (m : Node). m.0 < count) g) v.groups)
    → list_any (λ m. comes_before (place_in o m) (place_in o n) && (is_some (place_in o m) && free m)) (map numbered (range_with_len 0 count))
    ≡ comes_before (position (list_any free) (groups_in o)) (place_in o n)
at None free n count within = list_any_none (λ m. false) (map numbered (range_with_len 0 count)) (λ k d lt. refl)
at (Some v) free n count within = ranked v.groups free (position (is_in n) v.groups) count (within v refl)

pub outranked_by_place : (s : StateView) (e : Event) (a : App) (n : Node) → IsWithin s.cluster
    → is_outranked s e a n ≡ comes_before (best_place s e a) (group_of s.cluster a n)
unfolding is_outranked is_available best_place nodes_of
outranked_by_place s e a n within = at (spread_of s.cluster a) (is_free s e a) n (node_count s.cluster) (within.groups a)

-- no group stands before the first one
not_before : (p : Option ℕ) → comes_before p (Some 0) ≡ false
not_before None = refl
not_before (Some i) = le-ltb i 0 (omega arith)

pub none_before_first : (s : StateView) (a : App) (n : Node) → group_of s.cluster a n ≡ Some 0 → is_behind_tuple s a n ≡ false
unfolding is_behind_tuple
none_before_first s a n first =
    list_any_none (λ m. is_in_tuple s.cluster a m && ranks_before s.cluster a m n) (nodes_of s.cluster)
    (λ k d lt. and_right (is_in_tuple s.cluster a (get_or (nodes_of s.cluster) k d)) (ranks_before s.cluster a (get_or (nodes_of s.cluster) k d) n)
    (ap (comes_before (group_of s.cluster a (get_or (nodes_of s.cluster) k d))) first
    ∙ not_before (group_of s.cluster a (get_or (nodes_of s.cluster) k d))))

-- no application that the cluster hasn't has groups
pub groups_beyond : (c : ClusterView) (a : App) → IsWithin c → nat_lt a.0 (app_count c) ≡ false → groups_at c a ≡ []
groups_beyond c a within above = ap groups_in (spread_beyond c a within above)
