-- The first dependency that is missing at any of the nodes at which an application is still to be started.
use Rattle.std.proofs.Common.{◌≡◌, ◌<◌, ◌≤◌, ◌+◌, ℕ, zero, suc, Bool, true, false, cond, is_some, List, [], ◌∷◌, map, Option, Some, None, nat_eq, refl, sym, ap}
use Rattle.std.proofs.Common.{◌∙◌, arith}
use Rattle.std.specs.List.{filter, range_with_len}
use Rattle.std.specs.Option.{option_or}
use Rattle.std.proofs.lemmas.Bool.Decides.{nat_tests}
use Rattle.rh_model.specs.ClusterView.{node_count, numbered}
use Rattle.rh_model.specs.declared.node.Node.{Node}
use Rattle.rh_model.specs.declared.node.App.{App}
use Rattle.rh_model.specs.declared.settings.Dep.{Dep}
use Rattle.rh_state.specs.Numbers.{nodes_of}
use Rattle.rh_state.specs.StateView.{StateView}
use Rattle.rh_rules.specs.Placing.{missing_dep}
use Rattle.rh_base.proofs.Lists.{cases}
use Rattle.rh_base.proofs.Truths.{same_number}
use Rattle.rh_rules.specs.Everywhere.{is_target, targets, first_missing, missing_at_targets}
use Rattle.rh_refusals.specs.Targets.{missing_if_target}

module _ (s : StateView) (a : App) where
  -- node after node, each only if the application is still to be started there
  abbrev first_if : List Node → Option Dep
  first_if [] = None
  first_if (n ∷ ns) = option_or (missing_if_target s a n) (first_if ns)

  filtered : (ns : List Node) → first_missing s a (filter (is_target s a) ns) ≡ first_if ns
  filtered [] = refl
  filtered (n ∷ ns) = by (is_target s a n) (filtered ns)
    where
      by : (b : Bool) → first_missing s a (filter (is_target s a) ns) ≡ first_if ns
          → first_missing s a (cond b (n ∷ filter (is_target s a) ns) (filter (is_target s a) ns))
          ≡ option_or (cond b (missing_dep s n a) None) (first_if ns)
      by true h = ap (option_or (missing_dep s n a)) h
      by false h = h

  abbrev in_range : ℕ → ℕ → List Node
  in_range start len = map numbered (range_with_len start len)

  or_found : (o p : Option Dep) → is_some o ≡ true → option_or o p ≡ o
  or_found (Some d) p h = refl
  or_found None p h = absurd (cc h)

  found : (start len k : ℕ) → start ≤ k → k < start + len → ((j : ℕ) → j < k → missing_if_target s a (numbered j) ≡ None)
      → is_some (missing_if_target s a (numbered k)) ≡ true → first_if (in_range start len) ≡ missing_if_target s a (numbered k)
  found start zero k ge lt none some = absurd (omega arith)
  found start (suc len) k ge lt none some = cases (nat_eq start k)
      (λ t. ap (λ i. option_or (missing_if_target s a (numbered i)) (first_if (in_range (start + 1) len))) (same_number start k t)
      ∙ or_found (missing_if_target s a (numbered k)) (first_if (in_range (start + 1) len)) some)
      (λ d. let l = apart start k d ge in
      ap (λ o. option_or o (first_if (in_range (start + 1) len))) (none start l)
      ∙ found (start + 1) len k (omega (arith, l)) (omega (arith, lt)) none some)
    where
      apart : (i j : ℕ) → nat_eq i j ≡ false → i ≤ j → i < j
      apart i j d l = grind (arith, nat_tests)

  nothing : (start len : ℕ) → ((j : ℕ) → j < start + len → missing_if_target s a (numbered j) ≡ None) → first_if (in_range start len) ≡ None
  nothing start zero none = refl
  nothing start (suc len) none =
      ap (λ o. option_or o (first_if (in_range (start + 1) len))) (none start (omega arith))
      ∙ nothing (start + 1) len (λ j lt. none j (omega (arith, lt)))

  pub found_missing : (k count : ℕ) → count ≡ node_count s.cluster → k < count → ((j : ℕ) → j < k → missing_if_target s a (numbered j) ≡ None)
      → is_some (missing_if_target s a (numbered k)) ≡ true → missing_if_target s a (numbered k) ≡ missing_at_targets s a
  unfolding missing_at_targets targets nodes_of
  found_missing k count is lt none some =
      sym (filtered (in_range 0 (node_count s.cluster)) ∙ found 0 (node_count s.cluster) k (omega arith) (omega (arith, is, lt)) none some)

  pub nothing_missing : (k count : ℕ) → count ≡ node_count s.cluster → count ≤ k → ((j : ℕ) → j < k → missing_if_target s a (numbered j) ≡ None)
      → None ≡ missing_at_targets s a
  unfolding missing_at_targets targets nodes_of
  nothing_missing k count is le none =
      sym (filtered (in_range 0 (node_count s.cluster)) ∙ nothing 0 (node_count s.cluster) (λ j lt. none j (omega (arith, is, le, lt))))
