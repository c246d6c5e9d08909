-- A `distributed` is the same as itself.
use Rattle.std.proofs.Common.{◌≡◌, ◌&&◌, ◌||◌, ◌==◌, ℕ, Bool, true, List, [], ◌∷◌, ◌++◌, refl, sym, ap, ◌∙◌, append_assoc, arith}
use Rattle.std.specs.List.{list_any, list_all}
use Rattle.std.proofs.lemmas.List.Folds.{list_any-append}
use Rattle.std.proofs.lemmas.Bool.Decides.{nat_tests}
use Rattle.rh_model.specs.declared.node.Node.{Node}
use Rattle.rh_cluster.specs.declared.shares.Share.{Share}
use Rattle.rh_cluster.specs.Agreement.{same_group, same_groups, same_share, same_shares}
use Rattle.rh_base.proofs.Elements.{or_true}

-- ---- each element is found in its own list

module _ {A : Type 0} (p : A → A → Bool) (itself : (x : A) → p x x ≡ true) where
  found_behind : (before xs : List A) → list_all (λ x. list_any (p x) (before ++ xs)) xs ≡ true
  found_behind before [] = refl
  found_behind before (x ∷ xs) =
      let here : list_any (p x) (before ++ x ∷ xs) ≡ true =
      list_any-append (p x) before (x ∷ xs)
      ∙ or_true (list_any (p x) before) (list_any (p x) (x ∷ xs)) (ap (λ b. b || list_any (p x) xs) (itself x)) in
      let rest : list_all (λ y. list_any (p y) (before ++ x ∷ xs)) xs ≡ true =
      ap (λ all. list_all (λ y. list_any (p y) all) xs) (sym (append_assoc before (x ∷ []) xs)) ∙ found_behind (before ++ x ∷ []) xs in
      λ i. here i && rest i

  all_found : (xs : List A) → list_all (λ x. list_any (p x) xs) xs ≡ true
  all_found xs = found_behind [] xs

-- ---- numbers, groups, entries

same_number : (n : ℕ) → (n == n) ≡ true
same_number n = grind (arith, nat_tests)

group_itself : (g : List Node) → same_group g g ≡ true
unfolding same_group
group_itself g = let all = all_found (λ (n m : Node). n.0 == m.0) (λ n. same_number n.0) g in λ i. all i && all i

groups_itself : (gs : List (List Node)) → same_groups gs gs ≡ true
groups_itself [] = refl
groups_itself (g ∷ gs) = λ i. group_itself g i && groups_itself gs i

share_itself : (s : Share) → same_share s s ≡ true
unfolding same_share
share_itself s = λ i. same_number s.app.0 i && same_number s.spread.timeout i && groups_itself s.spread.groups i

pub same_as_itself : (xs : List Share) → same_shares xs xs ≡ true
unfolding same_shares
same_as_itself xs = let all = all_found same_share share_itself xs in λ i. all i && all i
