-- Lines written for each application of a list, on a walk along it.
use Rattle.std.proofs.Common.{◌≡◌, ◌≢◌, ◌<◌, ℕ, true, List, ◌++◌, length, slice_get, AllPairs, IfSome, Option, Some, None, sym, ap, ◌∙◌}
use Rattle.std.proofs.Common.{subst, arith, append_assoc}
use Rattle.std.specs.List.{flat_map}
use Rattle.std.proofs.lemmas.List.{append-nil}
use Rattle.rh_model.specs.ClusterView.{ClusterView}
use Rattle.rh_model.specs.declared.node.App.{App}
use Rattle.rh_state.specs.Lists.{has_app, next_app}
use Rattle.rh_state.specs.Shape.{IsAppOf}
use Rattle.rh_state.proofs.ListWalks.{left_of, all_left, first_is_next, next_is_next, left_more, once_of, shorter_walk, is_in_list}

-- the lines that are written so far and those of what is left are all lines; what is next is in the list, and is the cluster's
pub record IsWalked (c : ClusterView) (line : App → List ℕ) (apps : List App) (begun text : List ℕ) (next : Option App) : Type 0 where
  pub written : text ++ flat_map line (left_of apps next) ≡ begun ++ flat_map line apps
  pub listed : IfSome next (λ a. has_app apps a ≡ true)
  pub number : IfSome next (IsAppOf c)

abbrev pub Once : List App → Type 0
Once apps = AllPairs (λ (a b : App). a.0 ≢ b.0) apps

module _ (c : ClusterView) (line : App → List ℕ) (apps : List App) (begun : List ℕ) where
  pub walk_begins : (next : Option App) → next ≡ slice_get apps 0 → IfSome next (IsAppOf c) → IsWalked c line apps begun begun next
  walk_begins next first number = record {
    written = ap (λ o. begun ++ flat_map line (left_of apps o)) first ∙ ap (λ xs. begun ++ flat_map line xs) (all_left apps);
    listed = subst (λ o. IfSome o (λ a. has_app apps a ≡ true)) (sym first) (first_is_next apps);
    number = number;
  }

  module _ (text : List ℕ) (next : Option App) (w : IsWalked c line apps begun text next) where
    pub walk_ends : next ≡ None → text ≡ begun ++ flat_map line apps
    walk_ends none = sym (append-nil text) ∙ ap (λ o. text ++ flat_map line (left_of apps o)) (sym none) ∙ w.written

    module _ (a : App) (is : next ≡ Some a) where
      pub is_there : has_app apps a ≡ true
      is_there = is_in_list (λ b. has_app apps b ≡ true) next a w.listed is

      pub walk_goes_on : Once apps → (more : List ℕ) (later : Option App) → more ≡ text ++ line a → later ≡ next_app apps a → IfSome later (IsAppOf c)
          → IsWalked c line apps begun more later
      walk_goes_on once more later written behind number = record {
        written = ap (λ o. more ++ flat_map line (left_of apps o)) behind
            ∙ ap (λ (t : List ℕ). t ++ flat_map line (left_of apps (next_app apps a))) written
            ∙ append_assoc text (line a) (flat_map line (left_of apps (next_app apps a)))
            ∙ ap (λ xs. text ++ flat_map line xs) (sym (left_more apps a (once_of apps once) is_there))
            ∙ ap (λ o. text ++ flat_map line (left_of apps o)) (sym is)
            ∙ w.written;
        listed = subst (λ o. IfSome o (λ b. has_app apps b ≡ true)) (sym behind) (next_is_next apps a);
        number = number;
      }

      pub walk_shortens : Once apps → (later : Option App) → later ≡ next_app apps a → length (left_of apps later) < length (left_of apps next)
      walk_shortens once later behind =
          let less = shorter_walk apps a (once_of apps once) is_there in
          let before : length (left_of apps next) ≡ length (left_of apps (Some a)) = ap (λ o. length (left_of apps o)) is in
          let after : length (left_of apps later) ≡ length (left_of apps (next_app apps a)) = ap (λ o. length (left_of apps o)) behind in
          omega (arith, less, before, after)
