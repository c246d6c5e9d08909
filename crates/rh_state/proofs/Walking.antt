-- Walks along the lists of a node, by the numbers of pairs.
use Rattle.std.proofs.Common.{◌≡◌, ◌≢◌, ℕ, Option, Some, None, IsSome, IfSome, List, map, slice_get, All, refl, sym, ap, ◌∙◌, subst, arith}
use Rattle.std.specs.Option.{option_map}
use Rattle.std.proofs.lemmas.Option.{slice_get-map}
use Rattle.rh_model.specs.ClusterView.{ClusterView}
use Rattle.rh_model.specs.declared.node.Node.{Node}
use Rattle.rh_arena.specs.Words.{Words, owner_of}
use Rattle.rh_arena.specs.Lists.{listed, after}
use Rattle.rh_state.specs.declared.status.Place.TheVariants.{Off}
use Rattle.rh_state.specs.Formed.{AreOfPairs}
use Rattle.rh_state.specs.Pairs.{pair_number, IsPairOfNode, app_of_pair}
use Rattle.rh_state.specs.Shape.{IsNodeOf}
use Rattle.rh_state.proofs.Links.{AreOfPairs-list, list_of_pair}
use Rattle.rh_state.proofs.PairLists.{IfSome-after, first_is}
use Rattle.rh_state.proofs.Pairs.{IsAppOf-pair}
use Rattle.rh_state.proofs.Places.{place_among, next_among, next_owned, IsSome-owner}

-- the first pair of a list is that of its first application
pub first_pair : (c : ClusterView) (n : Node) (ps : List ℕ) (o : Option ℕ) → o ≡ slice_get ps 0 → All (IsPairOfNode c n) ps
    → (option_map (app_of_pair c n) o ≡ slice_get (map (app_of_pair c n) ps) 0) × IfSome o (IsPairOfNode c n)
first_pair c n ps o first all = (
  ap (option_map (app_of_pair c n)) first ∙ sym (slice_get-map (app_of_pair c n) ps 0),
  subst (λ (x : Option ℕ). IfSome x (IsPairOfNode c n)) (sym first) (first_is (IsPairOfNode c n) ps all),
)

-- a pair of a node has the number of its application's
number_again : (c : ClusterView) (n : Node) (p : ℕ) → IsPairOfNode c n p → pair_number c n (app_of_pair c n p) ≡ p
number_again c n p h = omega (arith, h.0)

-- what stands behind a pair in its list is that of the application behind its own
pub pair_behind : (c : ClusterView) (w : Words) (n : Node) (p : ℕ) (o : Option ℕ) → AreOfPairs c w → IsNodeOf c n → IsPairOfNode c n p
    → place_among c w n (app_of_pair c n p) ≢ Off → ((l : ℕ) → owner_of w p ≡ Some l → o ≡ after p (listed w l))
    → (option_map (app_of_pair c n) o ≡ next_among c w n (app_of_pair c n p)) × IfSome o (IsPairOfNode c n)
pair_behind c w n p o are node pair on behind =
    let a = app_of_pair c n p in
    let number = number_again c n p pair in
    by (owner_of w p) refl (subst (λ (k : ℕ). IsSome (owner_of w k)) number (IsSome-owner c w n a are node on))
  where
    by : (l : Option ℕ) → owner_of w p ≡ l → IsSome l → (option_map (app_of_pair c n) o ≡ next_among c w n (app_of_pair c n p)) × IfSome o (IsPairOfNode c n)
    by None owner some = absurd (cc)
    by (Some l) owner some =
        let a = app_of_pair c n p in
        let number = number_again c n p pair in
        let app = IsAppOf-pair c n p pair in
        let its : owner_of w (pair_number c n a) ≡ Some l = ap (λ (k : ℕ). owner_of w k) number ∙ owner in
        let same : o ≡ after p (listed w l) = behind l owner in (
          ap (option_map (app_of_pair c n)) (same ∙ ap (λ (k : ℕ). after k (listed w l)) (sym number)) ∙ sym (next_owned c w n a l are node app its),
          subst (λ (x : Option ℕ). IfSome x (IsPairOfNode c n)) (sym same)
              (IfSome-after (IsPairOfNode c n) p (listed w l) (AreOfPairs-list c w n l are node (list_of_pair c w n a l are app its))),
        )
