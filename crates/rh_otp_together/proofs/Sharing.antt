-- Where all have one `distributed`, and know the same of who may run what, their dist_acs leave an application to the same node; and which
-- applications are left to one node.
use Rattle.std.proofs.Common.{◌≡◌, ◌⊎◌, Bool, true, false, List, Some, sym, subst, inl, inr, ◌≤◌, [], ◌∷◌, length, refl, ◌∙◌, arith}
use Rattle.std.specs.Prelude.{All}
use Rattle.std.proofs.lemmas.Bool.{cases_Bool}
use Rattle.std.proofs.lemmas.List.Elements.{All-nil, All-cons}
use Rattle.rh_model.specs.declared.node.App.{App}
use Rattle.rh_model.specs.declared.node.Node.{Node}
use Rattle.rh_otp_model.specs.Own.{OwnView}
use Rattle.rh_otp_dist.specs.Choosing.{places_of}
use Rattle.rh_otp_dist.specs.State.{DistView, is_among}
use Rattle.rh_otp_system.specs.State.{SystemView, own_at}
use Rattle.rh_otp_crashes.specs.Failovers.{first_of}
use Rattle.rh_otp_crashes.proofs.Starting.{is_candidate}
use Rattle.rh_otp_starts.specs.Elsewhere.{candidates_at}
use Rattle.rh_otp_together.specs.Together.{LeavesTo, AreLeftToOne}

-- This node is the first of the list that may run it, by this `distributed` and this table of who may run what.
pub leaves_to : (s : SystemView) (m : Node) (a : App) (d : DistView) (own : OwnView) (table : List (List Bool)) (x : Node)
    → own_at s m ≡ own → d.may ≡ table → first_of (candidates_at own a (record d { may = table })) (places_of own a) ≡ Some x
    → LeavesTo m a d s x
leaves_to s m a d own table x same_own same_may first =
    subst (λ (e : DistView). LeavesTo m a e s x) (λ i. record d { may = sym same_may i }) (by_own (own_at s m) (sym same_own))
  where
    e : DistView
    e = record d { may = table }

    by_own : (o : OwnView) → own ≡ o
        → ((is_among m (candidates_at o a e) ≡ true) × (first_of (candidates_at o a e) (places_of o a) ≡ Some x))
        ⊎ ((is_among m (candidates_at o a e) ≡ false) × (is_among x (candidates_at o a e) ≡ true))
    by_own o same =
        subst (λ (y : OwnView). ((is_among m (candidates_at y a e) ≡ true) × (first_of (candidates_at y a e) (places_of y a) ≡ Some x))
        ⊎ ((is_among m (candidates_at y a e) ≡ false) × (is_among x (candidates_at y a e) ≡ true))) same
        (by (cases_Bool (is_among m (candidates_at own a e))))
      where
        by : (is_among m (candidates_at own a e) ≡ true) ⊎ (is_among m (candidates_at own a e) ≡ false)
            → ((is_among m (candidates_at own a e) ≡ true) × (first_of (candidates_at own a e) (places_of own a) ≡ Some x))
            ⊎ ((is_among m (candidates_at own a e) ≡ false) × (is_among x (candidates_at own a e) ≡ true))
        by (inl among) = inl (among, first)
        by (inr out) = inr (out, is_candidate x (candidates_at own a e) (places_of own a) first)

-- ---- left to one node

-- where each is left to it
pub all_left_to_one : (at : App → Node) (x : Node) (apps : List App) → ((a : App) → (at a).0 ≡ x.0) → AreLeftToOne at apps
all_left_to_one at x apps is = each (λ (a : App). All (λ (c : App). (at a).0 ≡ (at c).0) apps) apps
    (λ a. each (λ (c : App). (at a).0 ≡ (at c).0) apps (λ c. is a ∙ sym (is c)))
  where
    each : (P : App → Type 0) (l : List App) → ((a : App) → P a) → All P l
    each P [] so = All-nil P
    each P (a ∷ l) so = All-cons P a l (so a) (each P l so)

-- where there is one at most
pub few_left_to_one : (at : App → Node) (apps : List App) → length apps ≤ 1 → AreLeftToOne at apps
few_left_to_one at [] few = All-nil (λ (a : App). All (λ (c : App). (at a).0 ≡ (at c).0) [])
few_left_to_one at (x ∷ []) few =
    All-cons (λ (a : App). All (λ (c : App). (at a).0 ≡ (at c).0) (x ∷ [])) x []
    (All-cons (λ (c : App). (at x).0 ≡ (at c).0) x [] refl (All-nil (λ (c : App). (at x).0 ≡ (at c).0)))
    (All-nil (λ (a : App). All (λ (c : App). (at a).0 ≡ (at c).0) (x ∷ [])))
few_left_to_one at (x ∷ y ∷ apps) few = absurd (omega (arith, few))
