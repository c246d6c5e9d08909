-- Lists of a node's pairs, as lists of applications.
use Rattle.std.proofs.Common.{◌≡◌, ◌==◌, ℕ, suc, Bool, true, false, not, cond, Option, Some, None, List}
use Rattle.std.proofs.Common.{[], ◌∷◌, map, slice_get, All, IfSome, refl, ap, sym, ◌∙◌, inl, inr, arith}
use Rattle.std.specs.Bool.{Decides}
use Rattle.std.specs.List.{Contains, list_any}
use Rattle.std.specs.Option.{option_map}
use Rattle.std.proofs.lemmas.Bool.{eq-eqb, eqb-true}
use Rattle.std.proofs.lemmas.Bool.Decides.{eqb_tells, same_from_decides, Decides-like}
use Rattle.std.proofs.lemmas.List.Elements.{All-tail}
use Rattle.std.proofs.lemmas.List.Folds.{list_any_at}
use Rattle.std.proofs.lemmas.Map.Views.{Contains-from_any}
use Rattle.std.proofs.lemmas.Option.{slice_get-map, same_Some}
use Rattle.rh_model.specs.ClusterView.{ClusterView}
use Rattle.rh_model.specs.declared.node.Node.{Node}
use Rattle.rh_model.specs.declared.node.App.{App}
use Rattle.rh_arena.specs.Words.{Words, owner_of}
use Rattle.rh_arena.specs.Lists.{listed, without, after}
use Rattle.rh_arena.specs.WellFormed.{IsWellFormed}
use Rattle.rh_state.specs.Lists.{has_app, without_app, next_app}
use Rattle.rh_state.specs.Pairs.{pair_number, IsPairOfNode, app_of_pair, apps_in}
use Rattle.rh_state.proofs.Pairs.{same_pair}

has_pair : (c : ClusterView) (n : Node) (a : App) (ps : List ℕ) → All (IsPairOfNode c n) ps
    → has_app (map (app_of_pair c n) ps) a ≡ list_any (λ p. p == pair_number c n a) ps
has_pair c n a [] all = refl
has_pair c n a (p ∷ ps) all = rw (same_pair c n a p (all 0 p (omega arith)), has_pair c n a ps (All-tail (IsPairOfNode c n) p ps all)) refl

-- an application is taken out where its pair is
pub without_pair : (c : ClusterView) (n : Node) (a : App) (ps : List ℕ) → All (IsPairOfNode c n) ps
    → without_app (map (app_of_pair c n) ps) a ≡ map (app_of_pair c n) (without (pair_number c n a) ps)
without_pair c n a [] all = refl
without_pair c n a (p ∷ ps) all =
    rw (same_pair c n a p (all 0 p (omega arith))) (by (p == pair_number c n a) (without_pair c n a ps (All-tail (IsPairOfNode c n) p ps all)))
  where
    by : (b : Bool) → without_app (map (app_of_pair c n) ps) a ≡ map (app_of_pair c n) (without (pair_number c n a) ps)
        → cond (not b) (app_of_pair c n p ∷ without_app (map (app_of_pair c n) ps) a) (without_app (map (app_of_pair c n) ps) a)
        ≡ map (app_of_pair c n) (cond (not b) (p ∷ without (pair_number c n a) ps) (without (pair_number c n a) ps))
    by true h = h
    by false h = ap (λ (l : List App). app_of_pair c n p ∷ l) h

-- behind an application stands that of the pair behind its own
pub next_pair : (c : ClusterView) (n : Node) (a : App) (ps : List ℕ) → All (IsPairOfNode c n) ps
    → next_app (map (app_of_pair c n) ps) a ≡ option_map (app_of_pair c n) (after (pair_number c n a) ps)
next_pair c n a [] all = refl
next_pair c n a (p ∷ ps) all =
    rw (same_pair c n a p (all 0 p (omega arith))) (by (p == pair_number c n a) (next_pair c n a ps (All-tail (IsPairOfNode c n) p ps all)))
  where
    by : (b : Bool) → next_app (map (app_of_pair c n) ps) a ≡ option_map (app_of_pair c n) (after (pair_number c n a) ps)
        → cond b (slice_get (map (app_of_pair c n) ps) 0) (next_app (map (app_of_pair c n) ps) a)
        ≡ option_map (app_of_pair c n) (cond b (slice_get ps 0) (after (pair_number c n a) ps))
    by true h = slice_get-map (app_of_pair c n) ps 0
    by false h = h

-- nothing is taken out of a list that doesn't have it
pub without_absent : (p : ℕ) (ps : List ℕ) → (Contains ps p → ⊥) → without p ps ≡ ps
without_absent p [] h = refl
without_absent p (q ∷ ps) h = elim (eqb_tells q p) [
  | inl e ↦ absurd (h (0, omega arith, e.1))
  | inr e ↦ rw e.0 (ap (λ (l : List ℕ). q ∷ l) (without_absent p ps (λ m. h (suc m.0, omega (arith, m.1), m.2))))
]

pub after_absent : (p : ℕ) (ps : List ℕ) → (Contains ps p → ⊥) → after p ps ≡ None
after_absent p [] h = refl
after_absent p (q ∷ ps) h = elim (eqb_tells q p) [
  | inl e ↦ absurd (h (0, omega arith, e.1))
  | inr e ↦ rw e.0 (after_absent p ps (λ m. h (suc m.0, omega (arith, m.1), m.2)))
]

pub first_is : (P : ℕ → Type 0) (ps : List ℕ) → All P ps → IfSome (slice_get ps 0) P
first_is P [] all = tt
first_is P (q ∷ ps) all = all 0 q (omega arith)

-- what holds of each holds of the one behind
pub IfSome-after : (P : ℕ → Type 0) (p : ℕ) (ps : List ℕ) → All P ps → IfSome (after p ps) P
IfSome-after P p [] all = tt
IfSome-after P p (q ∷ ps) all = by (q == p) (first_is P ps (All-tail P q ps all)) (IfSome-after P p ps (All-tail P q ps all))
  where
    by : (b : Bool) → IfSome (slice_get ps 0) P → IfSome (after p ps) P → IfSome (cond b (slice_get ps 0) (after p ps)) P
    by true h k = h
    by false h k = k

-- whether the word of an owner is that of a list
abbrev pub is_in : Option ℕ → ℕ → Bool
is_in None l = false
is_in (Some k) l = k == l

Decides-is_in : (o : Option ℕ) (l : ℕ) → Decides (is_in o l) (o ≡ Some l)
Decides-is_in None l = (λ e. absurd (cc), λ e. absurd (cc))
Decides-is_in (Some k) l = (λ e. ap Some (eqb-true k l e), λ e. eq-eqb k l (same_Some k l e))

Decides-any : (p : ℕ) (ps : List ℕ) → Decides (list_any (λ q. q == p) ps) (Contains ps p)
Decides-any p ps = (
  λ e. Contains-from_any {eq = λ a b. b == a} (λ x y same. sym (eqb-true y x same)) p ps e,
  λ h. list_any_at (λ q. q == p) ps h.0 p h.1 (eq-eqb _ _ h.2),
)

-- an application is in the list that its pair's word of the owner says
pub has_by_owner : (c : ClusterView) (w : Words) (n : Node) (a : App) (l : ℕ) → IsWellFormed w → All (IsPairOfNode c n) (listed w l)
    → has_app (apps_in c w n l) a ≡ is_in (owner_of w (pair_number c n a)) l
has_by_owner c w n a l formed all =
    let p = pair_number c n a in
    let word = owner_of w p in
    has_pair c n a (listed w l) all
    ∙ same_from_decides _ _ (Decides-any p (listed w l)) (Decides-like (is_in word l) (formed.owners p l).0 (formed.owners p l).1 (Decides-is_in word l))
