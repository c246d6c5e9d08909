-- What a move that touches no local application leaves of a search for local moves.
use Rattle.std.proofs.Common.{◌≡◌, ◌<◌, ◌≤◌, ℕ, suc, Bool, true, false, not, ◌&&◌, List, [], ◌∷◌, ◌++◌, All, refl, sym, ap, ◌∙◌, arith, nat_lt}
use Rattle.std.specs.List.{list_any}
use Rattle.std.proofs.Math.Bool.{and-false}
use Rattle.std.proofs.lemmas.List.Folds.{list_any_at, list_any_none}
use Rattle.rh_model.specs.declared.node.App.{App}
use Rattle.rh_model.specs.ClusterView.{ClusterView, app_count, app_numbered}
use Rattle.rh_model.specs.Marks.{AppMarks, is_marked, touches}
use Rattle.rh_state.specs.Numbers.{apps_of, same_app}
use Rattle.rh_state.specs.Tables.{row}
use Rattle.rh_state.specs.Lists.{without_app}
use Rattle.rh_state.specs.Shape.{IsAppOf}
use Rattle.rh_base.specs.Lists.{or_else, first_given}
use Rattle.rh_base.proofs.Lists.{cases}
use Rattle.rh_settle.specs.Boards.{touches_local, AreLocals}
use Rattle.rh_rules.specs.Course.{is_local}
use Rattle.rh_base.proofs.Truths.{both, same_number}
use Rattle.rh_trace.proofs.Entries.{taken, put, is_false, is_below, is_above}
use Rattle.rh_trace.proofs.Every.{filter_no, filter_yes}
use Rattle.rh_trace.proofs.Places.{at_set}
use Rattle.rh_trace.proofs.Numbered.{length_apps, app_there}

-- what is given is given by the others, where this one gives nothing
module _ {B : Type 0} (f : App → List B) (x : App) (nothing : f x ≡ []) where
  given_without : (apps : List App) → first_given f (without_app apps x) ≡ first_given f apps
  given_without [] = refl
  given_without (a ∷ apps) =
      let rest = given_without apps in
      cases (same_app x a)
      (λ t. ap (first_given f) (filter_no (λ b. not (same_app x b)) a apps (ap not t)) ∙ rest
      ∙ ap (λ ys. or_else ys (first_given f apps)) (sym nothing ∙ ap (λ (i : ℕ). f (app_numbered i)) (same_number x.0 a.0 t)))
      (λ d. ap (first_given f) (filter_yes (λ b. not (same_app x b)) a apps (ap not d)) ∙ ap (or_else (f a)) rest)

  given_behind : (apps : List App) → first_given f (apps ++ x ∷ []) ≡ first_given f apps
  given_behind [] = ap (λ ys. or_else ys []) nothing
  given_behind (a ∷ apps) = ap (or_else (f a)) (given_behind apps)

  pub given_taken : (table : List (List App)) (n k : ℕ) → first_given f (row (taken table n x) k) ≡ first_given f (row table k)
  given_taken table n k = at_set table n k (without_app (row table n) x) []
      (λ e. ap (first_given f) e)
      (λ e v. ap (first_given f) v ∙ given_without (row table n) ∙ ap (λ i. first_given f (row table i)) (sym e))

  pub given_put : (table : List (List App)) (n k : ℕ) → first_given f (row (put table n x) k) ≡ first_given f (row table k)
  given_put table n k = at_set table n k (row table n ++ x ∷ []) []
      (λ e. ap (first_given f) e)
      (λ e v. ap (first_given f) v ∙ given_behind (row table n) ∙ ap (λ i. first_given f (row table i)) (sym e))

pub given_alike : {B : Type 0} (f g : App → List B) (P : App → Type 0) → ((a : App) → P a → f a ≡ g a) → (apps : List App) → All P apps
    → first_given f apps ≡ first_given g apps
given_alike f g P alike [] all = refl
given_alike f g P alike (a ∷ apps) all =
    let rest = given_alike f g P alike apps (λ k d l. all (suc k) d (omega arith)) in
    λ i. or_else (alike a (all 0 a (omega arith)) i) (rest i)

-- each local application of the cluster is untouched
pub none_touched : (c : ClusterView) (x a : App) → touches_local c x ≡ false → IsAppOf c a → is_local c a ≡ true → touches c x a ≡ false
unfolding touches_local
none_touched c x a none of here = is_false (touches c x a)
    (λ t. let l = length_apps c in
    both (list_any p (apps_of c))
    (list_any_at p (apps_of c) a.0 a (omega (arith, l, of)) (ap p (app_there c a.0 a of) ∙ λ i. here i && t i)) none)
  where
    p : App → Bool
    p b = is_local c b && touches c x b

-- and where each local one is, none is touched
none_met : (c : ClusterView) (x : App) → ((a : App) → IsAppOf c a → (touches c x a && is_local c a) ≡ false) → touches_local c x ≡ false
unfolding touches_local
none_met c x none = list_any_none p (apps_of c)
    (λ k d lt. let inside : k < app_count c = (let l = length_apps c in omega (arith, l, lt)) in
    ap p (app_there c k d inside) ∙ turned (is_local c (app_numbered k)) (touches c x (app_numbered k)) ∙ none (app_numbered k) inside)
  where
    p : App → Bool
    p b = is_local c b && touches c x b

    turned : (q r : Bool) → (q && r) ≡ (r && q)
    turned true true = refl
    turned true false = refl
    turned false true = refl
    turned false false = refl

-- the marks of the local applications that a move of this one touches
module _ (c : ClusterView) (x : App) (touched local both : AppMarks)
    (marks : (a : App) → is_marked both a ≡ (is_marked touched a && is_marked local a))
    (kept : (a : App) → IsAppOf c a → is_marked touched a ≡ touches c x a)
    (others : (a : App) → app_count c ≤ a.0 → is_marked touched a ≡ false) (locals : AreLocals c local) where
  met : (a : App) → IsAppOf c a → is_marked both a ≡ (touches c x a && is_local c a)
  met a of = marks a ∙ (λ i. kept a of i && locals a of i)

  -- where no local one is touched, none is marked
  unmet : touches_local c x ≡ false → (a : App) → is_marked both a ≡ false
  unmet f a = cases (nat_lt a.0 (app_count c))
      (λ t. let of : IsAppOf c a = is_below a.0 (app_count c) t in met a of ∙ cases (is_local c a)
      (λ y. ap (λ p. p && is_local c a) (none_touched c x a f of y))
      (λ n. ap (λ p. touches c x a && p) n ∙ and-false (touches c x a)))
      (λ g. marks a ∙ ap (λ p. p && is_marked local a) (others a (is_above a.0 (app_count c) g)))

  -- whether there is one
  pub meets : (empty : Bool) → (empty ≡ true → (a : App) → is_marked both a ≡ false) → (((a : App) → is_marked both a ≡ false) → empty ≡ true)
      → not empty ≡ touches_local c x
  meets true none is = sym (none_met c x (λ a of. sym (met a of) ∙ none refl a))
  meets false none is = sym (is_true (touches_local c x) (λ f. is (unmet f)))
    where
      is_true : (p : Bool) → (p ≡ false → false ≡ true) → p ≡ true
      is_true true h = refl
      is_true false h = h refl

-- the marks of the moving applications that a move of this one touches
module _ (c : ClusterView) (x : App) (moving touched rest : AppMarks)
    (marks : (a : App) → is_marked rest a ≡ (is_marked moving a && is_marked touched a))
    (kept : (a : App) → IsAppOf c a → is_marked touched a ≡ touches c x a) where
  left : (a : App) → IsAppOf c a → is_marked rest a ≡ (is_marked moving a && touches c x a)
  left a of = marks a ∙ ap (λ p. is_marked moving a && p) (kept a of)

  pub left_touched : (a : App) → IsAppOf c a → is_marked rest a ≡ true → touches c x a ≡ true
  left_touched a of is = second (is_marked moving a) (touches c x a) (sym (left a of) ∙ is)
    where
      second : (p q : Bool) → p && q ≡ true → q ≡ true
      second true q h = h
      second false q h = cc

  pub none_left : {P : Type 0} (a : App) → IsAppOf c a → is_marked rest a ≡ false → is_marked moving a ≡ true → touches c x a ≡ true → P
  none_left a of off m t = neither (is_marked moving a) (touches c x a) m t (sym (left a of) ∙ off)
    where
      neither : {P : Type 0} (p q : Bool) → p ≡ true → q ≡ true → p && q ≡ false → P
      neither true true m t off = cc
      neither true false m t off = cc
      neither false q m t off = cc
