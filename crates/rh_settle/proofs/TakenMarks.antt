-- The marks without the first, and a walk that takes one mark after the other.
use Rattle.std.proofs.Common.{◌≡◌, ◌&&◌, ℕ, Bool, true, false, not, refl, sym, ap, ◌∙◌, subst}
use Rattle.rh_model.specs.declared.node.App.{App}
use Rattle.rh_model.specs.ClusterView.{app_numbered}
use Rattle.rh_state.specs.Numbers.{same_app}
use Rattle.rh_base.proofs.Lists.{cases}
use Rattle.rh_model.specs.Marks.{AppMarks, is_marked}
use Rattle.rh_base.proofs.Truths.{same_number}

-- what holds of those that were taken, and of the one that is taken now, holds of all that are taken then
pub one_taken : (P : App → Type 0) (old new : AppMarks) (x : App) → ((b : App) → is_marked new b ≡ (is_marked old b && not (same_app b x)))
    → ((b : App) → is_marked old b ≡ false → P b) → P x → (a : App) → is_marked new a ≡ false → P a
one_taken P old new x taken before here a off = cases (same_app a x)
    (λ y. subst (λ (j : ℕ). P (app_numbered j)) (sym (same_number a.0 x.0 y)) here)
    (λ f. before a (and_true (is_marked old a) ∙ ap (λ b. is_marked old a && not b) (sym f) ∙ sym (taken a) ∙ off))
  where
    and_true : (p : Bool) → p ≡ (p && true)
    and_true true = refl
    and_true false = refl
