-- Lists in which each application stands at most once.
use Rattle.std.proofs.Common.{◌≡◌, ◌≢◌, ◌||◌, zero, suc, Bool, true, false, List, [], ◌∷◌, ◌++◌, All, AllPairs, refl, sym, inl, inr, arith}
use Rattle.std.proofs.lemmas.Bool.Decides.{eqb_tells}
use Rattle.std.proofs.lemmas.List.Quantifiers.{all_pairs_push}
use Rattle.rh_model.specs.declared.node.App.{App}
use Rattle.rh_state.specs.Lists.{has_app}
use Rattle.rh_state.specs.Numbers.{same_app}

abbrev pub AreOnce : List App → Type 0
AreOnce apps = AllPairs (λ (a b : App). a.0 ≢ b.0) apps

absent-cons : (a b : App) (apps : List App) → has_app (b ∷ apps) a ≡ false → (same_app a b ≡ false) × (has_app apps a ≡ false)
absent-cons a b apps = by (same_app a b)
  where
    by : (t : Bool) → (t || has_app apps a) ≡ false → (t ≡ false) × (has_app apps a ≡ false)
    by true h = absurd (cc)
    by false h = (refl, h)

-- an application that a list doesn't have differs from each of its own
pub differs_from_absent : (a : App) (apps : List App) → has_app apps a ≡ false → All (λ (b : App). b.0 ≢ a.0) apps
differs_from_absent a [] h k d l = absurd (omega arith)
differs_from_absent a (b ∷ apps) h zero d l = elim (eqb_tells a.0 b.0) [
  | inl e ↦ absurd (let f = (absent-cons a b apps h).0 in cc (e.0, f))
  | inr e ↦ (λ f. e.1 (sym f))
]
differs_from_absent a (b ∷ apps) h (suc k) d l = differs_from_absent a apps (absent-cons a b apps h).1 k d (omega arith)

-- one more that the list doesn't have
pub AreOnce-push : (a : App) (apps : List App) → AreOnce apps → has_app apps a ≡ false → AreOnce (apps ++ a ∷ [])
AreOnce-push a apps once absent = all_pairs_push (λ (b c : App). b.0 ≢ c.0) apps a once (differs_from_absent a apps absent)
