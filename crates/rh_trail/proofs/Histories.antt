-- One more event in the place of those that could be made again.
use Rattle.std.proofs.Common.{◌≡◌, ℕ, zero, suc, ◌+◌, ◌≤◌, List, [], ◌∷◌, ◌++◌, length, take, sym, ap, subst, ◌∙◌, inl, inr, arith}
use Rattle.std.proofs.lemmas.List.{length-take-le, take_all, take-append-le, take-take, length_push}
use Rattle.std.proofs.lemmas.List.Sums.{fold_push}
use Rattle.std.proofs.lemmas.Bool.{cases_lt}
use Rattle.rh_model.specs.ClusterView.{ClusterView, IsWithin}
use Rattle.rh_rules.specs.declared.event.Event.{Event}
use Rattle.rh_rules.specs.declared.pick.Pick.{Pick}
use Rattle.rh_state.specs.First.{first}
use Rattle.rh_state.specs.StateView.{StateView}
use Rattle.rh_trace.specs.Validity.{IsValid}
use Rattle.rh_step.proofs.FirstStates.{first_valid}
use Rattle.rh_step.specs.Runs.{step, after}

module _ (c : ClusterView) (pick : Pick) (trail : List Event) (cursor : ℕ) (e : Event) (within : cursor ≤ length trail) where
  kept_trail : length (take cursor trail) ≡ cursor
  kept_trail = length-take-le cursor trail within

  -- the states up to the cursor stay
  pub state_earlier : (k : ℕ) → k ≤ cursor → after c pick (take k (take cursor trail ++ e ∷ [])) ≡ after c pick (take k trail)
  state_earlier k below = ap (after c pick) (take-append-le k (take cursor trail) (e ∷ []) (omega (arith, kept_trail)) ∙ take-take k cursor trail below)

  -- and the last is one step on
  pub state_last : after c pick (take (cursor + 1) (take cursor trail ++ e ∷ [])) ≡ step pick (after c pick (take cursor trail)) e
  state_last =
      ap (after c pick) (take_all (cursor + 1) (take cursor trail ++ e ∷ []) (omega (arith, length_push (take cursor trail) e, kept_trail)))
      ∙ fold_push (step pick) (first c) (take cursor trail) e

  -- what holds of the earlier states and of the new one holds of all
  pub each_state : (P : StateView → Type 0) → ((k : ℕ) → k ≤ length trail → P (after c pick (take k trail)))
      → P (step pick (after c pick (take cursor trail)) e)
      → (k : ℕ) → k ≤ length (take cursor trail ++ e ∷ []) → P (after c pick (take k (take cursor trail ++ e ∷ [])))
  each_state P each new k bound = elim (cases_lt cursor k) [
    | inl above ↦
        let at : cursor + 1 ≡ k = omega (arith, bound, above, length_push (take cursor trail) e, kept_trail) in
        subst (λ j. P (after c pick (take j (take cursor trail ++ e ∷ [])))) at (subst P (sym state_last) new)
    | inr below ↦ subst P (sym (state_earlier k below)) (each k (omega (arith, below, within)))
  ]

-- the first state alone
pub opened_valid : (c : ClusterView) (pick : Pick) → IsWithin c → (k : ℕ) → IsValid (after c pick (take k []))
opened_valid c pick within zero = first_valid c within
opened_valid c pick within (suc k) = first_valid c within
