-- The records of a trail stay small, through a step, an undo and a redo.
use Rattle.std.proofs.Common.{◌≡◌, ℕ, ◌<◌, ◌≤◌, List, [], ◌∷◌, ◌++◌, length, take, get_or, set, slice_get, Some, sym, ap, ◌∙◌, inl, inr, arith}
use Rattle.std.proofs.lemmas.Bool.{cases_eq, cases_lt}
use Rattle.std.proofs.lemmas.Grind.{get_or-set_at}
use Rattle.std.proofs.lemmas.List.{length-take-le, length_push, take-append-le, take-take, take_all, get_or-set_other, get_or_append_left, get_or-take, get_or_push}
use Rattle.std.proofs.lemmas.Option.{slice_get_within, slice_get-get_or, get_or_from_slice_get}
use Rattle.rh_model.specs.ClusterView.{ClusterView}
use Rattle.rh_rules.specs.declared.event.Event.{Event}
use Rattle.rh_rules.specs.declared.pick.Pick.{Pick}
use Rattle.rh_state.specs.declared.edit.Edit.{Edit}
use Rattle.rh_step.specs.Counts.{most_edits}
use Rattle.rh_rules.specs.Steps.{next}
use Rattle.rh_step.specs.Runs.{after}

-- so many edits at most, for an event that comes behind these
abbrev pub limit : ClusterView → Pick → List Event → Event → ℕ
limit c pick before e = most_edits (after c pick before) e (next (after c pick before) e pick)

-- each record of a trail is small
abbrev pub AreSmall : ClusterView → Pick → List Event → List (List Edit) → Type 0
AreSmall c pick trail rs = (k : ℕ) (e : Event) → slice_get trail k ≡ Some e → length (get_or rs k []) ≤ limit c pick (take k trail) e

module _ (c : ClusterView) (pick : Pick) where
  pub none_small : AreSmall c pick [] []
  none_small k e at = absurd (cc at)

  -- a record is on its other side
  pub small_turned : (trail : List Event) (rs : List (List Edit)) (i : ℕ) (r turned : List Edit) → i < length rs → r ≡ get_or rs i []
      → length turned ≡ length r → AreSmall c pick trail rs → AreSmall c pick trail (set rs i turned)
  small_turned trail rs i r turned inside is size all k e at =
      let few = all k e at in
      let same : length (get_or (set rs i turned) k []) ≡ length (get_or rs k []) = elim (cases_eq k i) [
        | inl here ↦ ap (λ (es : List Edit). length es) (get_or-set_at rs i k turned [] here inside) ∙ size
            ∙ ap (λ (es : List Edit). length es) (is ∙ ap (λ j. get_or rs j []) (sym here))
        | inr other ↦ ap (λ (es : List Edit). length es) (get_or-set_other rs i k turned [] other)
      ] in omega (arith, few, same)

  -- what could be made again is dropped
  pub small_cut : (trail : List Event) (rs : List (List Edit)) (n : ℕ) → n ≤ length trail → AreSmall c pick trail rs
      → AreSmall c pick (take n trail) (take n rs)
  small_cut trail rs n within all k e at =
      let kept = length-take-le n trail within in
      let below : k < n = omega (arith, slice_get_within (take n trail) k e at, kept) in
      let was : slice_get trail k ≡ Some e = slice_get-get_or trail k e (omega (arith, below, within))
      ∙ ap Some (sym (get_or-take n trail k e below) ∙ get_or_from_slice_get (take n trail) k e e at) in
      let few = all k e was in
      let edits = ap (λ (es : List Edit). length es) (get_or-take n rs k [] below) in
      let most = ap (λ (es : List Event). limit c pick es e) (take-take k n trail (omega (arith, below))) in
      omega (arith, few, edits, most)

  -- and one more is added
  pub small_added : (trail : List Event) (rs : List (List Edit)) (n : ℕ) (d : Event) (r : List Edit) → length trail ≡ n → length rs ≡ n
      → length r ≤ limit c pick trail d → AreSmall c pick trail rs → AreSmall c pick (trail ++ d ∷ []) (rs ++ r ∷ [])
  small_added trail rs n d r events records last all k e at =
      let inside = slice_get_within (trail ++ d ∷ []) k e at in
      let pushed = length_push trail d in
      let found = get_or_from_slice_get (trail ++ d ∷ []) k e e at in
      elim (cases_lt k n) [
        | inl below ↦ (
            let was : slice_get trail k ≡ Some e = slice_get-get_or trail k e (omega (arith, below, events))
            ∙ ap Some (sym (get_or_append_left trail (d ∷ []) e k (omega (arith, below, events))) ∙ found) in
            let few = all k e was in
            let edits = ap (λ (es : List Edit). length es) (get_or_append_left rs (r ∷ []) [] k (omega (arith, below, records))) in
            let most = ap (λ (es : List Event). limit c pick es e) (take-append-le k trail (d ∷ []) (omega (arith, below, events))) in
            omega (arith, few, edits, most))
        | inr above ↦ (
            let here : length trail ≡ k = omega (arith, above, inside, pushed, events) in
            let event = sym (get_or_push trail d e k here) ∙ found in
            let edits = ap (λ (es : List Edit). length es) (get_or_push rs r [] k (omega (arith, here, events, records))) in
            let all_taken = take-append-le k trail (d ∷ []) (omega (arith, here)) ∙ take_whole k here in
            let same : limit c pick (take k (trail ++ d ∷ [])) e ≡ limit c pick trail d = λ i. limit c pick (all_taken i) (sym event i) in
            omega (arith, last, edits, same))
      ]
    where
      take_whole : (k : ℕ) → length trail ≡ k → take k trail ≡ trail
      take_whole k is = take_all k trail (omega (arith, is))
