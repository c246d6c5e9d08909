-- Whether two events are the same can be decided: each is one of several kinds, with numbers and words.
use Rattle.std.proofs.Common.{◌≡◌, ◌⊎◌, ◌==◌, ℕ, Bool, true, false, Option, Some, None, inl, inr, refl, sym, ap, ◌∙◌, arith}
use Rattle.std.proofs.lemmas.Option.{same_Some}
use Rattle.rh_base.proofs.Truths.{both, same_number}
use Rattle.rh_rules.specs.declared.event.Event.{Event}

-- whether two of a type are the same can be decided
record Decided (A : Type 0) : Type 0 where
  decide : (x y : A) → (x ≡ y) ⊎ (x ≡ y → ⊥)

-- ---- so it is of all that is made of numbers
of_unit : Decided (Unit {0})
of_unit = record { decide = λ x y. inl refl }

of_number : Decided ℕ
of_number = record { decide = λ x y. by x y (x == y) refl }
  where
    by : (x y : ℕ) (b : Bool) → (x == y) ≡ b → (x ≡ y) ⊎ (x ≡ y → ⊥)
    by x y true is = inl (same_number x y is)
    by x y false is = inr (λ e. both (x == y) (grind (arith, e)) is)

of_both : {A B : Type 0} → Decided A → Decided B → Decided (A × B)
of_both {A} {B} a b = record { decide = λ x y. by x y (a.decide x.0 y.0) (b.decide x.1 y.1) }
  where
    by : (x y : A × B) → (x.0 ≡ y.0) ⊎ (x.0 ≡ y.0 → ⊥) → (x.1 ≡ y.1) ⊎ (x.1 ≡ y.1 → ⊥) → (x ≡ y) ⊎ (x ≡ y → ⊥)
    by x y (inl s) (inl t) = inl (λ i. (s i, t i))
    by x y (inl s) (inr u) = inr (λ e. u (ap (λ (z : A × B). z.1) e))
    by x y (inr u) t = inr (λ e. u (ap (λ (z : A × B). z.0) e))

of_either : {A B : Type 0} → Decided A → Decided B → Decided (A ⊎ B)
of_either {A} {B} a b = record { decide = by }
  where
    by : (x y : A ⊎ B) → (x ≡ y) ⊎ (x ≡ y → ⊥)
    by (inl x) (inl y) = elim (a.decide x y) [ inl s ↦ inl (λ i. inl (s i)) | inr u ↦ inr (λ e. u (cc e)) ]
    by (inl x) (inr y) = inr (λ e. cc e)
    by (inr x) (inl y) = inr (λ e. cc e)
    by (inr x) (inr y) = elim (b.decide x y) [ inl s ↦ inl (λ i. inr (s i)) | inr u ↦ inr (λ e. u (cc e)) ]

of_copy : {A B : Type 0} (to : A → B) (from : B → A) → ((a : A) → from (to a) ≡ a) → Decided B → Decided A
of_copy {A} to from again b = record { decide = λ x y. by x y (b.decide (to x) (to y)) }
  where
    by : (x y : A) → (to x ≡ to y) ⊎ (to x ≡ to y → ⊥) → (x ≡ y) ⊎ (x ≡ y → ⊥)
    by x y (inl s) = inl (sym (again x) ∙ ap from s ∙ again y)
    by x y (inr u) = inr (λ e. u (ap to e))

-- ---- and of events
event_decided : Decided Event
event_decided = hlevel (of_copy, of_both, of_either, of_unit, of_number)

pub event_same : (d e : Event) → (d ≡ e) ⊎ (d ≡ e → ⊥)
event_same d e = event_decided.decide d e

pub told_same : (o : Option Event) (e : Event) → (o ≡ Some e) ⊎ (o ≡ Some e → ⊥)
told_same None e = inr (λ s. cc s)
told_same (Some d) e = elim (event_same d e) [
  | inl l ↦ inl (ap Some l)
  | inr n ↦ inr (λ s. n (same_Some d e s))
]
