-- A walk over a slot, up to the first timer that is due at one time.
use Rattle.std.proofs.Common.{◌≡◌, ◌≢◌, ◌<◌, ◌%◌, ◌+◌, ◌-◌, ℕ, zero, suc, Option, Some, None, List, length, All, IsSome, slice_get, get_or, unwrap_or}
use Rattle.std.proofs.Common.{refl, sym, ap, subst, ◌∙◌, inl, inr, arith}
use Rattle.std.proofs.lemmas.Bool.{eq-eqb}
use Rattle.std.proofs.lemmas.Bool.Decides.{eqb_tells}
use Rattle.std.proofs.lemmas.List.{get_or_default}
use Rattle.std.proofs.lemmas.List.Elements.{All-head, All-tail, Contains-get_or}
use Rattle.rh_arena.specs.Words.{next_of, head_of, count_of}
use Rattle.rh_arena.specs.Lists.{walk, listed}
use Rattle.rh_wheel.specs.Firing.{due_at}
use Rattle.rh_wheel.specs.Stored.{Stored, due_of, in_slot}
use Rattle.rh_wheel.specs.Formed.{IsFormed}
use Rattle.rh_wheel.proofs.Slots.{timed, some_from, within_from_due, due_from_slot}

-- what is left of the walk: from a timer on, so many timers
abbrev left : Stored → Option ℕ → ℕ → List (ℕ × ℕ)
left w start k = timed (λ t. unwrap_or (due_of w t) 0) (walk w.links start k)

pub record IsLeft (w : Stored) (due : ℕ) (start : Option ℕ) (k : ℕ) : Type 0 where
  pub first : slice_get (due_at due (in_slot w (due % 64))) 0 ≡ slice_get (due_at due (left w start k)) 0
  pub armed : All (λ t. IsSome (due_of w t)) (walk w.links start k)

slot_left : (w : Stored) (due : ℕ) → IsFormed w → IsLeft w due (head_of w.links (due % 64)) (count_of w.links (due % 64))
unfolding listed
slot_left w due h = record {
  first = refl;
  armed = λ i d l. at (get_or (listed w.links (due % 64)) i d)
      (due_from_slot w h (due % 64) (get_or (listed w.links (due % 64)) i d) (Contains-get_or (listed w.links (due % 64)) i d l));
}
  where
    at : (t : ℕ) → ((d : ℕ) × (due_of w t ≡ Some d) × (d % 64 ≡ due % 64)) → IsSome (due_of w t)
    at t (d, e, m) = rw e refl

pub all_left : (w : Stored) (due : ℕ) (start : Option ℕ) (k : ℕ) → IsFormed w → start ≡ head_of w.links (due % 64) → k ≡ count_of w.links (due % 64)
    → IsLeft w due start k
all_left w due start k h e f = rw (e, f) (slot_left w due h)

pub none_left : (w : Stored) (due : ℕ) (start : Option ℕ) (k : ℕ) → IsLeft w due start k → start ≡ None
    → slice_get (due_at due (in_slot w (due % 64))) 0 ≡ None
none_left w due None zero h e = h.first
none_left w due None (suc k) h e = h.first
none_left w due (Some t) k h e = absurd (cc e)

pub end_left : (w : Stored) (due : ℕ) (start : Option ℕ) (k : ℕ) → IsLeft w due start k → k ≡ 0 → slice_get (due_at due (in_slot w (due % 64))) 0 ≡ None
end_left w due start zero h e = h.first
end_left w due start (suc k) h e = absurd (omega (arith, e))

pub within_left : (w : Stored) (due t k : ℕ) → IsLeft w due (Some t) (suc k) → t < length w.dues
within_left w due t k h =
    let armed = some_from (due_of w t) (All-head (λ t. IsSome (due_of w t)) t (walk w.links (next_of w.links t) k) h.armed) in
    within_from_due w.dues t armed.0 armed.1

pub found_left : (w : Stored) (due t k : ℕ) → IsLeft w due (Some t) (suc k) → due_of w t ≡ Some due
    → slice_get (due_at due (in_slot w (due % 64))) 0 ≡ Some (due, t)
found_left w due t k h e = h.first ∙ simp (e, eq-eqb due due refl) refl

pub fewer_left : (w : Stored) (due t k : ℕ) → IsLeft w due (Some t) (suc k) → due_of w t ≢ Some due → IsLeft w due (next_of w.links t) k
fewer_left w due t k h differs = record {
  first = h.first ∙ passed (some_from (due_of w t) (All-head (λ t. IsSome (due_of w t)) t (walk w.links (next_of w.links t) k) h.armed));
  armed = All-tail (λ t. IsSome (due_of w t)) t (walk w.links (next_of w.links t) k) h.armed;
}
  where
    passed : ((d : ℕ) × (due_of w t ≡ Some d)) → slice_get (due_at due (left w (Some t) (suc k))) 0 ≡ slice_get (due_at due (left w (next_of w.links t) k)) 0
    passed (d, e) = elim (eqb_tells d due) [
      | inl a ↦ absurd (differs (e ∙ ap Some a.1))
      | inr a ↦ simp (e, a.0) refl
    ]

-- with the numbers of a loop: n turns, of which i are made
pub left_at_turn : (w : Stored) (due : ℕ) (start : Option ℕ) (t n i : ℕ) → IsLeft w due start (n - i) → start ≡ Some t → i < n
    → IsLeft w due (Some t) (suc (n - (i + 1)))
left_at_turn w due start t n i h e l =
    let k : n - i ≡ suc (n - (i + 1)) = omega arith in
    subst (λ k. IsLeft w due (Some t) k) k (subst (λ o. IsLeft w due o (n - i)) e h)

-- what a read of the due times gives
pub read_due : (dues : List (Option ℕ)) (t : ℕ) (x : Option ℕ) → t < length dues → x ≡ get_or dues t x → get_or dues t None ≡ x
read_due dues t x l e = get_or_default dues t None x l ∙ sym e
