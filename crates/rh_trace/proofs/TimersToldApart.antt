-- Timers told apart, and the entries of those that are set.
use Rattle.std.proofs.Common.{◌≡◌, ◌≤◌, ◌==◌, ℕ, zero, suc, Bool, true, false, cond, not, is_some, Some, List, [], ◌∷◌, find, slice_get, All, AllPairs, refl}
use Rattle.std.proofs.Common.{sym, ap, ◌∙◌, subst, inl, inr, ◌⊎◌, arith}
use Rattle.std.specs.Option.{option_map}
use Rattle.std.specs.List.Sorted.{IsNonDecreasingBy}
use Rattle.std.proofs.lemmas.Bool.Decides.{eqb_tells, nat_tests}
use Rattle.std.proofs.lemmas.List.Elements.{All-filter}
use Rattle.std.proofs.lemmas.List.Kept.{AllPairs-filter, IsNonDecreasingBy-filter}
use Rattle.rh_model.specs.ClusterView.{numbered, app_numbered}
use Rattle.rh_state.specs.declared.status.Timer.{Timer}
use Rattle.rh_state.specs.declared.status.Timer.TheVariants.{Sync, Failover}
use Rattle.rh_state.specs.Timers.{same_timer, without_timer, due_among}

eq-sym : (k m : ℕ) → (k == m) ≡ (m == k)
eq-sym k m = grind (arith, nat_tests)

pub same_timer-sym : (t u : Timer) → same_timer t u ≡ same_timer u t
same_timer-sym (Sync n) (Sync m) = eq-sym n.0 m.0
same_timer-sym (Failover a) (Failover b) = eq-sym a.0 b.0
same_timer-sym (Sync n) (Failover b) = refl
same_timer-sym (Failover a) (Sync m) = refl

eq-self : (n : ℕ) → (n == n) ≡ true
eq-self n = grind (arith, nat_tests)

pub same_self : (t : Timer) → same_timer t t ≡ true
same_self (Sync n) = eq-self n.0
same_self (Failover a) = eq-self a.0

-- timers with the same kind and number are one
pub same_timer-tells : (t u : Timer) → ((same_timer t u ≡ true) × (t ≡ u)) ⊎ (same_timer t u ≡ false)
same_timer-tells (Sync n) (Sync m) = elim (eqb_tells n.0 m.0) [ inl a ↦ inl (a.0, ap (λ k. Sync (numbered k)) a.1) | inr a ↦ inr a.0 ]
same_timer-tells (Failover a) (Failover b) = elim (eqb_tells a.0 b.0) [ inl e ↦ inl (e.0, ap (λ k. Failover (app_numbered k)) e.1) | inr e ↦ inr e.0 ]
same_timer-tells (Sync n) (Failover b) = inr refl
same_timer-tells (Failover a) (Sync m) = inr refl

-- is the timer set?
abbrev pub is_set : Timer → List (ℕ × Timer) → Bool
is_set t xs = is_some (due_among t xs)

-- no timer stands in two entries
abbrev pub IsOnce : List (ℕ × Timer) → Type 0
IsOnce xs = AllPairs (λ x y. same_timer x.1 y.1 ≡ false) xs

-- no entry is due later than one behind it
abbrev pub IsInOrder : List (ℕ × Timer) → Type 0
IsInOrder xs = IsNonDecreasingBy (λ x. x.0) xs

-- a timer is set in the first entry or behind it
pub set-cons : (t : Timer) (x : ℕ × Timer) (xs : List (ℕ × Timer)) (b : Bool) → same_timer t x.1 ≡ b → is_set t (x ∷ xs) ≡ cond b true (is_set t xs)
set-cons t x xs b e = ap (λ c. is_some (option_map (λ (entry : ℕ × Timer). entry.0) (cond c (Some x) (find (λ (entry : ℕ × Timer). same_timer t entry.1) xs))))
    e ∙ by b
  where
    by : (b : Bool) → is_some (option_map (λ (entry : ℕ × Timer). entry.0) (cond b (Some x) (find (λ (entry : ℕ × Timer). same_timer t entry.1) xs)))
        ≡ cond b true (is_set t xs)
    by true = refl
    by false = refl

-- a timer that isn't set stands neither in the first entry nor behind it
pub unset-cons : (t : Timer) (x : ℕ × Timer) (xs : List (ℕ × Timer)) → is_set t (x ∷ xs) ≡ false → (same_timer t x.1 ≡ false) × (is_set t xs ≡ false)
unset-cons t x xs = by (same_timer t x.1)
  where
    by : (b : Bool) → is_some (option_map (λ (e : ℕ × Timer). e.0) (cond b (Some x) (find (λ (e : ℕ × Timer). same_timer t e.1) xs))) ≡ false
        → (b ≡ false) × (is_set t xs ≡ false)
    by true h = absurd (cc)
    by false h = (refl, h)

pub differs_from_unset : (t : Timer) (xs : List (ℕ × Timer)) → is_set t xs ≡ false → All (λ x. same_timer t x.1 ≡ false) xs
differs_from_unset t [] h k d l = absurd (omega arith)
differs_from_unset t (x ∷ xs) h zero d l = (unset-cons t x xs h).0
differs_from_unset t (x ∷ xs) h (suc k) d l = differs_from_unset t xs (unset-cons t x xs h).1 k d (omega arith)

-- a timer that is taken out is set no more
pub unset-without : (t : Timer) (xs : List (ℕ × Timer)) → is_set t (without_timer t xs) ≡ false
unset-without t [] = refl
unset-without t (x ∷ xs) = by (same_timer t x.1) refl (unset-without t xs)
  where
    by : (b : Bool) → same_timer t x.1 ≡ b → is_set t (without_timer t xs) ≡ false
        → is_set t (cond (not b) (x ∷ without_timer t xs) (without_timer t xs)) ≡ false
    by true e h = h
    by false e h = set-cons t x (without_timer t xs) false e ∙ h

-- each other timer is as it was
pub set-without_other : (t u : Timer) (xs : List (ℕ × Timer)) → same_timer t u ≡ false → is_set u (without_timer t xs) ≡ is_set u xs
set-without_other t u [] differs = refl
set-without_other t u (x ∷ xs) differs = by (same_timer t x.1) refl (set-without_other t u xs differs)
  where
    both : same_timer t x.1 ≡ true → same_timer u x.1 ≡ false
    both e = elim (same_timer-tells t x.1) [
      | inl a ↦ same_timer-sym u x.1 ∙ ap (λ (v : Timer). same_timer v u) (sym a.1) ∙ differs
      | inr a ↦ absurd (cc (a, e))
    ]

    by : (b : Bool) → same_timer t x.1 ≡ b → is_set u (without_timer t xs) ≡ is_set u xs
        → is_set u (cond (not b) (x ∷ without_timer t xs) (without_timer t xs)) ≡ is_set u (x ∷ xs)
    by true e h = h ∙ sym (set-cons u x xs false (both e))
    by false e h = set-cons u x (without_timer t xs) (same_timer u x.1) refl ∙ ap (λ b. cond (same_timer u x.1) true b) h
        ∙ sym (set-cons u x xs (same_timer u x.1) refl)

-- what holds of the entries holds without that of a timer
pub once-without : (t : Timer) (xs : List (ℕ × Timer)) → IsOnce xs → IsOnce (without_timer t xs)
once-without t xs h = AllPairs-filter (λ x y. same_timer x.1 y.1 ≡ false) (λ (x : ℕ × Timer). not (same_timer t x.1)) xs h

pub order-without : (t : Timer) (xs : List (ℕ × Timer)) → IsInOrder xs → IsInOrder (without_timer t xs)
order-without t xs h = IsNonDecreasingBy-filter (λ x. x.0) (λ (x : ℕ × Timer). not (same_timer t x.1)) xs h

pub All-without : (P : ℕ × Timer → Type 0) (t : Timer) (xs : List (ℕ × Timer)) → All P xs → All P (without_timer t xs)
All-without P t xs h = All-filter (λ (x : ℕ × Timer). not (same_timer t x.1)) P xs h

-- no entry is due before the first
pub least-first : (entry : ℕ × Timer) (xs : List (ℕ × Timer)) → slice_get xs 0 ≡ Some entry → IsInOrder xs → All (λ y. entry.0 ≤ y.0) xs
least-first entry [] e o = absurd (cc e)
least-first entry (x ∷ xs) e o = subst (λ (y : ℕ × Timer). All (λ z. y.0 ≤ z.0) (x ∷ xs)) (some_same x entry e) (λ k d l. o 0 k d (omega arith) l)
  where
    some_same : (x y : ℕ × Timer) → Some x ≡ Some y → x ≡ y
    some_same x y e = cc
