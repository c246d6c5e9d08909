-- Timers by their numbers: what a wheel keeps of numbers, it means of timers.
use Rattle.std.proofs.Common.{◌≡◌, ◌≢◌, ◌-◌, ◌==◌, ℕ, suc, Bool, true, false, not, cond}
use Rattle.std.proofs.Common.{nat_le, Some, List, [], ◌∷◌, map, find, slice_get, All, AllPairs, refl, sym}
use Rattle.std.proofs.Common.{ap, ◌∙◌, inl, inr, arith}
use Rattle.std.specs.Option.{option_map}
use Rattle.std.proofs.lemmas.Bool.{cases_lt, eq-eqb, lt-ltb, le-ltb}
use Rattle.std.proofs.lemmas.Bool.Decides.{eqb_tells}
use Rattle.std.proofs.lemmas.Option.{slice_get-map, same_Some}
use Rattle.rh_model.specs.ClusterView.{ClusterView, node_count}
use Rattle.rh_wheel.specs.Firing.{behind, without, due_in}
use Rattle.rh_wheel.specs.Stored as wheel
use Rattle.rh_state.specs.declared.status.Timer.{Timer}
use Rattle.rh_state.specs.Timers.{same_timer, without_timer, due_among, timer_numbered}
use Rattle.rh_state.specs.Stored.{timers_of}

-- what an entry of a wheel means
abbrev pub meant : ClusterView → ℕ × ℕ → ℕ × Timer
meant c e = (e.0, timer_numbered c e.1)

-- two tests of numbers that are equal together
pub same_number : (j k m n : ℕ) → (j ≡ k → m ≡ n) → (m ≡ n → j ≡ k) → j == k ≡ (m == n)
same_number j k m n to from = elim (eqb_tells j k) [
  | inl a ↦ a.0 ∙ sym (eq-eqb m n (to a.1))
  | inr a ↦ elim (eqb_tells m n) [ inl b ↦ absurd (a.1 (from b.1)) | inr b ↦ a.0 ∙ sym b.0 ]
]

-- two timers are the same exactly if their numbers are
same_numbered : (c : ClusterView) (j k : ℕ) → same_timer (timer_numbered c j) (timer_numbered c k) ≡ (k == j)
same_numbered c j k = elim (cases_lt j (node_count c)) [
  | inl a ↦ elim (cases_lt k (node_count c)) [
    | inl b ↦ simp (lt-ltb j (node_count c) a, lt-ltb k (node_count c) b) (same_number j k k j (λ e. sym e) (λ e. sym e))
    | inr b ↦ simp (lt-ltb j (node_count c) a, le-ltb k (node_count c) b) (elim (eqb_tells k j) [ inl e ↦ absurd (omega (arith, e.1)) | inr e ↦ sym e.0 ])
  ]
  | inr a ↦ elim (cases_lt k (node_count c)) [
    | inl b ↦ simp (le-ltb j (node_count c) a, lt-ltb k (node_count c) b) (elim (eqb_tells k j) [ inl e ↦ absurd (omega (arith, e.1)) | inr e ↦ sym e.0 ])
    | inr b ↦ simp (le-ltb j (node_count c) a, le-ltb k (node_count c) b)
        (same_number (j - node_count c) (k - node_count c) k j (λ e. omega (arith, e)) (λ e. omega (arith, e)))
  ]
]

due_meant : (c : ClusterView) (k : ℕ) (es : List (ℕ × ℕ)) → due_among (timer_numbered c k) (map (meant c) es) ≡ due_in k es
due_meant c k [] = refl
due_meant c k (e ∷ es) = rw (same_numbered c k e.1) (by (e.1 == k) (due_meant c k es))
  where
    by : (b : Bool) → due_among (timer_numbered c k) (map (meant c) es) ≡ due_in k es
        → option_map (λ (entry : ℕ × Timer). entry.0) (cond b (Some (meant c e)) (find (λ entry. same_timer (timer_numbered c k) entry.1) (map (meant c) es)))
        ≡ option_map (λ (entry : ℕ × ℕ). entry.0) (cond b (Some e) (find (λ entry. entry.1 == k) es))
    by true h = refl
    by false h = h

without_meant : (c : ClusterView) (k : ℕ) (es : List (ℕ × ℕ)) → without_timer (timer_numbered c k) (map (meant c) es) ≡ map (meant c) (without k es)
without_meant c k [] = refl
without_meant c k (e ∷ es) = rw (same_numbered c k e.1) (by (e.1 == k) (without_meant c k es))
  where
    by : (b : Bool) → without_timer (timer_numbered c k) (map (meant c) es) ≡ map (meant c) (without k es)
        → cond (not b) (meant c e ∷ without_timer (timer_numbered c k) (map (meant c) es)) (without_timer (timer_numbered c k) (map (meant c) es))
        ≡ map (meant c) (cond (not b) (e ∷ without k es) (without k es))
    by true h = h
    by false h = ap (λ (l : List (ℕ × Timer)). meant c e ∷ l) h

behind_meant : (c : ClusterView) (new : ℕ × ℕ) (es : List (ℕ × ℕ)) → behind (meant c new) (map (meant c) es) ≡ map (meant c) (behind new es)
behind_meant c new [] = refl
behind_meant c new (e ∷ es) = by (nat_le e.0 new.0) (behind_meant c new es)
  where
    by : (b : Bool) → behind (meant c new) (map (meant c) es) ≡ map (meant c) (behind new es)
        → cond b (meant c e ∷ behind (meant c new) (map (meant c) es)) (meant c new ∷ (meant c e ∷ map (meant c) es))
        ≡ map (meant c) (cond b (e ∷ behind new es) (new ∷ (e ∷ es)))
    by true h = ap (λ (l : List (ℕ × Timer)). meant c e ∷ l) h
    by false h = refl

-- when a timer is due
pub due_numbered : (c : ClusterView) (w : wheel.Stored) (k : ℕ) (t : Timer) → timer_numbered c k ≡ t → due_in k (wheel.listed w) ≡ due_among t (timers_of c w)
unfolding timers_of
due_numbered c w k t e = rw (← e) (sym (due_meant c k (wheel.listed w)))

-- a wheel with one timer more, and with one less
pub behind_numbered : (c : ClusterView) (w v : wheel.Stored) (due k : ℕ) (t : Timer) → timer_numbered c k ≡ t
    → wheel.listed v ≡ behind (due, k) (wheel.listed w) → timers_of c v ≡ behind (due, t) (timers_of c w)
unfolding timers_of
behind_numbered c w v due k t e h = rw (← e, h) (sym (behind_meant c (due, k) (wheel.listed w)))

pub without_numbered : (c : ClusterView) (w v : wheel.Stored) (k : ℕ) (t : Timer) → timer_numbered c k ≡ t → wheel.listed v ≡ without k (wheel.listed w)
    → timers_of c v ≡ without_timer t (timers_of c w)
unfolding timers_of
without_numbered c w v k t e h = rw (← e, h) (sym (without_meant c k (wheel.listed w)))

-- the timer that fires first
pub first_numbered : (c : ClusterView) (w : wheel.Stored) → slice_get (timers_of c w) 0 ≡ option_map (meant c) (slice_get (wheel.listed w) 0)
unfolding timers_of
first_numbered c w = slice_get-map (meant c) (wheel.listed w) 0

kept_without : (k : ℕ) (es : List (ℕ × ℕ)) → All (λ (e : ℕ × ℕ). k ≢ e.1) es → without k es ≡ es
kept_without k [] all = refl
kept_without k (e ∷ es) all = elim (eqb_tells e.1 k) [
  | inl a ↦ absurd (all 0 e (omega arith) (sym a.1))
  | inr a ↦ rw a.0 (ap (λ (l : List (ℕ × ℕ)). e ∷ l) (kept_without k es (λ i d l. all (suc i) d (omega (arith, l)))))
]

-- the timers that are left once the first one is taken out stand behind it
pub first_and_rest : (es : List (ℕ × ℕ)) (due k : ℕ) → slice_get es 0 ≡ Some (due, k) → AllPairs (λ (e f : ℕ × ℕ). e.1 ≢ f.1) es → es ≡ (due, k) ∷ without k es
first_and_rest [] due k first once = absurd (cc)
first_and_rest (e ∷ es) due k first once =
    let is : e ≡ (due, k) = same_Some e (due, k) first in
    let apart : All (λ (f : ℕ × ℕ). k ≢ f.1) es =
    λ i d l same. once 0 (suc i) d (omega arith) (omega (arith, l)) (ap (λ (f : ℕ × ℕ). f.1) is ∙ same) in
    let here : e.1 == k ≡ true = eq-eqb e.1 k (ap (λ (f : ℕ × ℕ). f.1) is) in
    rw (here, kept_without k es apart) (ap (λ (f : ℕ × ℕ). f ∷ es) is)
