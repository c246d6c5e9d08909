-- The slots of timers, and the firing order that they give.
use Rattle.std.proofs.Common.{◌≡◌, ◌≢◌, ◌<◌, ◌≤◌, ◌%◌, ℕ, zero, suc, Option, Some, None, List, [], ◌∷◌, length, get_or, map}
use Rattle.std.proofs.Common.{All, AllPairs, Contains, IsNone, IsSome, IfSome, unwrap_or, refl, sym, ap, subst, ◌∙◌, inl, inr, arith}
use Rattle.std.specs.Option.{option_map}
use Rattle.std.specs.List.Sorted.{IsNonDecreasingBy}
use Rattle.std.proofs.Math.Path.{ap₂}
use Rattle.std.proofs.lemmas.Bool.{cases_eq, cases_lt}
use Rattle.std.proofs.lemmas.List.{get_or-map, get_or_past, length-map}
use Rattle.std.proofs.lemmas.List.Elements.{All-nil, All-map, All-weaker, All-contains, Contains-get_or}
use Rattle.std.proofs.lemmas.List.Sums.{fold-append}
use Rattle.std.proofs.lemmas.Option.{IfSome_then}
use Rattle.rh_arena.specs.Words.{owner_of}
use Rattle.rh_arena.specs.Lists.{listed as timers_in}
use Rattle.rh_wheel.specs.Firing.{behind, due_in, timers_of, in_firing_order, IsFiringOrder}
use Rattle.rh_wheel.specs.Stored.{Stored, timer_count, due_of, in_slot, in_slots, listed}
use Rattle.rh_wheel.specs.Formed.{IsFormed}
use Rattle.rh_wheel.proofs.Finding.{armed_from_Contains, unarmed_from_differs, Contains-due_in}
use Rattle.rh_wheel.proofs.Order.{put_in, by_due-put_in, All-put_in, IsFiringOrder-put_in, armed-put_in, armed_from_put_in}

-- the firing order of the first slots
abbrev pub order : Stored → ℕ → List (ℕ × ℕ)
order w n = in_firing_order (in_slots w n)

pub order-zero : (w : Stored) → order w 0 ≡ []
unfolding in_slots
order-zero w = refl

pub order-more : (w : Stored) (n : ℕ) → order w (suc n) ≡ put_in (order w n) (in_slot w n)
unfolding in_slots
order-more w n = fold-append (λ order entry. behind entry order) [] (in_slots w n) (in_slot w n)

pub by_due-order : (w : Stored) (n : ℕ) → IsNonDecreasingBy (λ y. y.0) (order w n)
by_due-order w n = by_due-put_in [] (in_slots w n) (λ i j d l m. absurd (omega arith))

-- a timer with a due time is one of the timers
pub within_from_due : (dues : List (Option ℕ)) (t d : ℕ) → get_or dues t None ≡ Some d → t < length dues
within_from_due dues t d e = elim (cases_lt t (length dues)) [
  | inl l ↦ l
  | inr m ↦ absurd (let past = get_or_past dues t None m in cc (past, e))
]

slot_from_due : (due : Option ℕ) (k : ℕ) → option_map (λ d. d % 64) due ≡ Some k → (d : ℕ) × (due ≡ Some d) × (d % 64 ≡ k)
slot_from_due None k e = absurd (cc)
slot_from_due (Some d) k e = (d, refl, (let q : d % 64 ≡ k = cc e in q))

-- timers, each with a time
abbrev pub timed : (ℕ → ℕ) → List ℕ → List (ℕ × ℕ)
timed f ts = map (λ t. (f t, t)) ts

timers_of-map : (f : ℕ → ℕ) (ts : List ℕ) → timers_of (timed f ts) ≡ ts
timers_of-map f [] = refl
timers_of-map f (t ∷ ts) = ap (λ l. t ∷ l) (timers_of-map f ts)

differ-map : (f : ℕ → ℕ) (ts : List ℕ) → AllPairs (λ i j. i ≢ j) ts → AllPairs (λ (x y : ℕ × ℕ). x.1 ≢ y.1) (timed f ts)
differ-map f ts once i j d a b e =
    let l : j < length ts = let m = length-map {B = ℕ × ℕ} ts (λ t. (f t, t)) in omega (arith, b, m) in
    let p = get_or-map {Y = ℕ × ℕ} (λ (t : ℕ). (f t, t)) ts i d.1 d (omega arith) in
    let q = get_or-map {Y = ℕ × ℕ} (λ (t : ℕ). (f t, t)) ts j d.1 d l in
    once i j d.1 a l (sym (ap (λ (x : ℕ × ℕ). x.1) p) ∙ e ∙ ap (λ (x : ℕ × ℕ). x.1) q)

same_option : (o p : Option ℕ) → IfSome p (λ d. o ≡ Some d) → ((d : ℕ) → o ≡ Some d → IsSome p) → p ≡ o
same_option None None a b = refl
same_option None (Some d) a b = sym a
same_option (Some d) None a b = absurd (let h = b d refl in cc h)
same_option (Some d) (Some e) a b = sym a

none_from : (o : Option ℕ) → IsNone o → o ≡ None
none_from None h = refl
none_from (Some d) h = absurd (cc h)

pub some_from : (o : Option ℕ) → IsSome o → (d : ℕ) × (o ≡ Some d)
some_from None h = absurd (cc h)
some_from (Some d) h = (d, refl)

-- no slot has a timer
pub listed-empty : (w : Stored) → ((k : ℕ) → timers_in w.links k ≡ []) → listed w ≡ []
unfolding listed
listed-empty w empty = all 64
  where
    all : (n : ℕ) → order w n ≡ []
    all zero = order-zero w
    all (suc n) = order-more w n ∙ ap₂ put_in (all n) (ap (timed (λ t. unwrap_or (due_of w t) 0)) (empty n))

module _ (w : Stored) (h : IsFormed w) where
  -- a timer of a slot is due at a time of this slot
  pub due_from_slot : (k t : ℕ) → Contains (timers_in w.links k) t → (d : ℕ) × (due_of w t ≡ Some d) × (d % 64 ≡ k)
  due_from_slot k t c = slot_from_due (due_of w t) k (sym (h.slot t) ∙ (h.links.owners t k).1 c)

  slot_from_due_of : (t d : ℕ) → due_of w t ≡ Some d → Contains (timers_in w.links (d % 64)) t
  slot_from_due_of t d e = (h.links.owners t (d % 64)).0 (h.slot t ∙ ap (option_map (λ due. due % 64)) e)

  pub entries-in_slot : (k : ℕ) → All (λ x. (due_of w x.1 ≡ Some x.0) × (x.0 % 64 ≡ k)) (in_slot w k)
  entries-in_slot k = All-map (λ x. (due_of w x.1 ≡ Some x.0) × (x.0 % 64 ≡ k)) (λ t. (unwrap_or (due_of w t) 0, t)) (timers_in w.links k)
      (λ i d l. at (get_or (timers_in w.links k) i d) (due_from_slot k (get_or (timers_in w.links k) i d) (Contains-get_or (timers_in w.links k) i d l)))
    where
      at : (t : ℕ) → ((d : ℕ) × (due_of w t ≡ Some d) × (d % 64 ≡ k)) → (due_of w t ≡ Some (unwrap_or (due_of w t) 0)) × (unwrap_or (due_of w t) 0 % 64 ≡ k)
      at t (d, e, m) = let u : unwrap_or (due_of w t) 0 ≡ d = ap (λ o. unwrap_or o 0) e in (e ∙ ap Some (sym u), ap (λ n. n % 64) u ∙ m)

  entries-order : (n : ℕ) → All (λ x. (due_of w x.1 ≡ Some x.0) × (x.0 % 64 < n)) (order w n)
  entries-order zero = rw (order-zero w) (All-nil (λ x. (due_of w x.1 ≡ Some x.0) × (x.0 % 64 < 0)))
  entries-order (suc n) = rw (order-more w n) (All-put_in (λ x. (due_of w x.1 ≡ Some x.0) × (x.0 % 64 < suc n)) (order w n) (in_slot w n)
      (All-weaker (λ x. (due_of w x.1 ≡ Some x.0) × (x.0 % 64 < n)) (λ x. (due_of w x.1 ≡ Some x.0) × (x.0 % 64 < suc n))
      (λ x p. (p.0, omega (arith, p.1))) (order w n) (entries-order n))
      (All-weaker (λ x. (due_of w x.1 ≡ Some x.0) × (x.0 % 64 ≡ n)) (λ x. (due_of w x.1 ≡ Some x.0) × (x.0 % 64 < suc n))
      (λ x p. (p.0, omega (arith, p.1))) (in_slot w n) (entries-in_slot n)))

  -- a timer of a slot is armed by no slot before it
  free-order : (n : ℕ) → All (λ x. IsNone (due_in x.1 (order w n))) (in_slot w n)
  free-order n = All-weaker (λ x. (due_of w x.1 ≡ Some x.0) × (x.0 % 64 ≡ n)) (λ x. IsNone (due_in x.1 (order w n)))
      (λ x p. unarmed_from_differs x.1 (order w n)
      (All-weaker (λ y. (due_of w y.1 ≡ Some y.0) × (y.0 % 64 < n)) (λ y. y.1 ≢ x.1) (λ y q. apart x y p q) (order w n) (entries-order n)))
      (in_slot w n) (entries-in_slot n)
    where
      apart : (x y : ℕ × ℕ) → (due_of w x.1 ≡ Some x.0) × (x.0 % 64 ≡ n) → (due_of w y.1 ≡ Some y.0) × (y.0 % 64 < n) → y.1 ≢ x.1
      apart x y p q e =
          let s : Some y.0 ≡ Some x.0 = sym q.0 ∙ ap (due_of w) e ∙ p.0 in
          let same : y.0 ≡ x.0 = cc s in
          let m : y.0 % 64 ≡ x.0 % 64 = ap (λ k. k % 64) same in
          omega (arith, m, p.1, q.1)

  IsFiringOrder-order : (n : ℕ) → n ≤ 64 → IsFiringOrder (length w.dues) (order w n)
  IsFiringOrder-order zero l = rw (order-zero w) (record {
    by_due = λ i j d a b. absurd (omega arith);
    once = λ i j d a b. absurd (omega arith);
    numbered = λ k d a. absurd (omega arith);
  })
  IsFiringOrder-order (suc n) l = rw (order-more w n) (IsFiringOrder-put_in (length w.dues) (order w n) (in_slot w n)
      (IsFiringOrder-order n (omega arith))
      (All-weaker (λ x. (due_of w x.1 ≡ Some x.0) × (x.0 % 64 ≡ n)) (λ x. x.1 < length w.dues) (λ x p. within_from_due w.dues x.1 x.0 p.0)
      (in_slot w n) (entries-in_slot n))
      (differ-map (λ t. unwrap_or (due_of w t) 0) (timers_in w.links n) (h.links.lists n (let s = h.slots in omega (arith, s, l))).different)
      (free-order n))

  pub IsFiringOrder-listed : IsFiringOrder (timer_count w) (listed w)
  unfolding listed timer_count
  IsFiringOrder-listed = IsFiringOrder-order 64 (omega arith)

  armed-in_slot : (t d : ℕ) → due_of w t ≡ Some d → IsSome (due_in t (in_slot w (d % 64)))
  armed-in_slot t d e = armed_from_Contains t (in_slot w (d % 64))
      (rw (timers_of-map (λ t. unwrap_or (due_of w t) 0) (timers_in w.links (d % 64))) (slot_from_due_of t d e))

  armed-order : (n t d : ℕ) → due_of w t ≡ Some d → d % 64 < n → IsSome (due_in t (order w n))
  armed-order zero t d e l = absurd (omega arith)
  armed-order (suc n) t d e l = rw (order-more w n) (elim (cases_eq (d % 64) n) [
    | inl s ↦ armed_from_put_in t (order w n) (in_slot w n) (subst (λ k. IsSome (due_in t (in_slot w k))) s (armed-in_slot t d e))
    | inr s ↦ armed-put_in t (order w n) (in_slot w n) (armed-order n t d e (omega arith))
  ])

  pub entries-listed : All (λ x. due_of w x.1 ≡ Some x.0) (listed w)
  unfolding listed
  entries-listed = All-weaker (λ x. (due_of w x.1 ≡ Some x.0) × (x.0 % 64 < 64)) (λ x. due_of w x.1 ≡ Some x.0) (λ x p. p.0) (order w 64) (entries-order 64)

  armed-listed : (t d : ℕ) → due_of w t ≡ Some d → IsSome (due_in t (listed w))
  unfolding listed
  armed-listed t d e = armed-order 64 t d e (omega arith)

  -- when a timer is due says what the list says
  pub due_in-listed : (t : ℕ) → due_in t (listed w) ≡ due_of w t
  due_in-listed t = same_option (due_of w t) (due_in t (listed w))
      (IfSome_then (due_in t (listed w)) (Contains-due_in t (listed w))
      (λ d c. All-contains (λ x. due_of w x.1 ≡ Some x.0) (listed w) (d, t) entries-listed c))
      (armed-listed t)

  pub unarmed_from_listed : (t : ℕ) → IsNone (due_in t (listed w)) → (due_of w t ≡ None) × (owner_of w.links t ≡ None)
  unarmed_from_listed t n =
      let free : due_of w t ≡ None = none_from (due_of w t) (rw (due_in-listed t) at n) in
      (free, h.slot t ∙ ap (option_map (λ (d : ℕ). d % 64)) free)

  pub armed_from_listed : (t : ℕ) → IsSome (due_in t (listed w)) → (d : ℕ) × (due_of w t ≡ Some d) × (owner_of w.links t ≡ Some (d % 64))
  armed_from_listed t n =
      let armed = some_from (due_of w t) (rw (due_in-listed t) at n) in
      (armed.0, armed.1, h.slot t ∙ ap (option_map (λ (d : ℕ). d % 64)) armed.1)
