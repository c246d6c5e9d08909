-- The timer that fires first is the first one of its slot that is due at the least due time.
use Rattle.std.proofs.Common.{◌≡◌, ◌≢◌, ◌<◌, ◌≤◌, ◌%◌, ◌⊎◌, ℕ, zero, suc, min, Option, Some, None, List, [], ◌∷◌, ◌++◌, fold, All, Contains, slice_get, get_or}
use Rattle.std.proofs.Common.{refl, sym, ap, subst, ◌∙◌, inl, inr, arith}
use Rattle.std.specs.Option.{option_and_then}
use Rattle.std.specs.List.{reduce, filter_map}
use Rattle.std.specs.List.Sorted.{IsNonDecreasingBy}
use Rattle.std.proofs.Math.Path.{ap₂}
use Rattle.std.proofs.lemmas.Bool.{cases_eq, cases_lt, eq-eqb}
use Rattle.std.proofs.lemmas.Bool.Decides.{eqb_tells}
use Rattle.std.proofs.lemmas.List.{append-nil}
use Rattle.std.proofs.lemmas.List.Elements.{All-head, All-tail, All-weaker}
use Rattle.rh_wheel.specs.Firing.{due_in, due_at}
use Rattle.rh_wheel.specs.Stored.{Stored, due_of, in_slot, listed}
use Rattle.rh_wheel.specs.Formed.{IsFormed}
use Rattle.rh_wheel.proofs.Finding.{Contains-due_in}
use Rattle.rh_wheel.proofs.Order.{due_at-put_in}
use Rattle.rh_wheel.proofs.Slots.{order, order-zero, order-more, by_due-order, entries-in_slot, entries-listed, due_in-listed, IsFiringOrder-listed}

-- the least of the due times
abbrev pub least : List (Option ℕ) → Option ℕ
least dues = reduce min (filter_map (λ due. due) dues)

fold_min-le : (a : ℕ) (dues : List (Option ℕ)) → fold min a (filter_map (λ due. due) dues) ≤ a
fold_min-le a [] = omega arith
fold_min-le a (None ∷ dues) = fold_min-le a dues
fold_min-le a (Some x ∷ dues) = let le = fold_min-le (min a x) dues in omega (arith, le)

fold_min-le_each : (a : ℕ) (dues : List (Option ℕ)) (t e : ℕ) → get_or dues t None ≡ Some e → fold min a (filter_map (λ due. due) dues) ≤ e
fold_min-le_each a [] t e is = absurd (cc)
fold_min-le_each a (None ∷ dues) zero e is = absurd (cc)
fold_min-le_each a (None ∷ dues) (suc t) e is = fold_min-le_each a dues t e is
fold_min-le_each a (Some x ∷ dues) zero e is =
    let le = fold_min-le (min a x) dues in
    let same : x ≡ e = cc is in
    omega (arith, le, same)
fold_min-le_each a (Some x ∷ dues) (suc t) e is = fold_min-le_each (min a x) dues t e is

-- one of some due times is the least of them
abbrev IsOneOf : ℕ → List (Option ℕ) → Type 0
IsOneOf d dues = (t : ℕ) × (get_or dues t None ≡ Some d)

later : (x : Option ℕ) (d : ℕ) (dues : List (Option ℕ)) → IsOneOf d dues → IsOneOf d (x ∷ dues)
later x d dues (t, e) = (suc t, e)

fold_min-one : (a : ℕ) (dues : List (Option ℕ)) → (fold min a (filter_map (λ due. due) dues) ≡ a) ⊎ IsOneOf (fold min a (filter_map (λ due. due) dues)) dues
fold_min-one a [] = inl refl
fold_min-one a (None ∷ dues) = elim (fold_min-one a dues) [ inl e ↦ inl e | inr o ↦ inr (later None _ dues o) ]
fold_min-one a (Some x ∷ dues) = elim (fold_min-one (min a x) dues) [
  | inl e ↦ elim (lesser a x) [ inl s ↦ inl (e ∙ s) | inr s ↦ inr (0, ap Some (sym (e ∙ s))) ]
  | inr o ↦ inr (later (Some x) _ dues o)
]
  where
    lesser : (a x : ℕ) → (min a x ≡ a) ⊎ (min a x ≡ x)
    lesser a x = elim (cases_lt a x) [ inl l ↦ inl (omega (arith, l)) | inr l ↦ inr (omega (arith, l)) ]

least-le : (dues : List (Option ℕ)) (d t e : ℕ) → least dues ≡ Some d → get_or dues t None ≡ Some e → d ≤ e
least-le [] d t e h is = absurd (cc h)
least-le (None ∷ dues) d zero e h is = absurd (cc is)
least-le (None ∷ dues) d (suc t) e h is = least-le dues d t e h is
least-le (Some x ∷ dues) d zero e h is =
    let le = fold_min-le x dues in
    let same : fold min x (filter_map (λ due. due) dues) ≡ d = cc h in
    let first : x ≡ e = cc is in
    omega (arith, le, same, first)
least-le (Some x ∷ dues) d (suc t) e h is =
    let le = fold_min-le_each x dues t e is in
    let same : fold min x (filter_map (λ due. due) dues) ≡ d = cc h in
    omega (arith, le, same)

least-one : (dues : List (Option ℕ)) (d : ℕ) → least dues ≡ Some d → IsOneOf d dues
least-one [] d h = absurd (cc h)
least-one (None ∷ dues) d h = later None d dues (least-one dues d h)
least-one (Some x ∷ dues) d h =
    let same : fold min x (filter_map (λ due. due) dues) ≡ d = cc h in
    subst (λ n. IsOneOf n (Some x ∷ dues)) same (elim (fold_min-one x dues) [ inl e ↦ (0, ap Some (sym e)) | inr o ↦ later (Some x) _ dues o ])

least-none : (dues : List (Option ℕ)) (t : ℕ) → least dues ≡ None → get_or dues t None ≡ None
least-none [] t h = refl
least-none (None ∷ dues) zero h = refl
least-none (None ∷ dues) (suc t) h = least-none dues t h
least-none (Some x ∷ dues) t h = absurd (cc h)

due_at-none : (due : ℕ) (xs : List (ℕ × ℕ)) → All (λ x. x.0 ≢ due) xs → due_at due xs ≡ []
due_at-none due [] h = refl
due_at-none due (x ∷ xs) h = elim (eqb_tells x.0 due) [
  | inl a ↦ absurd (All-head (λ x. x.0 ≢ due) x xs h a.1)
  | inr a ↦ simp a.0 (due_at-none due xs (All-tail (λ x. x.0 ≢ due) x xs h))
]

-- those that are due first stand in front
first_due : (due t : ℕ) (xs : List (ℕ × ℕ)) → IsNonDecreasingBy (λ x. x.0) xs → All (λ x. due ≤ x.0) xs → Contains xs (due, t)
    → slice_get xs 0 ≡ slice_get (due_at due xs) 0
first_due due t [] o h c = refl
first_due due t (x ∷ xs) o h (k, l, e) =
    let most = o 0 k (due, t) (omega arith) l in
    let at : (get_or (x ∷ xs) k (due, t)).0 ≡ due = ap (λ (y : ℕ × ℕ). y.0) e in
    let same : x.0 ≡ due = (let few = All-head (λ x. due ≤ x.0) x xs h in omega (arith, few, most, at)) in
    simp (eq-eqb x.0 due same) refl

-- the first timer of a due time's slot that is due at it
abbrev pub first_at : Stored → ℕ → Option (ℕ × ℕ)
first_at w due = slice_get (due_at due (in_slot w (due % 64))) 0

module _ (w : Stored) (h : IsFormed w) where
  other_slot : (due n : ℕ) → n ≢ due % 64 → due_at due (in_slot w n) ≡ []
  other_slot due n differs = due_at-none due (in_slot w n)
      (All-weaker (λ x. (due_of w x.1 ≡ Some x.0) × (x.0 % 64 ≡ n)) (λ x. x.0 ≢ due)
      (λ x p e. differs (sym p.1 ∙ ap (λ (k : ℕ). k % 64) e)) (in_slot w n) (entries-in_slot w h n))

  due_at-more : (due n : ℕ) → due_at due (order w (suc n)) ≡ due_at due (order w n) ++ due_at due (in_slot w n)
  due_at-more due n = ap (due_at due) (order-more w n) ∙ due_at-put_in due (order w n) (in_slot w n) (by_due-order w n)

  due_at-before : (due n : ℕ) → n ≤ due % 64 → due_at due (order w n) ≡ []
  due_at-before due zero l = ap (due_at due) (order-zero w)
  due_at-before due (suc n) l =
      due_at-more due n ∙ ap₂ (λ (xs ys : List (ℕ × ℕ)). xs ++ ys) (due_at-before due n (omega arith)) (other_slot due n (λ e. omega (arith, e, l)))

  due_at-behind : (due n : ℕ) → due % 64 < n → due_at due (order w n) ≡ due_at due (in_slot w (due % 64))
  due_at-behind due zero l = absurd (omega arith)
  due_at-behind due (suc n) l = elim (cases_eq n (due % 64)) [
    | inl e ↦ due_at-more due n ∙ ap₂ (λ (xs ys : List (ℕ × ℕ)). xs ++ ys) (due_at-before due n (omega (arith, e))) (ap (λ k. due_at due (in_slot w k)) e)
    | inr differs ↦ due_at-more due n
        ∙ ap₂ (λ (xs ys : List (ℕ × ℕ)). xs ++ ys) (due_at-behind due n (omega (arith, l, differs))) (other_slot due n differs) ∙ append-nil _
  ]

  -- those that are due together are all in one slot, in their order
  due_at-listed : (due : ℕ) → due_at due (listed w) ≡ due_at due (in_slot w (due % 64))
  unfolding listed
  due_at-listed due = due_at-behind due 64 (omega arith)

  first-listed : (due : ℕ) → least w.dues ≡ Some due → first_at w due ≡ slice_get (listed w) 0
  first-listed due e =
      let one = least-one w.dues due e in
      let is : due_in one.0 (listed w) ≡ Some due = due_in-listed w h one.0 ∙ one.1 in
      let stands : Contains (listed w) (due, one.0) = rw is at (Contains-due_in one.0 (listed w)) in
      ap (λ xs. slice_get xs 0) (sym (due_at-listed due))
      ∙ sym (first_due due one.0 (listed w) (IsFiringOrder-listed w h).by_due
      (All-weaker (λ x. due_of w x.1 ≡ Some x.0) (λ x. due ≤ x.0) (λ x p. least-le w.dues due x.1 x.0 e p) (listed w) (entries-listed w h)) stands)

  none-listed : least w.dues ≡ None → slice_get (listed w) 0 ≡ None
  none-listed e = empty (listed w) (entries-listed w h)
    where
      empty : (xs : List (ℕ × ℕ)) → All (λ x. due_of w x.1 ≡ Some x.0) xs → slice_get xs 0 ≡ None
      empty [] all = refl
      empty (x ∷ xs) all = absurd (let none = least-none w.dues x.1 e in let some = All-head (λ x. due_of w x.1 ≡ Some x.0) x xs all in cc (none, some))

  pub earliest-listed : option_and_then (first_at w) (least w.dues) ≡ slice_get (listed w) 0
  earliest-listed = at (least w.dues) refl
    where
      at : (o : Option ℕ) → least w.dues ≡ o → option_and_then (first_at w) o ≡ slice_get (listed w) 0
      at None e = sym (none-listed e)
      at (Some due) e = first-listed due e
