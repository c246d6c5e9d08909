-- Entries put one after the other into a firing order, each behind the last one that isn't due later.
use Rattle.std.proofs.Common.{◌≡◌, ◌≢◌, ◌<◌, ◌==◌, ℕ, suc, true, false, nat_le, not, List, [], ◌∷◌, ◌++◌, length, fold, All, AllPairs}
use Rattle.std.proofs.Common.{IsNone, IsSome, refl, sym, ap, ◌∙◌, inl, inr, arith, append_assoc, append-nil, get_or}
use Rattle.std.specs.List.Sorted.{IsNonDecreasingBy}
use Rattle.std.proofs.lemmas.Bool.Decides.{eqb_tells, leb_tells}
use Rattle.std.proofs.lemmas.Bool.{le-leb}
use Rattle.std.proofs.lemmas.List.Elements.{All-head, All-tail, All-filter}
use Rattle.rh_wheel.specs.Firing.{behind, without, due_in, due_at, IsFiringOrder}
use Rattle.rh_wheel.proofs.Arming.{All-behind, by_due-behind, IsFiringOrder-behind, due_in-behind_other, due_at-behind}

-- entries put into an order
abbrev pub put_in : List (ℕ × ℕ) → List (ℕ × ℕ) → List (ℕ × ℕ)
put_in order entries = fold (λ order entry. behind entry order) order entries

-- two that aren't due together, in whatever order they come
behind-behind : (x y : ℕ × ℕ) (o : List (ℕ × ℕ)) → y.0 ≢ x.0 → behind y (behind x o) ≡ behind x (behind y o)
behind-behind x y [] d = elim (leb_tells x.0 y.0) [
  | inl a ↦ elim (leb_tells y.0 x.0) [ inl b ↦ absurd (d (omega (arith, a.1, b.1))) | inr b ↦ simp (a.0, b.0) refl ]
  | inr a ↦ (let e : nat_le y.0 x.0 ≡ true = le-leb y.0 x.0 (omega (arith, a.1)) in simp (a.0, e) refl)
]
behind-behind x y (z ∷ o) d = elim (leb_tells z.0 x.0) [
  | inl a ↦ elim (leb_tells z.0 y.0) [
    | inl b ↦ simp (a.0, b.0) (ap (λ l. z ∷ l) (behind-behind x y o d))
    | inr b ↦ (let e : nat_le y.0 x.0 ≡ true = le-leb y.0 x.0 (omega (arith, a.1, b.1)) in simp (a.0, b.0, e) refl)
  ]
  | inr a ↦ elim (leb_tells z.0 y.0) [
    | inl b ↦ (let e : nat_le x.0 y.0 ≡ true = le-leb x.0 y.0 (omega (arith, a.1, b.1)) in simp (a.0, b.0, e) refl)
    | inr b ↦ elim (leb_tells x.0 y.0) [
      | inl c ↦ elim (leb_tells y.0 x.0) [ inl e ↦ absurd (d (omega (arith, c.1, e.1))) | inr e ↦ simp (a.0, b.0, c.0, e.0) refl ]
      | inr c ↦ (let e : nat_le y.0 x.0 ≡ true = le-leb y.0 x.0 (omega (arith, c.1)) in simp (a.0, b.0, c.0, e) refl)
    ]
  ]
]

-- an entry that is due together with none of those that come later
pub put_in-behind : (x : ℕ × ℕ) (o xs : List (ℕ × ℕ)) → All (λ y. y.0 ≢ x.0) xs → put_in (behind x o) xs ≡ behind x (put_in o xs)
put_in-behind x o [] d = refl
put_in-behind x o (y ∷ xs) d =
    ap (λ l. put_in l xs) (behind-behind x y o (All-head (λ y. y.0 ≢ x.0) y xs d))
    ∙ put_in-behind x (behind y o) xs (All-tail (λ y. y.0 ≢ x.0) y xs d)

pub by_due-put_in : (o xs : List (ℕ × ℕ)) → IsNonDecreasingBy (λ y. y.0) o → IsNonDecreasingBy (λ y. y.0) (put_in o xs)
by_due-put_in o [] h = h
by_due-put_in o (x ∷ xs) h = by_due-put_in (behind x o) xs (by_due-behind x o h)

pub All-put_in : (P : ℕ × ℕ → Type 0) (o xs : List (ℕ × ℕ)) → All P o → All P xs → All P (put_in o xs)
All-put_in P o [] h k = h
All-put_in P o (x ∷ xs) h k = All-put_in P (behind x o) xs (All-behind P x o (All-head P x xs k) h) (All-tail P x xs k)

-- entries of different timers that aren't armed yet
pub IsFiringOrder-put_in : (n : ℕ) (o xs : List (ℕ × ℕ)) → IsFiringOrder n o → All (λ x. x.1 < n) xs → AllPairs (λ x y. x.1 ≢ y.1) xs
    → All (λ x. IsNone (due_in x.1 o)) xs → IsFiringOrder n (put_in o xs)
IsFiringOrder-put_in n o [] h numbered once free = h
IsFiringOrder-put_in n o (x ∷ xs) h numbered once free =
    IsFiringOrder-put_in n (behind x o) xs
    (IsFiringOrder-behind n x o h (All-head (λ x. x.1 < n) x xs numbered) (All-head (λ x. IsNone (due_in x.1 o)) x xs free))
    (All-tail (λ x. x.1 < n) x xs numbered)
    (λ i j d a b. once (suc i) (suc j) d (omega arith) (omega arith))
    (λ k d l. still k d l (once 0 (suc k) d (omega arith) (omega arith)) (free (suc k) d (omega arith)))
  where
    still : (k : ℕ) (d : ℕ × ℕ) → k < length xs → x.1 ≢ (get_or xs k d).1 → IsNone (due_in (get_or xs k d).1 o) → IsNone (due_in (get_or xs k d).1 (behind x o))
    still k d l differs unarmed = rw (due_in-behind_other x o (get_or xs k d).1 (λ e. differs (sym e))) unarmed

-- a timer stays armed
armed-behind : (t : ℕ) (x : ℕ × ℕ) (o : List (ℕ × ℕ)) → IsSome (due_in t o) → IsSome (due_in t (behind x o))
armed-behind t x [] h = absurd (cc)
armed-behind t x (y ∷ o) h = elim (leb_tells y.0 x.0) [
  | inl a ↦ elim (eqb_tells y.1 t) [ inl b ↦ simp (a.0, b.0) refl | inr b ↦ simp (a.0, b.0) (armed-behind t x o (simp b.0 at h)) ]
  | inr a ↦ elim (eqb_tells x.1 t) [ inl b ↦ simp (a.0, b.0) refl | inr b ↦ simp (a.0, b.0) h ]
]

armed-behind_same : (t : ℕ) (x : ℕ × ℕ) (o : List (ℕ × ℕ)) → x.1 == t ≡ true → IsSome (due_in t (behind x o))
armed-behind_same t x [] e = simp e refl
armed-behind_same t x (y ∷ o) e = elim (leb_tells y.0 x.0) [
  | inl a ↦ elim (eqb_tells y.1 t) [ inl b ↦ simp (a.0, b.0) refl | inr b ↦ simp (a.0, b.0) (armed-behind_same t x o e) ]
  | inr a ↦ simp (a.0, e) refl
]

pub armed-put_in : (t : ℕ) (o xs : List (ℕ × ℕ)) → IsSome (due_in t o) → IsSome (due_in t (put_in o xs))
armed-put_in t o [] h = h
armed-put_in t o (x ∷ xs) h = armed-put_in t (behind x o) xs (armed-behind t x o h)

pub armed_from_put_in : (t : ℕ) (o xs : List (ℕ × ℕ)) → IsSome (due_in t xs) → IsSome (due_in t (put_in o xs))
armed_from_put_in t o [] h = absurd (cc)
armed_from_put_in t o (x ∷ xs) h = elim (eqb_tells x.1 t) [
  | inl a ↦ armed-put_in t (behind x o) xs (armed-behind_same t x o a.0)
  | inr a ↦ armed_from_put_in t (behind x o) xs (simp a.0 at h)
]

-- cancelling
without-behind_same : (t : ℕ) (x : ℕ × ℕ) (o : List (ℕ × ℕ)) → x.1 == t ≡ true → without t (behind x o) ≡ without t o
without-behind_same t x [] e = simp e refl
without-behind_same t x (y ∷ o) e = elim (leb_tells y.0 x.0) [
  | inl a ↦ elim (eqb_tells y.1 t) [
    | inl b ↦ simp (a.0, b.0) (without-behind_same t x o e)
    | inr b ↦ simp (a.0, b.0) (ap (λ l. y ∷ l) (without-behind_same t x o e))
  ]
  | inr a ↦ simp (a.0, e) refl
]

-- all are due later
behind_first : (x : ℕ × ℕ) (o : List (ℕ × ℕ)) → All (λ y. x.0 < y.0) o → behind x o ≡ x ∷ o
behind_first x [] h = refl
behind_first x (y ∷ o) h = elim (leb_tells y.0 x.0) [
  | inl a ↦ absurd (let l = All-head (λ y. x.0 < y.0) y o h in omega (arith, l, a.1))
  | inr a ↦ simp a.0 refl
]

without-behind_other : (t : ℕ) (x : ℕ × ℕ) (o : List (ℕ × ℕ)) → IsNonDecreasingBy (λ y. y.0) o → x.1 == t ≡ false
    → without t (behind x o) ≡ behind x (without t o)
without-behind_other t x [] h e = simp e refl
without-behind_other t x (y ∷ o) h e = elim (leb_tells y.0 x.0) [
  | inl a ↦ (let later = without-behind_other t x o (λ i j d l m. h (suc i) (suc j) d (omega arith) (omega arith)) e in
      elim (eqb_tells y.1 t) [ inl b ↦ simp (a.0, b.0) later | inr b ↦ simp (a.0, b.0) (ap (λ l. y ∷ l) later) ])
  | inr a ↦ (let later : All (λ z. x.0 < z.0) (y ∷ o) = λ k d l. let m = h 0 k d (omega arith) l in omega (arith, m, a.1) in
      simp (a.0, e) (sym (behind_first x (without t (y ∷ o)) (All-filter (λ z. not (z.1 == t)) (λ z. x.0 < z.0) (y ∷ o) later))))
]

pub without-put_in : (t : ℕ) (o xs : List (ℕ × ℕ)) → IsNonDecreasingBy (λ y. y.0) o → without t (put_in o xs) ≡ put_in (without t o) (without t xs)
without-put_in t o [] h = refl
without-put_in t o (x ∷ xs) h = elim (eqb_tells x.1 t) [
  | inl a ↦ simp a.0 (without-put_in t (behind x o) xs (by_due-behind x o h) ∙ ap (λ l. put_in l (without t xs)) (without-behind_same t x o a.0))
  | inr a ↦ simp a.0 (without-put_in t (behind x o) xs (by_due-behind x o h) ∙ ap (λ l. put_in l (without t xs)) (without-behind_other t x o h a.0))
]

-- those that are due at one time
due_at-behind_other : (due : ℕ) (x : ℕ × ℕ) (o : List (ℕ × ℕ)) → x.0 == due ≡ false → due_at due (behind x o) ≡ due_at due o
due_at-behind_other due x [] e = simp e refl
due_at-behind_other due x (y ∷ o) e = elim (leb_tells y.0 x.0) [
  | inl a ↦ elim (eqb_tells y.0 due) [
    | inl b ↦ simp (a.0, b.0) (ap (λ l. y ∷ l) (due_at-behind_other due x o e))
    | inr b ↦ simp (a.0, b.0) (due_at-behind_other due x o e)
  ]
  | inr a ↦ simp (a.0, e) refl
]

-- they keep their order
pub due_at-put_in : (due : ℕ) (o xs : List (ℕ × ℕ)) → IsNonDecreasingBy (λ y. y.0) o → due_at due (put_in o xs) ≡ due_at due o ++ due_at due xs
due_at-put_in due o [] h = sym (append-nil (due_at due o))
due_at-put_in due o (x ∷ xs) h = elim (eqb_tells x.0 due) [
  | inl a ↦ simp a.0 (due_at-put_in due (behind x o) xs (by_due-behind x o h) ∙ ap (λ l. l ++ due_at due xs) (same a.1)
      ∙ append_assoc (due_at due o) (x ∷ []) (due_at due xs))
  | inr a ↦ simp a.0 (due_at-put_in due (behind x o) xs (by_due-behind x o h) ∙ ap (λ l. l ++ due_at due xs) (due_at-behind_other due x o a.0))
]
  where
    same : x.0 ≡ due → due_at due (behind x o) ≡ due_at due o ++ x ∷ []
    same e = rw (← e) (due_at-behind x o h)
