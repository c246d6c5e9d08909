-- The timers that are due next are some of those that are set, and fewer are left behind them.
use Rattle.std.proofs.Common.{◌≡◌, ◌⊎◌, ◌<◌, ◌≤◌, ◌+◌, ◌==◌, ◌&&◌, ℕ, Bool, true, false, not, cond, List, [], ◌∷◌, length, filter, Option, Some, refl, sym, ap, subst, ◌∙◌, inl, inr, arith}
use Rattle.std.proofs.lemmas.Bool.{eq-eqb}
use Rattle.std.proofs.lemmas.List.Filters.{length-filter_both}
use Rattle.std.proofs.lemmas.Option.{same_Some}
use Rattle.rh_otp_net.specs.declared.timers.Timer.{Timer}
use Rattle.rh_otp_net.specs.Timers as timers

-- the number of those of this time
abbrev count : ℕ × ℕ → List Timer → ℕ
count time rows = length (filter (timers.is_due time) rows)

count_first : (time : ℕ × ℕ) (t : Timer) (rows : List Timer) → (t.due, t.step) ≡ time → 0 < count time (t ∷ rows)
count_first time t rows same =
    let due : (t.due == time.0) ≡ true = eq-eqb t.due time.0 (ap (λ (x : ℕ × ℕ). x.0) same) in
    let step : (t.step == time.1) ≡ true = eq-eqb t.step time.1 (ap (λ (x : ℕ × ℕ). x.1) same) in
    subst (λ (b : Bool). 0 < length (cond b (t ∷ filter (timers.is_due time) rows) (filter (timers.is_due time) rows)))
    (sym (λ i. due i && step i)) (omega arith)

count_later : (time : ℕ × ℕ) (t : Timer) (rows : List Timer) → 0 < count time rows → 0 < count time (t ∷ rows)
count_later time t rows some = by (timers.is_due time t)
  where
    by : (b : Bool) → 0 < length (cond b (t ∷ filter (timers.is_due time) rows) (filter (timers.is_due time) rows))
    by true = omega arith
    by false = some

-- what is earliest is of one of them, or of none
some_due : (least : ℕ × ℕ) (rows : List Timer) (time : ℕ × ℕ) → timers.earliest (Some least) rows ≡ Some time
    → (least ≡ time) ⊎ (0 < count time rows)
some_due least [] time found = inl (same_Some least time found)
some_due least (t ∷ rows) time found = by (timers.is_before (t.due, t.step) least) found (λ x. some_due x rows time)
  where
    by : (b : Bool) → timers.earliest (cond b (Some (t.due, t.step)) (Some least)) rows ≡ Some time
        → ((x : ℕ × ℕ) → timers.earliest (Some x) rows ≡ Some time → (x ≡ time) ⊎ (0 < count time rows))
        → (least ≡ time) ⊎ (0 < count time (t ∷ rows))
    by true is more = elim (more (t.due, t.step) is) [
      | inl same ↦ inr (count_first time t rows same)
      | inr some ↦ inr (count_later time t rows some)
    ]
    by false is more = elim (more least is) [
      | inl same ↦ inl same
      | inr some ↦ inr (count_later time t rows some)
    ]

some_next : (rows : List Timer) (time : ℕ × ℕ) → timers.next_due rows ≡ Some time → 0 < count time rows
some_next [] time found = absurd (none_is time found)
  where
    none_is : (x : ℕ × ℕ) → timers.next_due [] ≡ Some x → ⊥
    none_is x is = cc is
some_next (t ∷ rows) time found = elim (some_due (t.due, t.step) rows time found) [
  | inl same ↦ count_first time t rows same
  | inr some ↦ count_later time t rows some
]

module _ (rows : List Timer) (time : ℕ × ℕ) (next : timers.next_due rows ≡ Some time) where
  both : length (timers.fired rows) + length (timers.left rows) ≡ length rows
  both =
      (λ i. length (timers.due_at (next i) rows) + length (timers.left_at (next i) rows))
      ∙ length-filter_both (timers.is_due time) (λ t. not (timers.is_due time t)) (λ t. refl) rows

  some : 0 < length (timers.fired rows)
  some = subst (λ (o : Option (ℕ × ℕ)). 0 < length (timers.due_at o rows)) (sym next) (some_next rows time next)

  pub left_fewer : length (timers.left rows) < length rows
  left_fewer = omega (arith, both, some)

  pub fired_few : length (timers.fired rows) ≤ length rows
  fired_few = omega (arith, both)
