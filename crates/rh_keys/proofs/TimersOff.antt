-- The first timer is taken off, and the others stay.
use Rattle.std.proofs.Common.{◌≡◌, ℕ, suc, true, false, cond, not, List, [], ◌∷◌, find, slice_get, Some, None, AllPairs, IsSome, refl, sym, ap, ◌∙◌, subst, arith}
use Rattle.std.specs.Option.{option_map}
use Rattle.std.proofs.lemmas.Option.{same_Some, none-some}
use Rattle.rh_state.specs.declared.status.Timer.{Timer}
use Rattle.rh_state.specs.Timers.{same_timer, without_timer, due_among}
use Rattle.rh_trace.proofs.TimersToldApart.{same_self}
use Rattle.rh_keys.proofs.Places.{pair_of}

-- no timer stands in two entries
abbrev pub IsOnce : List (ℕ × Timer) → Type 0
IsOnce xs = AllPairs (λ entry later. same_timer entry.1 later.1 ≡ false) xs

none_taken : (t : Timer) (xs : List (ℕ × Timer)) → ((k : ℕ) (x : ℕ × Timer) → slice_get xs k ≡ Some x → same_timer t x.1 ≡ false) → without_timer t xs ≡ xs
none_taken t [] differ = refl
none_taken t (x ∷ xs) differ =
    ap (λ b. cond (not b) (x ∷ without_timer t xs) (without_timer t xs)) (differ 0 x refl)
    ∙ ap (λ (l : List (ℕ × Timer)). x ∷ l) (none_taken t xs (λ k y at. differ (suc k) y at))

pub first_off : (xs : List (ℕ × Timer)) (due : ℕ) (t : Timer) → slice_get xs 0 ≡ Some (due, t) → IsOnce xs → xs ≡ (due, t) ∷ without_timer t xs
first_off [] due t at once = absurd (none-some (due, t) at)
first_off (x ∷ xs) due t at once =
    let is : x ≡ (due, t) = same_Some x (due, t) at in
    let timer : x.1 ≡ t = ap (λ (y : ℕ × Timer). y.1) is in
    let mine : same_timer t x.1 ≡ true = ap (same_timer t) timer ∙ same_self t in
    let others : without_timer t xs ≡ xs = none_taken t xs (λ k y there. ap (λ (u : Timer). same_timer u y.1) (sym timer) ∙ pair_of (λ (entry later : ℕ × Timer). same_timer entry.1 later.1 ≡ false) (x ∷ xs) 0 (suc k) x y once (omega arith) refl there) in
    (λ i. is i ∷ sym others i)
    ∙ ap (λ b. (due, t) ∷ cond (not b) (x ∷ without_timer t xs) (without_timer t xs)) (sym mine)

-- it is set
pub first_set : (xs : List (ℕ × Timer)) (due : ℕ) (t : Timer) → slice_get xs 0 ≡ Some (due, t) → IsSome (due_among t xs)
first_set [] due t at = absurd (none-some (due, t) at)
first_set (x ∷ xs) due t at =
    let mine : same_timer t x.1 ≡ true = ap (λ (y : ℕ × Timer). same_timer t y.1) (same_Some x (due, t) at) ∙ same_self t in
    subst (λ b. IsSome (option_map (λ (entry : ℕ × Timer). entry.0) (cond b (Some x) (find (λ (entry : ℕ × Timer). same_timer t entry.1) xs)))) (sym mine) refl

-- none is left
pub none_left : (xs : List (ℕ × Timer)) → slice_get xs 0 ≡ None → xs ≡ []
none_left [] at = refl
none_left (x ∷ xs) at = absurd (none-some x (sym at))
