-- Behind all firings no timer is due any more, so that time may pass to its end; and nothing is left to do.
use Rattle.std.proofs.Common.{◌≡◌, ◌≤◌, ℕ, zero, suc, List, [], ◌∷◌, slice_get, All, Some, None, refl, sym, ap, subst, inl, inr, arith}
use Rattle.std.proofs.lemmas.Bool.Decides.{leb_tells}
use Rattle.rh_state.specs.declared.status.Timer.{Timer}
use Rattle.rh_state.specs.Limits.{time_limit}
use Rattle.rh_state.specs.StateView.{earliest}
use Rattle.rh_state.specs.Setters.{with_time}
use Rattle.rh_rules.specs.declared.pick.Pick.{Pick}
use Rattle.rh_rules.specs.Course.{Course}
use Rattle.rh_trace.specs.Validity.{IsSound}
use Rattle.rh_rules.specs.Time.{due_by, fired, fired_by, all_fired}
use Rattle.rh_trace.proofs.TimersToldApart.{IsInOrder}
use Rattle.rh_step.proofs.TakenOff.{sound_at}
use Rattle.rh_step.proofs.Fuel.{timer_count, goes, by_found, nothing_due, fired_fewer, sound_fired, sound_all_fired}

-- where the first isn't due by the limit, none is due before it
none_due : (limit : ℕ) (xs : List (ℕ × Timer)) → IsInOrder xs → due_by limit (slice_get xs 0) ≡ None → All (λ entry. limit ≤ entry.0) xs
none_due limit [] o e k d l = absurd (omega arith)
none_due limit (x ∷ xs) o e k d l = elim (leb_tells x.0 limit) [
  | inl a ↦ absurd (let f : due_by limit (Some x) ≡ Some x = simp a.0 refl in cc (e, f))
  | inr a ↦ (let h = o 0 k d (omega arith) l in omega (arith, a.1, h))
]

-- behind all firings none is due
ends_undue : (pick : Pick) (most limit : ℕ) (o : Course) → limit ≤ time_limit → IsSound o.state → timer_count o ≤ most
    → due_by limit (earliest (fired_by pick most limit o).state) ≡ None
unfolding fired_by
ends_undue pick zero limit o within sound few = nothing_due limit o.state.timers few
ends_undue pick (suc most) limit o within sound few = by_found (due_by limit (earliest o.state))
    (λ none. subst (λ (p : Course). due_by limit (earliest p.state) ≡ None) (sym (ap (goes pick most limit o) none)) none)
    (λ entry is. let fewer = fired_fewer pick limit o entry sound is in
    subst (λ (p : Course). due_by limit (earliest p.state) ≡ None) (sym (ap (goes pick most limit o) is))
    (ends_undue pick most limit (fired pick o entry) within (sound_fired pick limit o entry within sound is) (omega (arith, few, fewer))))

pub none_left : (pick : Pick) (limit : ℕ) (o : Course) → limit ≤ time_limit → IsSound o.state → due_by limit (earliest (all_fired pick limit o).state) ≡ None
unfolding all_fired
none_left pick limit o within sound = ends_undue pick (timer_count o) limit o within sound (omega arith)

pub all_later : (pick : Pick) (limit : ℕ) (o : Course) → limit ≤ time_limit → IsSound o.state
    → All (λ entry. limit ≤ entry.0) (all_fired pick limit o).state.timers
all_later pick limit o within sound =
    none_due limit (all_fired pick limit o).state.timers (sound_all_fired pick limit o within sound).timers.order (none_left pick limit o within sound)

-- the state is sound before time passes to its end, and behind that
pub sound_before_end : (pick : Pick) (limit : ℕ) (o : Course) → limit ≤ time_limit → IsSound o.state
    → IsSound (all_fired pick limit o).state × IsSound (with_time (all_fired pick limit o).state limit)
sound_before_end pick limit o within sound =
    let before = sound_all_fired pick limit o within sound in
    (before, sound_at (all_fired pick limit o).state limit within before (all_later pick limit o within sound))
