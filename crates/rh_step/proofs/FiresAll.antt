-- The timers that are due fire one after the other, as they may.
use Rattle.std.proofs.Common.{◌≡◌, ℕ, zero, suc, ◌≤◌, Some, sym, ap, subst, arith}
use Rattle.rh_state.specs.declared.status.Timer.{Timer}
use Rattle.rh_state.specs.Limits.{time_limit}
use Rattle.rh_state.specs.StateView.{earliest}
use Rattle.rh_rules.specs.declared.pick.Pick.{Pick}
use Rattle.rh_rules.specs.Course.{Course}
use Rattle.rh_trace.specs.Validity.{IsSound}
use Rattle.rh_rules.specs.Time.{due_by, effect, taken_off, fired, fired_by, all_fired}
use Rattle.rh_rules.specs.Steps.{ComesOf, Fires, none_due, one_due}
use Rattle.rh_step.proofs.Comes.{comes_of}
use Rattle.rh_step.proofs.TakenOff.{sound_effect}
use Rattle.rh_step.proofs.Fuel.{timer_count, goes, by_found, nothing_due, due_is_first, due_in_time, fired_fewer, sound_fired}

fired_comes : (pick : Pick) (limit : ℕ) (o : Course) (entry : ℕ × Timer) → limit ≤ time_limit → IsSound o.state → due_by limit (earliest o.state) ≡ Some entry
    → ComesOf (effect (taken_off o entry) entry.1) (fired pick o entry)
unfolding fired
fired_comes pick limit o entry within sound is =
    comes_of pick (effect (taken_off o entry) entry.1)
    (sound_effect o entry (due_in_time limit o.state entry within is) sound (due_is_first limit o.state entry is))

fires_by : (pick : Pick) (k limit : ℕ) (o : Course) → limit ≤ time_limit → IsSound o.state → timer_count o ≤ k → Fires limit o (fired_by pick k limit o)
unfolding fired_by
fires_by pick zero limit o within sound few = none_due o (nothing_due limit o.state.timers few)
fires_by pick (suc k) limit o within sound few = by_found (due_by limit (earliest o.state))
    (λ none. subst (λ (p : Course). Fires limit o p) (sym (ap (goes pick k limit o) none)) (none_due o none))
    (λ entry is. let fewer = fired_fewer pick limit o entry sound is in
    subst (λ (p : Course). Fires limit o p) (sym (ap (goes pick k limit o) is))
    (one_due entry o (fired pick o entry) (fired_by pick k limit (fired pick o entry)) is (fired_comes pick limit o entry within sound is)
    (fires_by pick k limit (fired pick o entry) within (sound_fired pick limit o entry within sound is) (omega (arith, few, fewer)))))

pub all_fire : (pick : Pick) (limit : ℕ) (o : Course) → limit ≤ time_limit → IsSound o.state → Fires limit o (all_fired pick limit o)
unfolding all_fired
all_fire pick limit o within sound = fires_by pick (timer_count o) limit o within sound (omega arith)
