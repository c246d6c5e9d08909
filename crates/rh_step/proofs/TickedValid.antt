-- A state that a tick leads to is valid where the one before is.
use Rattle.std.proofs.Common.{◌≡◌, ◌≤◌, ◌+◌, ℕ, [], Some, refl, ◌∙◌}
use Rattle.rh_state.specs.declared.status.Timer.{Timer}
use Rattle.rh_state.specs.Limits.{time_limit}
use Rattle.rh_state.specs.StateView.{StateView, earliest}
use Rattle.rh_state.specs.Setters.{with_time}
use Rattle.rh_rules.specs.declared.pick.Pick.{Pick}
use Rattle.rh_rules.specs.Course.{Course, course_of, fresh_of}
use Rattle.rh_rules.specs.Settling.{settled}
use Rattle.rh_trace.specs.Validity.{IsSound, IsValid}
use Rattle.rh_rules.specs.NodesStart.{ready_come_up}
use Rattle.rh_rules.specs.Time.{due_by, effect, taken_off, fired, all_fired, ticked}
use Rattle.rh_trace.proofs.NextFirsts.{still_if_none_enabled}
use Rattle.rh_settle.proofs.Still.{settled_sound, settled_still, still_afterwards}
use Rattle.rh_settle.proofs.Unchanged.{settled_cluster, settled_modes}
use Rattle.rh_events.proofs.SoundComingUp.{sound_ready_come_up}
use Rattle.rh_events.proofs.NoneReady.{none_ready}
use Rattle.rh_step.proofs.TakenOff.{sound_at, sound_effect}
use Rattle.rh_step.proofs.Fuel.{timer_count, by_firing, due_is_first, due_in_time}
use Rattle.rh_step.proofs.FiredSound.{all_later}
use Rattle.rh_step.proofs.AnyTime.{ready_alike, moves_alike}

-- where ready nodes come up and applications settle, a sound state becomes a valid one
pub comes_valid : (pick : Pick) (o : Course) → IsSound o.state → IsValid (settled pick (ready_come_up o)).state
comes_valid pick o sound =
    let risen = sound_ready_come_up o sound in
    record {
      sound = settled_sound pick (ready_come_up o) risen;
      settled = λ n. ready_alike (ready_come_up o).state (settled pick (ready_come_up o)).state n (settled_cluster pick (ready_come_up o))
          (settled_modes pick (ready_come_up o)) ∙ none_ready o n sound.shaped.modes;
      still = still_afterwards (settled pick (ready_come_up o)).state (fresh_of (ready_come_up o)) (settled_still pick (ready_come_up o) risen.shaped);
    }

-- so behind a firing
pub fired_valid : (pick : Pick) (limit : ℕ) (o : Course) (entry : ℕ × Timer) → limit ≤ time_limit → IsValid o.state → due_by limit (earliest o.state) ≡ Some entry
    → IsValid (fired pick o entry).state
unfolding fired
fired_valid pick limit o entry within valid is =
    comes_valid pick (effect (taken_off o entry) entry.1)
    (sound_effect o entry (due_in_time limit o.state entry within is) valid.sound (due_is_first limit o.state entry is))

pub all_fired_valid : (pick : Pick) (limit : ℕ) (o : Course) → limit ≤ time_limit → IsValid o.state → IsValid (all_fired pick limit o).state
unfolding all_fired
all_fired_valid pick limit o within valid = by_firing (λ p. IsValid p.state) pick limit (λ p entry h is. fired_valid pick limit p entry within h is)
    (timer_count o) o valid

-- time that passes to where no timer is due before it changes nothing else
valid_at : (s : StateView) (time : ℕ) → IsValid s → IsSound (with_time s time) → IsValid (with_time s time)
valid_at s time valid sound = record {
  sound = sound;
  settled = λ n. ready_alike s (with_time s time) n refl refl ∙ valid.settled n;
  still = (still_if_none_enabled (with_time s time) []).0 (moves_alike s time [] ∙ (still_if_none_enabled s []).1 valid.still);
}

pub ticked_valid_from : (pick : Pick) (o : Course) (ms : ℕ) → o.state.time + ms ≤ time_limit → IsValid o.state → IsValid (ticked pick o ms).state
unfolding ticked
ticked_valid_from pick o ms within valid =
    let before = all_fired_valid pick (o.state.time + ms) o within valid in
    valid_at (all_fired pick (o.state.time + ms) o).state (o.state.time + ms) before
    (sound_at (all_fired pick (o.state.time + ms) o).state (o.state.time + ms) within before.sound (all_later pick (o.state.time + ms) o within valid.sound))

pub ticked_valid : (pick : Pick) (s : StateView) (ms : ℕ) → s.time + ms ≤ time_limit → IsValid s → IsValid (ticked pick (course_of s [] []) ms).state
ticked_valid pick s ms within valid = ticked_valid_from pick (course_of s [] []) ms within valid
