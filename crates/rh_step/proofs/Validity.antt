-- An event that isn't refused leads from a valid state to one.
use Rattle.std.proofs.Common.{◌≡◌, [], None}
use Rattle.rh_state.specs.StateView.{StateView}
use Rattle.rh_rules.specs.declared.pick.Pick.{Pick}
use Rattle.rh_rules.specs.Course.{Course, course_of}
use Rattle.rh_trace.specs.Validity.{IsSound, IsValid}
use Rattle.rh_rules.specs.declared.event.Event.{Event}
use Rattle.rh_rules.specs.declared.event.Event.TheVariants.{Tick}
use Rattle.rh_rules.specs.Steps.{change, followed, next}
use Rattle.rh_rules.specs.Refusals.{refused}
use Rattle.rh_refusals.proofs.Accepted.{accepted_tick}
use Rattle.rh_events.proofs.EachEvent.{sound_changed}
use Rattle.rh_step.proofs.TickedValid.{comes_valid, ticked_valid}

-- behind an event that isn't refused the ready nodes come up and the applications settle
pub followed_valid : (pick : Pick) (o : Course) (e : Event) → IsSound o.state → refused o.state e ≡ None → IsValid (followed pick o e).state
unfolding followed
followed_valid pick o e sound fine = comes_valid pick (change o e) (sound_changed o e sound fine)

-- so in all, or by the firings of a tick
pub next_valid : (s : StateView) (e : Event) (pick : Pick) → IsValid s → refused s e ≡ None → IsValid (next s e pick).state
unfolding next
next_valid s (Tick ms) pick valid fine = ticked_valid pick s ms (accepted_tick s ms fine).limit valid
next_valid s e pick valid fine = followed_valid pick (course_of s [] []) e valid.sound fine
