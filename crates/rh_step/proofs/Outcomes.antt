-- The outcome that is taken is one that the rules allow.
use Rattle.std.proofs.Common.{◌≡◌, ◌≤◌, ◌+◌, ℕ, [], None, refl}
use Rattle.rh_state.specs.Limits.{time_limit}
use Rattle.rh_state.specs.StateView.{StateView}
use Rattle.rh_rules.specs.declared.pick.Pick.{Pick}
use Rattle.rh_rules.specs.Course.{course_of}
use Rattle.rh_trace.specs.Validity.{IsSound, IsValid}
use Rattle.rh_rules.specs.declared.event.Event.{Event}
use Rattle.rh_rules.specs.declared.event.Event.TheVariants.{Tick}
use Rattle.rh_rules.specs.Steps.{change, followed, outcome_of, next, Happens, Passes, Follows, Allowed}
use Rattle.rh_rules.specs.Refusals.{refused}
use Rattle.rh_rules.specs.Time.{all_fired, ticked}
use Rattle.rh_refusals.proofs.Accepted.{accepted_tick}
use Rattle.rh_events.proofs.EachEvent.{sound_changed}
use Rattle.rh_step.proofs.Comes.{comes_of}
use Rattle.rh_step.proofs.FiresAll.{all_fire}

happens : (s : StateView) (e : Event) (pick : Pick) → IsSound s → refused s e ≡ None → Happens s e (outcome_of (followed pick (course_of s [] []) e))
unfolding followed
happens s e pick sound fine = record {
  last = followed pick (course_of s [] []) e;
  comes = comes_of pick (change (course_of s [] []) e) (sound_changed (course_of s [] []) e sound fine);
  end = refl;
}

passes : (s : StateView) (ms : ℕ) (pick : Pick) → s.time + ms ≤ time_limit → IsSound s → Passes s ms (outcome_of (ticked pick (course_of s [] []) ms))
unfolding ticked
passes s ms pick within sound = record {
  before = all_fired pick (s.time + ms) (course_of s [] []);
  fires = all_fire pick (s.time + ms) (course_of s [] []) within sound;
  end = refl;
}

follows : (s : StateView) (e : Event) (pick : Pick) → IsSound s → refused s e ≡ None → Follows s e (next s e pick)
unfolding next
follows s (Tick ms) pick sound fine = passes s ms pick (accepted_tick s ms fine).limit sound
follows s e pick sound fine = happens s e pick sound fine

pub next_allowed : (s : StateView) (e : Event) (pick : Pick) → IsValid s → refused s e ≡ None → Allowed s e (next s e pick)
next_allowed s e pick valid fine = record { accepted = fine; outcome = follows s e pick valid.sound fine }
