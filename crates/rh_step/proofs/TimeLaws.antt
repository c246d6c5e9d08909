-- Time never runs backwards.
use Rattle.std.proofs.Common.{◌≡◌, ◌≤◌, [], ◌∙◌, arith}
use Rattle.rh_state.specs.StateView.{StateView}
use Rattle.rh_rules.specs.declared.pick.Pick.{Pick}
use Rattle.rh_rules.specs.Course.{Course, course_of}
use Rattle.rh_rules.specs.declared.event.Event.{Event}
use Rattle.rh_rules.specs.declared.event.Event.TheVariants.{Tick}
use Rattle.rh_rules.specs.NodesStart.{ready_come_up}
use Rattle.rh_rules.specs.Steps.{change, followed, next}
use Rattle.rh_rules.specs.Time.{ticked}
use Rattle.rh_step.specs.Laws.{TimeGoesOn}
use Rattle.rh_events.proofs.EachEvent.{change_time}
use Rattle.rh_events.proofs.SoundComingUp.{ready_come_up_time}
use Rattle.rh_settle.proofs.Unchanged.{settled_time}

-- an event that is no tick takes no time
pub followed_time : (pick : Pick) (o : Course) (e : Event) → (followed pick o e).state.time ≡ o.state.time
unfolding followed
followed_time pick o e = settled_time pick (ready_come_up (change o e)) ∙ ready_come_up_time (change o e) ∙ change_time o e

at_once : (pick : Pick) (s : StateView) (e : Event) → s.time ≤ (followed pick (course_of s [] []) e).state.time
at_once pick s e = let same = followed_time pick (course_of s [] []) e in omega (arith, same)

pub time_goes_on : TimeGoesOn
unfolding next ticked
time_goes_on s (Tick ms) pick fine = omega arith
time_goes_on s e pick fine = at_once pick s e
