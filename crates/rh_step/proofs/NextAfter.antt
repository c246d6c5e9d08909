-- Earlier notices don't matter to an event.
use Rattle.std.proofs.Common.{◌≡◌, List, [], sym, ap, ◌∙◌, append-nil}
use Rattle.rh_state.specs.StateView.{StateView}
use Rattle.rh_rules.specs.declared.pick.Pick.{Pick}
use Rattle.rh_rules.specs.declared.notice.Notice.{Notice}
use Rattle.rh_rules.specs.Course.{Course, course_of}
use Rattle.rh_rules.specs.Settling.{settled}
use Rattle.rh_rules.specs.declared.event.Event.{Event}
use Rattle.rh_rules.specs.declared.event.Event.TheVariants.{Tick}
use Rattle.rh_rules.specs.NodesStart.{ready_come_up}
use Rattle.rh_rules.specs.Steps.{change, followed, next_from}
use Rattle.rh_trace.proofs.Behind.{after_notices, settled_after}
use Rattle.rh_events.proofs.EachEvent.{change_after}
use Rattle.rh_events.proofs.Notices.{ready_come_up_after}
use Rattle.rh_step.proofs.TickLaws.{ticked_after}

pub followed_after : (base : List Notice) (pick : Pick) (o : Course) (e : Event)
    → followed pick (after_notices base o) e ≡ after_notices base (followed pick o e)
unfolding followed
followed_after base pick o e =
    ap (λ p. settled pick (ready_come_up p)) (change_after base o e)
    ∙ ap (settled pick) (ready_come_up_after base (change o e))
    ∙ settled_after base pick (ready_come_up (change o e))

pub next_from_after : (base : List Notice) (o : Course) (e : Event) (pick : Pick)
    → next_from (after_notices base o) e pick ≡ after_notices base (next_from o e pick)
next_from_after base o (Tick ms) pick = ticked_after base pick o ms
next_from_after base o e pick = followed_after base pick o e

pub next_after : (s : StateView) (base : List Notice) (e : Event) (pick : Pick)
    → next_from (course_of s base []) e pick ≡ after_notices base (next_from (course_of s [] []) e pick)
next_after s base e pick =
    ap (λ (told : List Notice). next_from (course_of s told []) e pick) (sym (append-nil base)) ∙ next_from_after base (course_of s [] []) e pick
