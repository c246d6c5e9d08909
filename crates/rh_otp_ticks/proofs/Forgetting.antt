-- Live nodes of which no answers to one another are counted yet: they are at rest where they were, and the same comes of their timers.
use Rattle.std.proofs.Common.{◌≡◌, ℕ, [], sym, ap, ◌∙◌}
use Rattle.rh_otp_system.specs.Doing.{fired_next}
use Rattle.rh_otp_system.specs.Moves.{IsSettled}
use Rattle.rh_otp_system.specs.State.{SystemView}
use Rattle.rh_otp_laws.specs.Acting as acting
use Rattle.rh_otp_laws.specs.Acting.{IsReached, later}
use Rattle.rh_otp_laws.proofs.Time.{due_fire}
use Rattle.rh_otp_crashes.specs.Crashes.{AreAtRest}
use Rattle.rh_otp_ticks.specs.Moments.{fired_at}
use Rattle.rh_otp_ticks.proofs.Timely.{settled_in_time}

abbrev pub forgetting : SystemView → SystemView
forgetting s = record s { answers = [] }

pub forgets_first : (due : ℕ) (s : SystemView) → fired_next due (forgetting s) ≡ fired_at due s
forgets_first due s = due_fire (forgetting s) due ∙ sym (ap forgetting (due_fire s due))

pub forgets : (s : SystemView) → IsSettled s → IsSettled (forgetting s)
forgets s at = settled_in_time s.clock s.timers [] s at

pub rest_still : (s : SystemView) → AreAtRest s → AreAtRest (forgetting s)
rest_still s rest = record { settled = forgets s rest.settled; calls = rest.calls; dists = rest.dists }

pub forgotten_reached : (s : SystemView) → IsReached s → IsReached (forgetting s)
forgotten_reached s reached = later s (forgetting s) reached (acting.settles s)
