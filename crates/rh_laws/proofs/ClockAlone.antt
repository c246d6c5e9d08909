-- While no timer is due, a tick moves the clock alone.
use Rattle.std.proofs.Common.{◌+◌, ℕ, [], ap}
use Rattle.rh_state.specs.Setters.{with_time}
use Rattle.rh_rules.specs.Course.{Course, course_of}
use Rattle.rh_rules.specs.Steps.{outcome, next}
use Rattle.rh_rules.specs.Time.{ticked}
use Rattle.rh_step.proofs.Fuel.{due_later, all_fired_end}
use Rattle.rh_laws.specs.Laws.{OnlyTheClockMoves}

pub only_the_clock_moves : OnlyTheClockMoves
unfolding next ticked
only_the_clock_moves s ms pick later =
    let limit : ℕ = s.time + ms in
    ap (λ (p : Course). outcome (with_time p.state limit) p.notices) (all_fired_end pick limit (course_of s [] []) (due_later limit s.timers later))
