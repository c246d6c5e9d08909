-- RULES, "Time": the timers that are due fire one after the other, each followed by the ready nodes coming up and the applications
-- settling (kernel(6), sync_nodes_timeout, distributed; ours for the order of timers).
use Rattle.std.specs.Prelude.{ℕ, Option, Some, None, nat_le, zero, suc, length, if◌then◌else◌, [], ◌+◌}
use Rattle.rh_rules.specs.Prelude.{mandatory_of, with_time, without_due, standing_of, earliest, Timer, Sync, Failover, Pick}
use Rattle.rh_rules.specs.Course.{Course, now_in, course_of}
use Rattle.rh_rules.specs.NodesStart.{all_alive, come_up, ready_come_up}
use Rattle.rh_rules.specs.Settling.{settled}
use Rattle.rh_rules.specs.NodesEnd.{ended, wanted_if_lost}

-- the timer that fires next, if it is due by the limit
abbrev pub due_by : ℕ → Option (ℕ × Timer) → Option (ℕ × Timer)
due_by limit None = None
due_by limit (Some entry) = if nat_le entry.0 limit then Some entry else None

-- what a timer does: at the end of its wait a node comes up if its mandatory nodes are alive, and else it ends
abbrev pub effect : Course → Timer → Course
effect o (Sync n) = if all_alive o.state (mandatory_of o.state.cluster n) then come_up o n else ended o n
effect o (Failover a) = now_in o (wanted_if_lost o.state a (standing_of o.state a))

-- the timer is taken off, it is as late as it was due, and no pair is fresh any longer
abbrev pub taken_off : Course → ℕ × Timer → Course
taken_off o entry = course_of (with_time (without_due o.state entry.1) entry.0) o.notices []

-- a timer fires
unfoldable pub fired : Pick → Course → ℕ × Timer → Course
fired pick o entry = settled pick (ready_come_up (effect (taken_off o entry) entry.1))

-- the timers that are due by the limit fire, at most so many; each time it is the first of those that are set then
abbrev pub go_on : Course → Option (ℕ × Timer) → (ℕ × Timer → Course) → Course
go_on o None rest = o
go_on o (Some entry) rest = rest entry

-- (the bound is there since a definition has to end by itself)
unfoldable pub fired_by : Pick → ℕ → ℕ → Course → Course
fired_by pick zero limit o = o
fired_by pick (suc most) limit o = go_on o (due_by limit (earliest o.state)) (λ entry. fired_by pick most limit (fired pick o entry))

-- all of them: a timer that fires sets no other, so there are at most as many as are set
unfoldable pub all_fired : Pick → ℕ → Course → Course
all_fired pick limit o = fired_by pick (length o.state.timers) limit o

-- so many milliseconds pass
unfoldable pub ticked : Pick → Course → ℕ → Course
ticked pick o ms = let p = all_fired pick (o.state.time + ms) o in now_in p (with_time p.state (o.state.time + ms))
