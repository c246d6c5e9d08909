-- Where a step has a live OTP look for the node that is to run a distributed application: at each node that starts it, to which it
-- fails over, or that permits it (application(3), start/2, permit/2; Distributed Applications, Failover).
use Rattle.std.specs.Prelude.{Bool, true, false, not, Option, Some, None, ◌&&◌, ◌||◌, ◌==◌, if◌then◌else◌}
use Rattle.rh_rules.specs.Prelude.{App, Node, same_node, same_app, StateView, waits_at, is_quiet, is_started, standing_of, Standing, Running, Lost}
use Rattle.rh_state.specs.declared.status.Timer.TheVariants.{Failover}
use Rattle.rh_rules.specs.declared.event.Event.{Event}
use Rattle.rh_rules.specs.declared.event.Event.TheVariants.{Tick, Permit}
use Rattle.rh_rules.specs.Course.{is_local}
use Rattle.rh_rules.specs.NodesEnd.{timeout_of}
use Rattle.rh_step_findings.specs.After.{fires_within, ends, is_up_after, starts_now}
use Rattle.rh_step_findings.specs.Candidates.{is_best, is_available}

-- where it runs, if it runs and its node doesn't end
abbrev pub runner_of : StateView → Event → Standing → Option Node
runner_of s e (Running m) = if ends s e m then None else Some m
runner_of s e _ = None

unfoldable pub runner : StateView → Event → App → Option Node
runner s e a = runner_of s e (standing_of s a)

-- its failover timer, set before the step, fires within it
abbrev pub times_out : StateView → Event → App → Bool
times_out s (Tick ms) a = fires_within s ms (Failover a)
times_out s _ a = false

-- it is lost without a timeout, or its time is over (kernel(6), distributed)
abbrev pub fails_from : StateView → Event → App → Standing → Bool
fails_from s e a (Running m) = ends s e m && (timeout_of s.cluster a == 0)
fails_from s e a (Lost m) = times_out s e a
fails_from s e a _ = false

unfoldable pub fails_over : StateView → Event → App → Bool
fails_over s e a = fails_from s e a (standing_of s a)

-- it fails over to the nodes that are up and hold it ready
unfoldable pub is_called : StateView → Event → Node → App → Bool
is_called s e n a = fails_over s e a && (is_started s n a && is_up_after s e n)

-- it is permitted at a node that holds it ready
unfoldable pub is_permitted_by : StateView → Event → Node → App → Bool
is_permitted_by s (Permit m b allow) n a = (same_node m n && same_app b a) && (allow && waits_at s n a)
is_permitted_by s _ n a = false

-- so a live OTP looks for its node there; of one that is quiet only where it is started
unfoldable pub tries : StateView → Event → Node → App → Bool
tries s e n a = not (is_local s.cluster a)
    && (starts_now s e n a || (is_called s e n a || (is_permitted_by s e n a && not (is_quiet (standing_of s a)))))

-- it stays where it runs: at a node of the best group
abbrev pub stays_from : StateView → Event → App → Option Node → Bool
stays_from s e a None = false
stays_from s e a (Some r) = is_best s e a r

unfoldable pub stays : StateView → Event → App → Bool
stays s e a = stays_from s e a (runner s e a)

-- it doesn't stay where it runs: it runs nowhere, or behind the best group, of which the node is one
abbrev pub is_open_from : StateView → Event → Node → App → Option Node → Bool
is_open_from s e n a None = true
is_open_from s e n a (Some r) = is_best s e a n && not (is_best s e a r)

-- a node that may run it waits for others
unfoldable pub asks_others : StateView → Event → Node → App → Bool
asks_others s e n a = tries s e n a && (is_available s e a n && is_open_from s e n a (runner s e a))
