-- Messages and timers.
use Rattle.std.specs.Prelude.{ℕ, [], ◌∷◌, ◌++◌, ◌+◌, ◌==◌, ◌^◌, nat_lt, if◌then◌else◌}
use Rattle.rh_otp_model.specs.declared.message.Message.{Message}
use Rattle.rh_otp_model.specs.declared.output.Event.{Event}
use Rattle.rh_otp_model.specs.declared.output.Event.TheVariants as event
use Rattle.rh_otp_model.specs.declared.process.Process.{Process}
use Rattle.rh_otp_model.specs.declared.process.Role.TheVariants as role
use Rattle.rh_otp_node.specs.Live.{with_kind}
use Rattle.rh_otp_system.specs.State.{SystemView, node_at, with_node}

-- a message is on its way, behind all others
abbrev pub sent : Process → Process → Message → SystemView → SystemView
sent from to m s = record s { messages = s.messages ++ record { from = from; to = to; message = m } ∷ [] }

-- an observer keeps of which kind a start was
abbrev pub observed : Event → SystemView → SystemView
observed (event.Started a n kind) s = with_node n (with_kind a kind (node_at s n)) s
observed e s = s

abbrev pub with_event : Event → SystemView → SystemView
with_event e s = record s { events = s.events ++ e ∷ [] }

-- an observer sees this
unfoldable pub told : Event → SystemView → SystemView
told e s = with_event e (observed e s)

-- a timer is set: it fires at this time
abbrev pub with_timer : ℕ → Process → Message → SystemView → SystemView
with_timer due to m s = record s { timers = s.timers ++ record { due = due; step = s.step; to = to; message = m } ∷ [] }

-- erlang:send_after/3, in milliseconds. A time of 0 is over at once. `receive after` takes 4294967295 at most, and ends its process
-- above that: such a timer never fires, nor one behind the end of the clock.
unfoldable pub after : ℕ → Process → Message → SystemView → SystemView
after time to m s =
    if time == 0 then sent (record to { role = role.Timer }) to m s
    else if nat_lt 4294967295 time then s
    else if nat_lt (s.clock + time) (2 ^ 64) then with_timer (s.clock + time) to m s
    else s
