-- A command is over, and the next begins.
use Rattle.std.specs.Prelude.{List, ◌++◌, ◌+◌, ◌-◌, ◌^◌, min, not, filter, map, Bool, false, Option, Some, None}
use Rattle.rh_model.specs.declared.node.Node.{Node}
use Rattle.rh_otp_model.specs.declared.output.Requester.TheVariants.{Sync, Alone}
use Rattle.rh_otp_model.specs.declared.process.Process.{Process}
use Rattle.rh_otp_model.specs.declared.process.Role.TheVariants as role
use Rattle.rh_otp_net.specs.Locks.{is_free}
use Rattle.rh_otp_system.specs.declared.calls.Call.{Call}
use Rattle.rh_otp_system.specs.declared.calls.Stage.{Stage}
use Rattle.rh_otp_system.specs.declared.calls.Stage.TheVariants as stage
use Rattle.rh_otp_system.specs.Calls.{process_of, is_done}
use Rattle.rh_otp_system.specs.Ending.{ended}
use Rattle.rh_otp_system.specs.State.{SystemView, node_at, process_in}
use Rattle.rh_otp_system.specs.Working.{lock_in}

abbrev pub held_back_at : Option (List Node) → SystemView → Bool
held_back_at None s = false
held_back_at (Some nodes) s = not (is_free Sync nodes s.locks)

-- does the node's dist_ac wait for a lock that somebody holds?
abbrev pub held_back : Node → SystemView → Bool
held_back n s = held_back_at (lock_in (node_at s n).dist) s

-- those of these nodes' dist_acs that sleep now
abbrev pub sleeping_dists : List Node → SystemView → List Process
sleeping_dists nodes s = map (λ n. process_in s n role.DistAc) (filter (λ n. held_back n s) nodes)

abbrev pub call_held_back_in : Stage → Call → SystemView → Bool
call_held_back_in (stage.Lock nodes) call s = not (is_free (Alone (process_of call)) nodes s.locks)
call_held_back_in w call s = false

-- does the call wait for a lock that somebody holds?
abbrev pub call_held_back : Call → SystemView → Bool
call_held_back call s = call_held_back_in call.stage call s

-- those of these calls that sleep now
abbrev pub sleeping_calls : List Call → SystemView → List Process
sleeping_calls calls s = map process_of (filter (λ call. call_held_back call s) calls)

-- A command is over: who waits for a lock that isn't free sleeps on when it becomes free, up to the next command, or until time passes
-- (global:random_sleep/1, which lets them sleep up to 8 seconds).
unfoldable pub rested : SystemView → SystemView
rested s = record s { asleep = sleeping_dists s.alive s ++ sleeping_calls s.calls s }

-- those of these calls that weren't answered
abbrev pub open_of : List Call → List Call
open_of calls = filter (λ (call : Call). not (is_done call.stage)) calls

-- a command begins: calls that were answered are forgotten, and it has the next number
unfoldable pub forgotten : SystemView → SystemView
forgotten s = record s { calls = open_of s.calls; step = min (s.step + 1) (2 ^ 64 - 1) }

-- a node ends at once
abbrev pub crashed : Node → SystemView → SystemView
crashed n s = ended n s
