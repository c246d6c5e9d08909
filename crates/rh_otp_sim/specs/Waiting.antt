-- Who is told to wait (ours: in the words of a rehearsal on real nodes).
use Rattle.std.specs.Prelude.{ℕ, nat_lt, List, [], ◌∷◌, ◌++◌, ◌==◌, ◌&&◌, ◌||◌, not, filter, Bool, true, false, Option, Some, None, if◌then◌else◌}
use Rattle.std.specs.List.{list_any}
use Rattle.rh_model.specs.ClusterView.{boot_of}
use Rattle.rh_model.specs.declared.node.App.{App}
use Rattle.rh_model.specs.declared.node.Node.{Node}
use Rattle.rh_model.specs.declared.settings.Restart.{Restart}
use Rattle.rh_otp_controller.specs.declared.state.Place.{Place}
use Rattle.rh_otp_controller.specs.declared.state.Place.TheVariants as place
use Rattle.rh_otp_controller.specs.State.{ControllerView}
use Rattle.rh_otp_model.specs.declared.output.Event.{Event}
use Rattle.rh_otp_model.specs.declared.output.Event.TheVariants as event
use Rattle.rh_otp_model.specs.Rows.{keyfind, has_row}
use Rattle.rh_otp_node.specs.Live.{LiveView, is_alive}
use Rattle.rh_otp_system.specs.declared.calls.Call.{Call}
use Rattle.rh_otp_system.specs.State.{SystemView, live_at}
use Rattle.rh_otp_sim.specs.declared.lines.Line.{Line}
use Rattle.rh_otp_sim.specs.declared.lines.Line.TheVariants as line
use Rattle.rh_otp_sim.specs.declared.verdict.Verdict.{Verdict}
use Rattle.rh_otp_sim.specs.Verdicts.{is_start, is_done}
use Rattle.rh_otp_sim.specs.Telling.{verdict_in, has_ended}

-- of which applications an observer was told that they wait at a node, which were asked for at this command, and the lines so far
pub record WaitingView : Type 0 where
  pub told : List (App × Node)
  pub asked : List (App × Node)
  pub lines : List Line

-- has the application ended by itself, and stands nowhere?
abbrev pub has_ended_by_itself : App → ControllerView → Bool
has_ended_by_itself a k = has_row a k.started && not (has_row a k.running) && list_any (λ (b : App). b.0 == a.0) k.ended

-- is the application started there, or was it while it was forbidden?
abbrev pub is_started : App → ControllerView → Bool
is_started a k = not (has_ended_by_itself a k) && (has_row a k.started || has_row a k.start_p_false)

abbrev pub is_here : Option Place → Bool
is_here (Some place.Here) = true
is_here p = false

-- The line of an application that is asked for at a node, if it has one: it runs elsewhere or nowhere, or its start hasn't ended where
-- the node has just come up.
abbrev pub line_at : LiveView → App → Node → Bool → Option Line
line_at v a n is_up_now =
    if is_here (keyfind a v.controller.running) then None
    else if is_started a v.controller then Some (line.Waits a n)
    else if has_row a v.controller.starting && is_up_now then Some (line.Pending a n)
    else None

-- is the row among these?
abbrev pub is_there : App → Node → List (App × Node) → Bool
is_there a n rows = list_any (λ row. row.0.0 == a.0 && row.1.0 == n.0) rows

abbrev pub is_up_event : Node → Event → Bool
is_up_event n (event.Up m) = m.0 == n.0
is_up_event n e = false

-- did it come up at this command?
abbrev pub is_up_now : Node → List Event → Bool
is_up_now n events = list_any (is_up_event n) events

-- an observer is told that it waits, once
abbrev pub told_if : Line → WaitingView → WaitingView
told_if (line.Waits a n) w = if not (is_there a n w.told) then record w { told = w.told ++ (a, n) ∷ [] } else w
told_if l w = w

-- a line more, if there is one
abbrev pub with_line : Option Line → WaitingView → WaitingView
with_line None w = w
with_line (Some l) w = told_if l (record w { lines = w.lines ++ l ∷ [] })

-- an application is asked for at a node that is alive, if that wasn't done
abbrev pub asked_at : LiveView → List Event → App → Node → WaitingView → WaitingView
asked_at v events a n w =
    if not (is_alive v) || is_there a n w.asked then w
    else with_line (line_at v a n (is_up_now n events)) (record w { asked = w.asked ++ (a, n) ∷ [] })

abbrev pub asked_if : Option LiveView → List Event → App → Node → WaitingView → WaitingView
asked_if None events a n w = w
asked_if (Some v) events a n w = asked_at v events a n w

-- an application is asked for at a node
abbrev pub asked : SystemView → List Event → App → Node → WaitingView → WaitingView
asked s events a n w = asked_if (live_at s n) events a n w

-- all of these are, of which an observer wasn't told yet
abbrev pub entries_asked : SystemView → List Event → List (App × Restart) → Node → WaitingView → WaitingView
entries_asked s events [] n w = w
entries_asked s events (entry ∷ entries) n w =
    entries_asked s events entries n (if not (is_there entry.0 n w.told) then asked s events entry.0 n w else w)

-- what a node boots is asked for when its wait is over, and at the end of its boot list
abbrev pub boot_asked : SystemView → List Event → Node → WaitingView → WaitingView
boot_asked s events n w = entries_asked s events (boot_of s.cluster n) n w

abbrev pub event_asked : SystemView → List Event → Event → WaitingView → WaitingView
event_asked s events (event.Up n) w = boot_asked s events n w
event_asked s events (event.Booted n) w = boot_asked s events n w
event_asked s events e w = w

-- by all of these events
abbrev pub events_asked : SystemView → List Event → List Event → WaitingView → WaitingView
events_asked s events [] w = w
events_asked s events (e ∷ others) w = events_asked s events others (event_asked s events e w)

-- was it answered, with no error?
abbrev pub is_well : Option Verdict → Bool
is_well (Some verdict) = is_done verdict
is_well None = false

-- what was started by hand, with no error
abbrev pub call_asked : SystemView → List Event → Call → WaitingView → WaitingView
call_asked s events call w = if is_start call.ask && is_well (verdict_in call) then asked s events call.app call.node w else w

-- by the calls behind the one of this number
abbrev pub calls_asked : SystemView → List Event → ℕ → List Call → WaitingView → WaitingView
calls_asked s events before [] w = w
calls_asked s events before (call ∷ calls) w =
    calls_asked s events before calls (if nat_lt before call.number then call_asked s events call w else w)

-- of nodes that have ended nothing is told any more
abbrev pub still_told : List Event → List (App × Node) → List (App × Node)
still_told events told = filter (λ row. not (has_ended row.1 events)) told
