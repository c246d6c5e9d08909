-- When time may pass, and how much (Distributed Applications; kernel(6), sync_nodes_timeout, distributed; ours for waiting).
use Rattle.std.specs.Prelude.{ℕ, ◌-◌, max, nat_lt, List, [], ◌∷◌, map, Option, Some, None, if◌then◌else◌}
use Rattle.std.specs.List.{flat_map}
use Rattle.std.specs.Option.{option_map}
use Rattle.rh_rules.specs.declared.event.Event.{Event}
use Rattle.rh_rules.specs.declared.event.Event.TheVariants.{Tick}
use Rattle.rh_explore.specs.declared.moves.Move.{Move}
use Rattle.rh_explore.specs.declared.moves.Move.TheVariants.{Make, Wait}
use Rattle.rh_otp_report.specs.Views.{NodeReportView, ReportView}
use Rattle.rh_otp_report.specs.declared.timers.NodeTimer.{NodeTimer}
use Rattle.rh_otp_report.specs.declared.timers.NodeTimer.TheVariants as timer

-- when a timer is due
abbrev pub due_of : NodeTimer → ℕ
due_of (timer.Sync due) = due
due_of (timer.Failover a due) = due

-- when those of a node are
abbrev pub dues_at : NodeReportView → List ℕ
dues_at r = map due_of r.timers

-- when all are that are told, node by node: also those that start nothing any more, since OTP never cancels them
abbrev pub dues_in : List NodeReportView → List ℕ
dues_in nodes = flat_map dues_at nodes

abbrev pub dues : ReportView → List ℕ
dues r = dues_in r.nodes

abbrev pub sooner : ℕ → Option ℕ → Option ℕ
sooner due None = Some due
sooner due (Some other) = if nat_lt due other then Some due else Some other

-- the first of them
abbrev pub earliest : List ℕ → Option ℕ
earliest [] = None
earliest (due ∷ others) = sooner due (earliest others)

-- how long it takes from a time until then: a millisecond is the shortest tick
abbrev pub ms_to : ℕ → ℕ → ℕ
ms_to now due = max 1 (due - now)

abbrev pub tick_to : ℕ → ℕ → Event
tick_to now due = Tick (ms_to now due)

-- to wait is a tick to the next timer that is told, if one is
abbrev pub wait_in : ReportView → Option Event
wait_in r = option_map (tick_to r.time) (earliest (dues r))

-- the event that a move is, if it is one
abbrev pub event_in : ReportView → Move → Option Event
event_in r (Make e) = Some e
event_in r Wait = wait_in r
