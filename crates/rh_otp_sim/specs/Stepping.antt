-- A step (ours: what a rehearsal is).
use Rattle.std.specs.Prelude.{ℕ, List, [], Bool, Option, Some, None, slice_set, if◌then◌else◌}
use Rattle.rh_model.specs.ClusterView.{node_count}
use Rattle.rh_history.specs.HistoryView.{committed}
use Rattle.rh_rules.specs.declared.event.Event.{Event}
use Rattle.rh_rules.specs.declared.refusal.Refusal.{Refusal}
use Rattle.rh_otp_system.specs.declared.cell.Cell.{Cell}
use Rattle.rh_otp_system.specs.declared.cell.Cell.TheVariants as cell
use Rattle.rh_otp_system.specs.Views.{NetView}
use Rattle.rh_otp_system.specs.Resting.{forgotten, rested}
use Rattle.rh_otp_system.specs.State.{SystemView, system_of, net_of}
use Rattle.rh_otp_sim.specs.Views.{HappenedView}
use Rattle.rh_otp_sim.specs.declared.stepping.Outcome.{Outcome}
use Rattle.rh_otp_sim.specs.declared.stepping.Outcome.TheVariants as outcome
use Rattle.rh_otp_sim.specs.Acting.{waits_for_end, acted, is_acted}
use Rattle.rh_otp_sim.specs.Refusing.{refused}
use Rattle.rh_otp_sim.specs.Sim.{LiveSimView, net_in}
use Rattle.rh_otp_sim.specs.Telling.{answer_of, lines_of}
use Rattle.rh_otp_sim.specs.Waiting.{WaitingView, events_asked, calls_asked, still_told}

-- the system in which a command begins
abbrev pub begun : NetView → Event → LiveSimView → SystemView
begun net e sim = forgotten (system_of sim.cluster sim.files sim.history.now net (waits_for_end e))

-- it is carried out, and over
abbrev pub run : Event → LiveSimView → SystemView → SystemView
run e sim s = rested (acted e sim s)

abbrev pub is_quiet : Event → LiveSimView → SystemView → Bool
is_quiet e sim s = is_acted e sim s

-- the lines of what has happened, before it is asked who waits
abbrev pub waiting_first : NetView → SystemView → WaitingView
waiting_first net s = record { told = still_told s.events net.told; asked = []; lines = lines_of s.events s.calls net.last_call }

-- what is told of a command, and who was told to wait, where this was between the nodes before it
abbrev pub waiting_of : NetView → SystemView → WaitingView
waiting_of net s = calls_asked s s.events net.last_call s.calls (events_asked s s.events s.events (waiting_first net s))

-- what has happened
abbrev pub happened : NetView → SystemView → HappenedView
happened net s = record { answer = answer_of net.last_call s.calls; lines = (waiting_of net s).lines }

-- what is between the nodes behind a command
abbrev pub net_behind : NetView → SystemView → NetView
net_behind net s = record (net_of s) { told = (waiting_of net s).told }

-- the cells behind it
abbrev pub cells_behind : NetView → ℕ → SystemView → List Cell
cells_behind net place s = slice_set s.nodes.cells place (cell.Net (net_behind net s))

-- the system behind an event that isn't refused, where this was between the nodes before it
abbrev pub system_with : NetView → Event → LiveSimView → SystemView
system_with net e sim = run e sim (begun net e sim)

-- does it come to an end?
abbrev pub ends_with : NetView → Event → LiveSimView → Bool
ends_with net e sim = is_quiet e sim (begun net e sim)

-- what it comes to
abbrev pub outcome_with : NetView → Event → LiveSimView → Outcome
outcome_with net e sim = if ends_with net e sim then outcome.Done (happened net (system_with net e sim)) else outcome.Endless

-- a step is made: one more that can be undone
abbrev pub with_step : List Cell → LiveSimView → LiveSimView
with_step cells sim = record sim { history = committed (record sim.history { now = cells }) }

-- the simulation behind it; an event that has no end changes nothing
abbrev pub stepped_with : NetView → Event → LiveSimView → LiveSimView
stepped_with net e sim =
    if ends_with net e sim then with_step (cells_behind net (node_count sim.cluster) (system_with net e sim)) sim else sim

abbrev pub outcome_if : Option Refusal → NetView → Event → LiveSimView → Outcome
outcome_if (Some why) net e sim = outcome.Refused why
outcome_if None net e sim = outcome_with net e sim

-- what a step comes to
abbrev pub outcome_of : Event → LiveSimView → Outcome
outcome_of e sim = outcome_if (refused (net_in sim).clock (net_in sim).last_call e sim) (net_in sim) e sim

abbrev pub stepped_if : Option Refusal → NetView → Event → LiveSimView → LiveSimView
stepped_if (Some why) net e sim = sim
stepped_if None net e sim = stepped_with net e sim

-- the simulation behind a step; one that is refused changes nothing
abbrev pub stepped : Event → LiveSimView → LiveSimView
stepped e sim = stepped_if (refused (net_in sim).clock (net_in sim).last_call e sim) (net_in sim) e sim
