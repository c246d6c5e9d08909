-- Which events may come on live nodes, and what comes of them (ours).
use Rattle.std.specs.Prelude.{ℕ, nat_le, List, count_by, Bool, true, false, not, ◌&&◌, Option, Some, None}
use Rattle.rh_rules.specs.declared.event.Event.{Event}
use Rattle.rh_otp_node.specs.Live.{is_phase_up}
use Rattle.rh_otp_report.specs.Report.{report_of}
use Rattle.rh_otp_report.specs.Views.{NodeReportView}
use Rattle.rh_otp_sim.specs.declared.stepping.Outcome.{Outcome}
use Rattle.rh_otp_sim.specs.declared.stepping.Outcome.TheVariants as outcome
use Rattle.rh_otp_sim.specs.Sim.{LiveSimView, without_past}
use Rattle.rh_otp_sim.specs.Stepping.{stepped, outcome_of}

-- the live nodes behind an event: it depends on them alone, and on no step before
abbrev pub after : Event → LiveSimView → LiveSimView
after e sim = stepped e (without_past sim)

-- is it carried out? Whatever it is answered: an event isn't that can't be given to a node, or has no end
abbrev pub is_made : Outcome → Bool
is_made (outcome.Done happened) = true
is_made (outcome.Refused why) = false
is_made outcome.Endless = false

abbrev pub is_not_up : NodeReportView → Bool
is_not_up r = not (is_phase_up r.phase)

-- how many nodes aren't up
abbrev pub not_up_count : List NodeReportView → ℕ
not_up_count nodes = count_by is_not_up nodes

-- an event may come if it is carried out, and at most so many nodes aren't up behind it
abbrev pub comes : ℕ → Event → LiveSimView → Bool
comes down e sim = is_made (outcome_of e (without_past sim)) && nat_le (not_up_count (report_of (after e sim)).nodes) down

-- the live nodes behind it, where it may
abbrev pub made_if : Bool → Event → LiveSimView → Option LiveSimView
made_if true e sim = Some (after e sim)
made_if false e sim = None
