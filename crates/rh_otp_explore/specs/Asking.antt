-- What is asked of live nodes, by what is told of them (ours, as by the manual's rules; what hangs is what process_info/2 shows).
use Rattle.std.specs.Prelude.{ℕ, nat_le, ◌==◌, List, [], ◌∷◌, count_by, Bool, true, false, not, ◌&&◌, ◌||◌, is_some, Option, Some, None}
use Rattle.std.specs.List.{list_any, list_all}
use Rattle.rh_model.specs.declared.node.App.{App}
use Rattle.rh_model.specs.declared.node.Node.{Node}
use Rattle.rh_explore.specs.declared.asking.Condition.{Condition}
use Rattle.rh_explore.specs.declared.asking.Condition.TheVariants.{RunsSomewhere, RunsNowhere, RunsAt, IsUp, IsNotUp, RunsAtMostOnce, NothingHangs}
use Rattle.rh_explore_text.specs.Asks.{AskView}
use Rattle.rh_otp_report.specs.Report.{report_of}
use Rattle.rh_otp_report.specs.Views.{NodeReportView, ReportView}
use Rattle.rh_otp_report.specs.declared.rows.Runs.{Runs}
use Rattle.rh_otp_sim.specs.Sim.{LiveSimView}
use Rattle.rh_otp_explore.specs.Coming.{after, is_not_up}
use Rattle.rh_otp_explore.specs.Due.{dues, ms_to, tick_to}

abbrev pub is_empty : {A : Type 0} → List A → Bool
is_empty [] = true
is_empty (x ∷ xs) = false

-- ---- a condition

-- does the application run at a node?
abbrev pub is_row_of : App → Runs → Bool
is_row_of a row = row.app.0 == a.0

abbrev pub runs_in : App → NodeReportView → Bool
runs_in a r = list_any (is_row_of a) r.running

abbrev pub runs_at : App → Node → NodeReportView → Bool
runs_at a n r = r.node.0 == n.0 && runs_in a r

abbrev pub is_up_at : Node → NodeReportView → Bool
is_up_at n r = r.node.0 == n.0 && not (is_not_up r)

-- does its dist_ac or its boot script wait for something?
abbrev pub hangs_at : NodeReportView → Bool
hangs_at r = is_some r.block || is_some r.boot

-- nothing does at any node, and each call has returned
abbrev pub nothing_hangs : ReportView → Bool
nothing_hangs r = not (list_any hangs_at r.nodes) && is_empty r.calls

abbrev pub runs_somewhere : App → List NodeReportView → Bool
runs_somewhere a nodes = list_any (runs_in a) nodes

abbrev pub is_up : Node → List NodeReportView → Bool
is_up n nodes = list_any (is_up_at n) nodes

-- at how many nodes does it run?
abbrev pub places : App → List NodeReportView → ℕ
places a nodes = count_by (runs_in a) nodes

-- a condition is so
abbrev pub is_so : ReportView → Condition → Bool
is_so r (RunsSomewhere a) = runs_somewhere a r.nodes
is_so r (RunsNowhere a) = not (runs_somewhere a r.nodes)
is_so r (RunsAt a n) = list_any (runs_at a n) r.nodes
is_so r (IsUp n) = is_up n r.nodes
is_so r (IsNotUp n) = not (is_up n r.nodes)
is_so r (RunsAtMostOnce a) = nat_le (places a r.nodes) 1
is_so r NothingHangs = nothing_hangs r

-- ---- what is asked

-- all conditions of one of its lists are so
abbrev pub is_met : AskView → ReportView → Bool
is_met q r = list_any (λ way. list_all (is_so r) way) q.any_of

-- they are where time passes until a timer is due, which is no more than so many milliseconds
abbrev pub is_met_at : AskView → ℕ → LiveSimView → ℕ → ℕ → Bool
is_met_at q ms sim now due = nat_le (ms_to now due) ms && is_met q (report_of (after (tick_to now due) sim))

-- they are at one of the timers that are told
abbrev pub is_met_soon : AskView → ℕ → LiveSimView → Bool
is_met_soon q ms sim = list_any (is_met_at q ms sim (report_of sim).time) (dues (report_of sim))

-- they are at once; or soon, where that is asked
abbrev pub is_met_by : AskView → Option ℕ → LiveSimView → Bool
is_met_by q None sim = is_met q (report_of sim)
is_met_by q (Some ms) sim = is_met q (report_of sim) || is_met_soon q ms sim

-- what is asked holds of live nodes: it isn't asked there, since a timer is told, or it is met
abbrev pub holds_in : AskView → LiveSimView → Bool
holds_in q sim = (not q.always && not (is_empty (dues (report_of sim)))) || is_met_by q q.within sim
