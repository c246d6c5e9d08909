use Rattle.std.proofs.Common.{◌≡◌, drop}
use Rattle.std.specs.List.{list_any}
use Rattle.rh_explore_text.specs.Asks.{ask_view}
use Rattle.rh_otp_report.specs.Report.{report_of}
use Rattle.rh_otp_explore.specs.Asking.{is_met_at, is_met_soon}
use Rattle.rh_otp_explore.proofs.asking.is_met_soon.Given as goal

abbrev pub invariant-loop-due : goal.invariant-loop-due
invariant-loop-due l =
    list_any (is_met_at (ask_view l.ask) l.ms l.stand (report_of l.stand).time) (drop l.due-index l.due-items)
    ≡ is_met_soon (ask_view l.ask) l.ms l.stand
