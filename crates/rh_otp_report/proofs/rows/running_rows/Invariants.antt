use Rattle.std.proofs.Common.{◌≡◌, ◌++◌, drop, filter, map}
use Rattle.rh_otp_report.specs.Rows.{runs_here, runs_of, running_rows}
use Rattle.rh_otp_report.proofs.rows.running_rows.Given as goal

abbrev pub invariant-loop-row : goal.invariant-loop-row
invariant-loop-row l =
    l.rows.items ++ map (λ row. runs_of l.live row.0) (filter runs_here (drop l.row-index l.row-items)) ≡ running_rows l.live
