use Rattle.std.proofs.Common.{◌≡◌, ◌++◌, drop, filter, map, Some}
use Rattle.rh_otp_report.specs.Rows.{waits_here, waits_as, forbidden_rows}
use Rattle.rh_otp_report.proofs.rows.forbidden_rows.Given as goal

abbrev pub invariant-loop-row : goal.invariant-loop-row
invariant-loop-row l =
    l.rows.items ++ map (λ row. waits_as row.0 (Some row.1)) (filter (λ row. waits_here row.0 l.controller) (drop l.row-index l.row-items))
    ≡ forbidden_rows l.controller
