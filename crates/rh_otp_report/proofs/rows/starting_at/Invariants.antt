use Rattle.std.proofs.Common.{◌≡◌, ◌++◌, drop, map}
use Rattle.rh_otp_report.specs.Rows.{app_of}
use Rattle.rh_otp_report.proofs.rows.starting_at.Given as goal

abbrev pub invariant-loop-row : goal.invariant-loop-row
invariant-loop-row l = l.apps.items ++ map app_of (drop l.row-index l.row-items) ≡ map app_of l.live.controller.starting
