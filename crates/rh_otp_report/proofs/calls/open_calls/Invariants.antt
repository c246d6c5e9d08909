use Rattle.std.proofs.Common.{◌≡◌, ◌++◌, drop}
use Rattle.std.specs.List.{filter_map}
use Rattle.rh_otp_report.specs.OpenCalls.{open_call, open_calls}
use Rattle.rh_otp_report.proofs.calls.open_calls.Given as goal

abbrev pub invariant-loop-call : goal.invariant-loop-call
invariant-loop-call l = l.found.items ++ filter_map (open_call l.sim) (drop l.call-index l.calls) ≡ open_calls l.sim l.calls
