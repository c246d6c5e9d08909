use Rattle.std.proofs.Common.{◌≡◌, ◌++◌, take}
use Rattle.std.specs.List.{flat_map}
use Rattle.std.specs.String.{string_bytes}
use Rattle.rh_calls.specs.Report.{forbidden_line}
use Rattle.rh_otp_text.proofs.nodes.push_forbidden.Given as goal

abbrev pub invariant-loop-app : goal.invariant-loop-app
invariant-loop-app l = string_bytes l.text ≡ string_bytes l.fn.text ++ flat_map (forbidden_line l.cluster) (take l.app-index l.apps)
