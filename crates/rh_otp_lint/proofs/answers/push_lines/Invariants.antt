use Rattle.std.proofs.Common.{◌≡◌, ◌++◌, take}
use Rattle.std.specs.List.{flat_map}
use Rattle.rh_otp_lint.specs.Answers.{of_line}
use Rattle.rh_otp_lint.proofs.answers.push_lines.Given as goal

abbrev pub invariant-loop-line : goal.invariant-loop-line
invariant-loop-line l = l.found.items ≡ l.fn.found.items ++ flat_map (of_line l.cluster l.number) (take l.line-index l.lines)
