use Rattle.std.proofs.Common.{◌≡◌, ◌+◌, ◌++◌, drop}
use Rattle.rh_otp_explore_text.specs.FoundLines.{asked_lines}
use Rattle.rh_otp_explore_text.proofs.found_lines.push_all_asked.Given as goal

abbrev pub invariant-loop-place : goal.invariant-loop-place
invariant-loop-place l =
    l.out.items ++ asked_lines l.cluster (l.place + 1) (drop l.place l.all) ≡ l.fn.out.items ++ asked_lines l.cluster 1 l.all
