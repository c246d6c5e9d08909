use Rattle.std.proofs.Common.{◌≡◌, ◌≤◌, ◌+◌, ◌++◌, ℕ, List, length, map}
use Rattle.std.specs.Borrow.{Bor}
use Rattle.rh_verify.specs.Spaces.{lines_of}
use Rattle.rh_verify.specs.Expected.{asked_by, ahead, passed_by}
use Rattle.rh_verify.proofs.expected.lines_ahead.Given as goal

abbrev pub invariant-lines : goal.invariant-lines
invariant-lines l = record {
  lines : ahead (asked_by l.cluster (lines_of l.script))
      ≡ map (λ (line : Bor (List ℕ)). line.now) l.lines.items ++ ahead (asked_by l.cluster (lines_of l.rest));
  passed : asked_by l.cluster (lines_of l.script)
      ≡ passed_by (map (λ (line : Bor (List ℕ)). line.now) l.lines.items) ++ asked_by l.cluster (lines_of l.rest);
  within : length l.lines.items + length l.rest ≤ length l.script;
}

abbrev pub decreases-lines : goal.decreases-lines
decreases-lines l = length l.rest
