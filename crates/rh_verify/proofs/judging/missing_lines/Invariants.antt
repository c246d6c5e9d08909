use Rattle.std.proofs.Common.{◌≡◌, ℕ, List, map, take, filter}
use Rattle.std.specs.Borrow.{Bor}
use Rattle.rh_verify.specs.Blocks.{lacks}
use Rattle.rh_verify.proofs.judging.missing_lines.Given as goal

abbrev pub invariant-loop-line : goal.invariant-loop-line
invariant-loop-line l = map (λ (line : Bor (List ℕ)). line.now) l.lines.items
    ≡ filter (lacks (map (λ (line : Bor (List ℕ)). line.now) l.report.items)) (map (λ (line : Bor (List ℕ)). line.now) (take l.line-index l.wanted))
