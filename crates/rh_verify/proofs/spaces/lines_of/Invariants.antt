use Rattle.std.proofs.Common.{◌≡◌, ◌++◌, ℕ, List, length, map}
use Rattle.std.specs.Borrow.{Bor}
use Rattle.rh_verify.specs.Spaces.{lines_of}
use Rattle.rh_verify.proofs.spaces.lines_of.Given as goal

abbrev pub invariant-lines : goal.invariant-lines
invariant-lines l = lines_of l.text ≡ map (λ (line : Bor (List ℕ)). line.now) l.lines.items ++ lines_of l.rest

abbrev pub decreases-lines : goal.decreases-lines
decreases-lines l = length l.rest
