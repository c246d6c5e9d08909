use Rattle.std.proofs.Common.{◌≡◌, ◌++◌, ℕ, List, map, drop, codes}
use Rattle.std.specs.List.{flat_map}
use Rattle.std.specs.Str.{bytes_eq}
use Rattle.std.specs.Borrow.{Bor}
use Rattle.rh_verify.proofs.judging.is_joined.Given as goal

abbrev pub invariant-loop-line : goal.invariant-loop-line
invariant-loop-line l = bytes_eq (flat_map (λ (t : List ℕ). t ++ codes "\n") (map (λ (line : Bor (List ℕ)). line.now) l.lines)) l.text
    ≡ bytes_eq (flat_map (λ (t : List ℕ). t ++ codes "\n") (map (λ (line : Bor (List ℕ)). line.now) (drop l.line-index l.lines))) l.rest
