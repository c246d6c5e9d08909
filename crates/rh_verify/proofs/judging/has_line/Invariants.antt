use Rattle.std.proofs.Common.{◌≡◌, ℕ, List, map, take, false}
use Rattle.std.specs.List.{list_any}
use Rattle.std.specs.Str.{bytes_eq}
use Rattle.std.specs.Borrow.{Bor}
use Rattle.rh_verify.specs.Spaces.{without_front}
use Rattle.rh_verify.proofs.judging.has_line.Given as goal

abbrev pub invariant-loop-line : goal.invariant-loop-line
invariant-loop-line l =
    list_any (λ (t : List ℕ). bytes_eq (without_front t) l.wanted) (map (λ (line : Bor (List ℕ)). line.now) (take l.line-index l.report)) ≡ false
