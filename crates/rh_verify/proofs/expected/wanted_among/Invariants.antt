use Rattle.std.proofs.Common.{◌≡◌, ℕ, List, map, take}
use Rattle.std.specs.Borrow.{Bor}
use Rattle.rh_verify.specs.Expected.{wanted_among}
use Rattle.rh_verify.proofs.expected.wanted_among.Given as goal

abbrev pub invariant-loop-line : goal.invariant-loop-line
invariant-loop-line l = map (λ (text : Bor (List ℕ)). text.now) l.texts.items
    ≡ wanted_among (map (λ (line : Bor (List ℕ)). line.now) (take l.line-index l.lines))
