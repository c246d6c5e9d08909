use Rattle.std.proofs.Common.{◌≡◌, ℕ, List, map, take}
use Rattle.std.specs.Borrow.{Bor}
use Rattle.rh_verify.specs.Expected.{answers_in}
use Rattle.rh_verify.proofs.expected.answers_in.Given as goal

abbrev pub invariant-loop-line : goal.invariant-loop-line
invariant-loop-line l = map (λ (text : Bor (List ℕ)). text.now) l.texts.items
    ≡ answers_in (map (λ (line : Bor (List ℕ)). line.now) (take l.line-index l.lines))
