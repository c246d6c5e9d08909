use Rattle.std.proofs.Common.{◌≡◌, List, ℕ, map, filter, take, not, length}
use Rattle.std.specs.Prelude.{◌==◌}
use Rattle.std.specs.Borrow.{Bor}
use Rattle.rh_line_lint.proofs.words.words_of.Given as goal

abbrev pub invariant-loop-part : goal.invariant-loop-part
invariant-loop-part l = map (λ (w : Bor (List ℕ)). w.now) l.words.items
    ≡ filter (λ (w : List ℕ). not (length w == 0)) (map (λ (w : Bor (List ℕ)). w.now) (take l.part-index l.part-items))
