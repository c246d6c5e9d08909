use Rattle.std.proofs.Common.{◌≡◌, List, ℕ, map, filter, take, not, length}
use Rattle.std.specs.Prelude.{◌==◌}
use Rattle.std.specs.Borrow.{Bor}
use Rattle.rh_script.proofs.script.first_words.Given as goal

abbrev pub invariant-loop-part : goal.invariant-loop-part
invariant-loop-part l = map (λ (w : Bor (List ℕ)). w.now) l.words.items
    ≡ take 6 (filter (λ (w : List ℕ). not (length w == 0)) (map (λ (w : Bor (List ℕ)). w.now) l.yielded))
