use Rattle.std.proofs.Common.{◌≡◌, map, take, Bor, List, ℕ}
use Rattle.std.specs.Option.{option_map}
use Rattle.rh_term_lint.specs.Near.{nearest}
use Rattle.rh_term_lint.proofs.near.nearest.Given as goal

abbrev pub invariant-loop-name : goal.invariant-loop-name
invariant-loop-name l = option_map (λ (name : Bor (List ℕ)). name.now) l.best ≡ nearest l.word (map (λ (name : Bor (List ℕ)). name.now) (take l.name-index l.known))
