use Rattle.std.proofs.Common.{◌≡◌, map, take, List, ℕ}
use Rattle.std.specs.Borrow.{Bor}
use Rattle.rh_line_lint.proofs.names.node_names.Given as goal

abbrev pub invariant-loop-number : goal.invariant-loop-number
invariant-loop-number l = map (λ (name : Bor (List ℕ)). name.now) l.names.items ≡ take l.number l.cluster.node_names
