use Rattle.std.proofs.Common.{◌≡◌, ◌++◌, take, map}
use Rattle.std.specs.List.{flat_map}
use Rattle.rh_verify.specs.Spaces.{below}
use Rattle.rh_verify.proofs.spaces.push_each.Given as goal

abbrev pub invariant-loop-text : goal.invariant-loop-text
invariant-loop-text l = l.block.items ≡ l.fn.block.items ++ flat_map (below l.words) (map (λ text. text.now) (take l.text-index l.texts))
