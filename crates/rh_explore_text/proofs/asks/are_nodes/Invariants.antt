use Rattle.std.proofs.Common.{◌≡◌, map, drop}
use Rattle.rh_explore_text.specs.Asks.{are_nodes}
use Rattle.rh_explore_text.proofs.asks.are_nodes.Given as goal

abbrev pub invariant-words : goal.invariant-words
invariant-words l = are_nodes l.cluster (map (λ word. word.now) l.words) ≡ are_nodes l.cluster (map (λ word. word.now) (drop l.word-index l.words))
