use Rattle.std.proofs.Common.{◌≡◌, map, take}
use Rattle.rh_explore_text.specs.Asks.{down_at}
use Rattle.rh_explore_text.proofs.asks.all_down.Given as goal

abbrev pub invariant-names : goal.invariant-names
invariant-names l = l.conditions.items ≡ map (down_at l.cluster) (map (λ name. name.now) (take l.name-index l.names))
