-- A node that is taken out, changed and put back.
use Rattle.std.proofs.lemmas.List.{set-set}

-- what stood in its place in between is gone
pub ruleset put_back = (set-set)
