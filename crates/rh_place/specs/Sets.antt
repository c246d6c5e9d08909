-- Sets of nodes (ours).
use Rattle.std.specs.Prelude.{ℕ, Bool, ◌==◌}
use Rattle.std.specs.Int.{bit_at}
use Rattle.rh_model.specs.declared.node.Node.{Node}

-- what is kept of a set: bit n is 1 where node n is in it
pub record NodeBits : Type 0 where
  pub bits : ℕ

-- is the node in the set?
unfoldable pub has : NodeBits → Node → Bool
has set n = bit_at set.bits n.0 == 1
