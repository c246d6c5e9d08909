-- Tests of where an application stands (Distributed Applications; ours).
use Rattle.std.specs.Prelude.{Bool, true, false}
use Rattle.rh_model.specs.declared.node.Node.{Node}
use Rattle.rh_state.specs.declared.status.Standing.{Standing}
use Rattle.rh_state.specs.declared.status.Standing.TheVariants.{Quiet, Running, Lost}
use Rattle.rh_state.specs.Numbers.{same_node}

-- it is to run nowhere
abbrev pub is_quiet : Standing → Bool
is_quiet Quiet = true
is_quiet _ = false

-- it runs somewhere, or at this node
abbrev pub is_running : Standing → Bool
is_running (Running m) = true
is_running _ = false

abbrev pub is_running_at : Node → Standing → Bool
is_running_at n (Running m) = same_node m n
is_running_at n _ = false

-- it was lost with a node that ended, or with this one
abbrev pub is_lost : Standing → Bool
is_lost (Lost m) = true
is_lost _ = false

abbrev pub is_lost_at : Node → Standing → Bool
is_lost_at n (Lost m) = same_node m n
is_lost_at n _ = false
