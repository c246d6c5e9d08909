-- kernel's wait for other nodes (kernel_config.erl).
use Rattle.std.specs.Prelude.{List, [], ◌∷◌, Bool, true, false, ◌==◌, ◌||◌, not, filter, if◌then◌else◌}
use Rattle.rh_model.specs.ClusterView.{is_in}
use Rattle.rh_model.specs.declared.node.Node.{Node}
use Rattle.rh_otp_node.specs.declared.node.Phase.TheVariants as phase
use Rattle.rh_otp_node.specs.Live.{LiveView}

abbrev pub is_some_node : List Node → Bool
is_some_node [] = false
is_some_node (n ∷ nodes) = true

-- does it wait for any node still?
abbrev pub waits : LiveView → Bool
waits v = is_some_node v.mandatory || is_some_node v.optional

-- these nodes without this one
abbrev pub without_node : Node → List Node → List Node
without_node n nodes = filter (λ (m : Node). not (m.0 == n.0)) nodes

-- rec_nodes/2, check_up/3: it has seen a node, which counts once it was seen
abbrev pub seen : Node → LiveView → LiveView
seen n v =
    if is_in n v.mandatory then record v { mandatory = without_node n v.mandatory }
    else record v { optional = without_node n v.optional }

-- the wait is over
abbrev pub joined : LiveView → LiveView
joined v = record v { phase = phase.Up }
