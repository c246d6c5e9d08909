-- Laws of what an event changes, in the field's words (Distributed Applications, Failover; application(3)).
use Rattle.std.specs.Prelude.{◌≡◌, ◌≢◌}
use Rattle.rh_model.specs.declared.node.Node.{Node}
use Rattle.rh_state.specs.StateView.{mode_of, running_at, waiting_at}
use Rattle.rh_rules.specs.Course.{Course}
use Rattle.rh_rules.specs.NodesEnd.{ended}

-- the end of a node changes no list of another one, and no other node's mode
abbrev pub EndLeavesOthers : Type 0
EndLeavesOthers = (o : Course) (n m : Node) → m.0 ≢ n.0
    → (running_at (ended o n).state m ≡ running_at o.state m)
    × (waiting_at (ended o n).state m ≡ waiting_at o.state m)
    × (mode_of (ended o n).state m ≡ mode_of o.state m)
