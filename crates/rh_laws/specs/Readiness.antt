-- What findings say of nodes that come up, tied to the rules.
use Rattle.std.specs.Prelude.{◌≡◌}
use Rattle.rh_rules.specs.Prelude.{Node, IsNodeOf, StateView}
use Rattle.rh_state.specs.Shape.{IsShaped}
use Rattle.rh_rules.specs.NodesStart.{booted, is_ready}
use Rattle.rh_rules.specs.declared.event.Event.TheVariants.{Boot}
use Rattle.rh_step_findings.specs.After.{comes_up}

-- a node comes up at a boot exactly where it is ready once the one that boots waits (kernel(6), sync_nodes_timeout)
abbrev pub ComesUpIfReady : Type 0
ComesUpIfReady = (s : StateView) (b n : Node) → IsShaped s → IsNodeOf s.cluster b → comes_up s (Boot b) n ≡ is_ready (booted s b) n
