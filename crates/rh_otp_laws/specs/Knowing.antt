-- What the processes of a node know, and that no move of another node changes it.
use Rattle.std.specs.Prelude.{◌≡◌, ◌≢◌, ◌++◌, ◌⊎◌, [], false, List, All, Option, Some, None}
use Rattle.std.specs.Option.{option_map}
use Rattle.rh_model.specs.declared.node.Node.{Node}
use Rattle.rh_otp_model.specs.declared.message.Message.TheVariants as message
use Rattle.rh_otp_model.specs.declared.output.Envelope.{Envelope}
use Rattle.rh_otp_model.specs.declared.process.Role.TheVariants as role
use Rattle.rh_otp_dist.specs.State.{DistView}
use Rattle.rh_otp_net.specs.Links as links
use Rattle.rh_otp_net.specs.Locks as locks
use Rattle.rh_otp_node.specs.Kernel.{without_node}
use Rattle.rh_otp_node.specs.Live.{LiveView}
use Rattle.rh_otp_node.specs.Remote.{without_monitors}
use Rattle.rh_otp_system.specs.declared.moves.Move.{Move}
use Rattle.rh_otp_system.specs.State.{SystemView, node_at, is_alive_at}
use Rattle.rh_otp_system.specs.Moves.{made}
use Rattle.rh_otp_system.specs.Resting.{crashed}
use Rattle.rh_otp_laws.specs.Turns.{node_of}

-- all that the processes of a node know: not whom its dist_ac monitors, which the emulator keeps, nor what an observer has noted
abbrev pub knowledge : LiveView → LiveView
knowledge v = record v { kinds = []; dist = option_map (λ (d : DistView). record d { monitored = [] }) v.dist }

-- it isn't this node, if there is one
abbrev pub IsAnother : Node → Option Node → Type 0
IsAnother m None = Unit {0}
IsAnother m (Some n) = m.0 ≢ n.0

-- A move is one node's own: at every other node all that its processes know is as it was. So of what changes elsewhere a node learns only
-- by a move of its own, as by a message that arrives there, and what it knows until then is out of date.
abbrev pub MovesStayAtTheirNode : Type 0
MovesStayAtTheirNode = (s : SystemView) (next : Move) (m : Node) → IsAnother m (node_of next s)
    → knowledge (node_at (made next s) m) ≡ knowledge (node_at s m)

-- tells a dist_ac of the end of this node
abbrev pub IsNodeDown : Node → Envelope → Type 0
IsNodeDown n e = (e.message ≡ message.NodeDown n) × (e.to.role ≡ role.DistAc)

-- Before any message of it arrives the end of a node changes at the others nothing but their monitors of it. It is listed no more, its
-- connections are over and the locks there and of its processes free; and all that it puts on its way tells dist_acs of its end.
pub record EndsAlone (n : Node) (s t : SystemView) : Type 0 where
  pub itself : is_alive_at t n ≡ false
  pub others : (m : Node) → m.0 ≢ n.0 → (node_at t m ≡ node_at s m) ⊎ (node_at t m ≡ without_monitors n (node_at s m))
  pub alive : t.alive ≡ without_node n s.alive
  pub links : t.links ≡ links.without_node n s.links
  pub locks : t.locks ≡ locks.without_node n s.locks
  pub timers : t.timers ≡ s.timers
  pub calls : t.calls ≡ s.calls
  pub slow : t.slow ≡ s.slow
  pub more : List Envelope
  pub behind : t.messages ≡ s.messages ++ more
  pub each : All (IsNodeDown n) more

abbrev pub EndsChangeMonitorsAlone : Type 0
EndsChangeMonitorsAlone = (s : SystemView) (n : Node) → EndsAlone n s (crashed n s)
