-- Which nodes are connected.
use Rattle.std.specs.Prelude.{◌≡◌, true, All}
use Rattle.rh_otp_net.specs.declared.links.Link.{Link}
use Rattle.rh_otp_system.specs.State.{SystemView, is_alive_at}
use Rattle.rh_otp_laws.specs.Acting.{IsReached}

-- both ends of the connection are alive
abbrev pub IsBound : SystemView → Link → Type 0
IsBound s l = (is_alive_at s l.0 ≡ true) × (is_alive_at s l.1 ≡ true)

-- In any state that live nodes reach connections are between nodes that are alive.
abbrev pub ConnectedNodesAreAlive : Type 0
ConnectedNodesAreAlive = (s : SystemView) → IsReached s → All (IsBound s) s.links
