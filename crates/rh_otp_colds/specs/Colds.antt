-- Nodes that all wait for one another begin, one after the other, where none had begun: each boot but the last one ends alike, and leads to
-- where the last one begins.
use Rattle.std.specs.Prelude.{◌≡◌, ◌≢◌, ◌≤◌, ◌+◌, ◌==◌, ◌&&◌, [], Bool, true, false, not, is_some}
use Rattle.rh_model.specs.ClusterView.{is_in, mandatory_of, optional_of}
use Rattle.rh_model.specs.declared.node.Node.{Node}
use Rattle.rh_otp_net.specs.Links.{linked_with}
use Rattle.rh_otp_node.specs.Live.{never_begun, begun}
use Rattle.rh_otp_system.specs.Doing.{booted}
use Rattle.rh_otp_system.specs.Moves.{Reaches, IsSettled}
use Rattle.rh_otp_system.specs.State.{SystemView, live_at, node_at, own_at, wait_at, is_alive_at}
use Rattle.rh_otp_laws.specs.Acting.{IsThere, IsNew, IsReached}
use Rattle.rh_otp_stops.specs.Stops.{EndsAlike}
use Rattle.rh_otp_waits.specs.Waits.{HasItWait}
use Rattle.rh_otp_gathers.specs.Gathers.{times, one_if}
use Rattle.rh_otp_gathers.specs.LastBoot.{IsLast}

-- ---- nodes that name one another

-- is there such a node? (ours)
abbrev pub is_there : SystemView → Node → Bool
is_there s x = is_some (live_at s x)

-- Each node's own file has it wait. Each other node stands in one of its two lists, and in that alone, and nobody else stands in either
-- (kernel(6), `sync_nodes_mandatory`, `sync_nodes_optional`).
pub record NameEachOther (s : SystemView) : Type 0 where
  pub wait : (n : Node) → IsThere n s → HasItWait (wait_at s n)
  pub lists : (n x : Node) → IsThere n s
      → one_if (is_in x (mandatory_of s.cluster n)) + one_if (is_in x (optional_of s.cluster n)) ≡ one_if (is_there s x && not (x.0 == n.0))

-- ---- how far they are

-- The node is as it begins for the first time, but for its lists: it waits for exactly those that aren't alive, for each by one of its
-- lists alone. It sees each other one that is alive, each once, and nobody else (ours).
pub record HasBegun (m : Node) (s : SystemView) : Type 0 where
  pub there : IsThere m s
  pub node : node_at s m ≡ record (begun s.cluster (own_at s m) m never_begun) {
    mandatory = (node_at s m).mandatory;
    optional = (node_at s m).optional;
  }
  pub awaits : (x : Node)
      → one_if (is_in x (node_at s m).mandatory) + one_if (is_in x (node_at s m).optional) ≡ one_if (is_there s x && not (is_in x s.alive))
  pub sees : (x : Node) → x.0 ≢ m.0 → times x (linked_with m s.links) ≡ times x s.alive
  pub not_itself : times m (linked_with m s.links) ≡ 0

-- Of nodes that name one another each that is alive has begun so, each other one never has, and nobody is connected with it. Nothing is on
-- its way, no call is open, and nobody has a lock (ours).
pub record IsColdStart (s : SystemView) : Type 0 where
  pub names : NameEachOther s
  pub once : (m : Node) → times m s.alive ≤ 1
  pub begun : (m : Node) → 1 ≤ times m s.alive → HasBegun m s
  pub new : (m : Node) → times m s.alive ≡ 0 → node_at s m ≡ never_begun
  pub unseen : (m : Node) → times m s.alive ≡ 0 → linked_with m s.links ≡ []
  pub locks : s.locks ≡ []
  pub messages : s.messages ≡ []
  pub slow : s.slow ≡ []
  pub calls : s.calls ≡ []

-- ---- the law

-- So it is where none has begun. And there a node that begins, but not as the last one, ends alike; wherever that comes to rest it is so
-- again; and where one node is left, and another one is alive, the one that is left is the last one (ours).
pub record ColdStartsGoOn : Type 0 where
  pub first : (s : SystemView) → IsNew s → NameEachOther s → IsColdStart s
  pub next : (s : SystemView) (n last : Node) → IsReached s → IsColdStart s → IsThere n s → is_alive_at s n ≡ false
      → IsThere last s → is_alive_at s last ≡ false → last.0 ≢ n.0
      → EndsAlike (booted n s) × ((t : SystemView) → Reaches (booted n s) t → IsSettled t → IsColdStart t)
  pub last : (s : SystemView) (n other : Node) → IsColdStart s → IsThere n s → is_alive_at s n ≡ false
      → ((m : Node) → IsThere m s → m.0 ≢ n.0 → is_alive_at s m ≡ true) → is_alive_at s other ≡ true → IsLast n s
