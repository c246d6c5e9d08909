-- A node comes back to nodes that are up and at rest: until its boot script begins, every order comes to the same.
use Rattle.std.specs.Prelude.{◌≡◌, ◌≢◌, ◌++◌, ◌&&◌, ℕ, List, [], ◌∷◌, All, map, true, false, Some, None}
use Rattle.rh_model.specs.declared.node.App.{App}
use Rattle.rh_model.specs.declared.node.Node.{Node}
use Rattle.rh_otp_model.specs.declared.output.Event.TheVariants as event
use Rattle.rh_otp_controller.specs.First.{first}
use Rattle.rh_otp_dist.specs.declared.state.Stand.TheVariants as stand
use Rattle.rh_otp_dist.specs.State.{DistView, may_run}
use Rattle.rh_otp_net.specs.declared.links.Link.{Link}
use Rattle.rh_otp_net.specs.Links.{are_linked}
use Rattle.rh_otp_node.specs.Live.{permission_rows}
use Rattle.rh_otp_system.specs.declared.slow.Slow.{Slow}
use Rattle.rh_otp_system.specs.declared.slow.Slow.TheVariants.{Connect, Boot}
use Rattle.rh_otp_system.specs.Doing.{booted}
use Rattle.rh_otp_system.specs.Moves.{Reaches, is_to_end}
use Rattle.rh_otp_system.specs.State.{SystemView, node_at, wait_at, is_alive_at, is_up_at, has_dist_at}
use Rattle.rh_otp_laws.specs.Acting.{IsThere, IsReached}
use Rattle.rh_otp_orders.specs.Confluence.{EveryOrderEndsAlike}
use Rattle.rh_otp_crashes.specs.Crashes.{IsUnoccupied, AreAtRest}
use Rattle.rh_otp_locks.specs.Holding.{stand_at}
use Rattle.rh_otp_stops.specs.Stops.{CanTell}
use Rattle.rh_otp_waits.specs.Waits.{HasItWait, is_listed, AllSeeAll}
use Rattle.rh_otp_joins.specs.Leading.{LeadsTo}

-- ---- the node, and those to which it comes back

-- The node isn't alive. Its own file has it wait for other nodes (kernel(6), `sync_nodes_timeout`), and its lists, `sync_nodes_mandatory`
-- and `sync_nodes_optional`, name exactly those that are alive. Each of these is up, its dist_ac takes whatever comes, where it has one,
-- and they see one another.
pub record ComesBack (n : Node) (s : SystemView) : Type 0 where
  pub there : IsThere n s
  pub down : is_alive_at s n ≡ false
  pub waits : HasItWait (wait_at s n)
  pub listed : (m : Node) → is_listed s.cluster n m ≡ is_alive_at s m
  pub up : (m : Node) → is_alive_at s m ≡ true → is_up_at s m ≡ true
  pub ready : (m : Node) → is_alive_at s m ≡ true → has_dist_at s m ≡ true → stand_at s m ≡ Some stand.Idle
  pub sees : AllSeeAll s

-- ---- the state to which it comes

-- what global does a little later
abbrev pub connect_of : Link → Slow
connect_of l = Connect l.0 l.1

-- It does nothing: one of the two isn't alive, or they are connected.
abbrev pub IsDoneAlready : SystemView → Link → Type 0
IsDoneAlready s l = (is_alive_at s l.0 && is_alive_at s l.1) ≡ true → are_linked l.0 l.1 s.links ≡ true

-- The node is up, and an observer was told so; nothing is started there. Its dist_ac, where it has one, has synchronised, and nobody waits
-- there for a takeover or for the end of an application; but for the node itself it knows only of nodes that are alive that they may run
-- anything. All dist_acs take whatever comes, no call is open, and nobody has a lock. No message is on its way, and what is slow is the
-- node's boot script, and connections that are there already. All nodes see one another, none has to end, and nothing of the others has
-- changed but their dist_acs.
pub record HasJoined (n : Node) (s t : SystemView) : Type 0 where
  pub cluster : t.cluster ≡ s.cluster
  pub files : t.files ≡ s.files
  pub alive : t.alive ≡ s.alive ++ n ∷ []
  pub is_up : is_up_at t n ≡ true
  pub place : (node_at t n).place ≡ 0
  pub controller : (node_at t n).controller ≡ first (permission_rows s.cluster n)
  pub synchronised : (d : DistView) → (node_at t n).dist ≡ Some d → d.is_synchronised ≡ true
  pub runners : (d : DistView) (m : Node) (a : App) → (node_at t n).dist ≡ Some d → m.0 ≢ n.0 → may_run d m a ≡ true
      → is_alive_at t m ≡ true
  pub dists : (m : Node) (d : DistView) → is_alive_at t m ≡ true → (node_at t m).dist ≡ Some d → IsUnoccupied d
  pub ready : (m : Node) → is_alive_at t m ≡ true → has_dist_at t m ≡ true → stand_at t m ≡ Some stand.Idle
  pub others : (m : Node) → m.0 ≢ n.0 → record (node_at t m) { dist = None } ≡ record (node_at s m) { dist = None }
  pub ends : (m : Node) → is_alive_at t m ≡ true → is_to_end m t ≡ false
  pub ends_soon : t.ends_soon ≡ s.ends_soon
  pub messages : t.messages ≡ []
  pub connects : List Link
  pub slow : t.slow ≡ map connect_of connects ++ Boot n ∷ []
  pub done : All (IsDoneAlready t) connects
  pub calls : t.calls ≡ []
  pub locks : t.locks ≡ []
  pub events : t.events ≡ s.events ++ event.Up n ∷ []
  pub sees : AllSeeAll t
  pub can_tell : CanTell n t

-- ---- the law

-- Where a command begins to settle no answers of nodes to one another are counted.
abbrev pub uncounted : SystemView → SystemView
uncounted s = record s { answers = [] }

-- So by every order, and the same number of moves, a node comes back to a state that is alike to one, and some order reaches this very one.
abbrev pub JoinsComeToOneState : Type 0
JoinsComeToOneState = (s : SystemView) (n : Node) → IsReached s → AreAtRest s → ComesBack n s
    → (k : ℕ) × (t : SystemView) × LeadsTo k (uncounted (booted n s)) t × Reaches (uncounted (booted n s)) t × HasJoined n s t

-- ---- the connections that are left

-- Connections that are there already change nothing of how it ends, whenever they come about.
abbrev pub ConnectionsThereEndAlike : Type 0
ConnectionsThereEndAlike = (s : SystemView) (connects : List Link) → IsReached s → All (IsDoneAlready s) connects → EveryOrderEndsAlike s
    → EveryOrderEndsAlike (record s { slow = map connect_of connects ++ s.slow })

-- So where a node comes back, every order ends alike if every order of what its boot script does ends alike: where it begins, in a state
-- that is reached, nothing else is left to move.
abbrev pub JoinsEndAsBootsDo : Type 0
JoinsEndAsBootsDo = (s : SystemView) (n : Node) → IsReached s → AreAtRest s → ComesBack n s
    → (t : SystemView) × IsReached t × HasJoined n s t × (t.slow ≡ Boot n ∷ [])
    × (EveryOrderEndsAlike t → EveryOrderEndsAlike (uncounted (booted n s)))
