-- Boots of nodes that wait on for another one, and that every order of what comes of one ends alike.
use Rattle.std.specs.Prelude.{◌≡◌, ◌≢◌, ◌<◌, ◌||◌, Bool, true, false}
use Rattle.rh_model.specs.ClusterView.{ClusterView, is_in, mandatory_of, optional_of}
use Rattle.rh_model.specs.declared.node.Node.{Node}
use Rattle.rh_otp_model.specs.declared.wait.Wait.{Wait}
use Rattle.rh_otp_model.specs.declared.wait.Wait.TheVariants as wait
use Rattle.rh_otp_net.specs.Links.{are_linked}
use Rattle.rh_otp_node.specs.declared.node.Phase.TheVariants as phase
use Rattle.rh_otp_node.specs.Live.{LiveView}
use Rattle.rh_otp_system.specs.Doing.{booted}
use Rattle.rh_otp_system.specs.Moves.{Reaches, IsSettled}
use Rattle.rh_otp_system.specs.State.{SystemView, node_at, wait_at, is_alive_at, is_up_at}
use Rattle.rh_otp_laws.specs.Acting.{IsThere, IsReached}
use Rattle.rh_otp_crashes.specs.Crashes.{AreAtRest}
use Rattle.rh_otp_stops.specs.Stops.{EndsAlike}

-- ---- what a node waits for

-- a node's own file has it wait for others: for some time, or without end (kernel(6), `sync_nodes_timeout`)
abbrev pub HasItWait : Wait → Type 0
HasItWait (wait.After time) = 0 < time
HasItWait wait.Forever = Unit {0}
HasItWait w = ⊥

-- is the second one of the nodes that the first waits for, as the cluster has its lists (kernel(6), `sync_nodes_mandatory`,
-- `sync_nodes_optional`)?
abbrev pub is_listed : ClusterView → Node → Node → Bool
is_listed c n m = is_in m (mandatory_of c n) || is_in m (optional_of c n)

-- does a live node wait for this one still (kernel_config, rec_nodes/2)?
abbrev pub is_awaited : LiveView → Node → Bool
is_awaited v m = is_in m v.mandatory || is_in m v.optional

-- all nodes that are alive see one another
abbrev pub AllSeeAll : SystemView → Type 0
AllSeeAll s = (m k : Node) → is_alive_at s m ≡ true → is_alive_at s k ≡ true → m.0 ≢ k.0 → are_linked m k s.links ≡ true

-- a live node waits for another one than this, too
pub record WaitsForMore (n : Node) (v : LiveView) : Type 0 where
  pub more : Node
  pub other : more.0 ≢ n.0
  pub awaited : is_awaited v more ≡ true

-- The node isn't alive. Once it has begun it waits on, by its own file: its lists name each node that is alive, and one that isn't, other
-- than itself. And each node that waits already waits for another one than this, too.
pub record WaitsOn (n : Node) (s : SystemView) : Type 0 where
  pub down : is_alive_at s n ≡ false
  pub file : HasItWait (wait_at s n)
  pub names : (m : Node) → is_alive_at s m ≡ true → is_listed s.cluster n m ≡ true
  pub lacks : Node
  pub lacking : is_listed s.cluster n lacks ≡ true
  pub not_itself : lacks.0 ≢ n.0
  pub not_there : is_alive_at s lacks ≡ false
  pub others : (m : Node) → is_alive_at s m ≡ true → is_up_at s m ≡ false → WaitsForMore n (node_at s m)

-- ---- the laws

-- A boot of such a node ends alike, where nodes are at rest and all see one another.
abbrev pub WaitingBootsEndAlike : Type 0
WaitingBootsEndAlike = (s : SystemView) (n : Node) → IsReached s → AreAtRest s → IsThere n s → AllSeeAll s → WaitsOn n s
    → EndsAlike (booted n s)

-- Behind a command the node waits, for all those that its lists name and that aren't alive. Each other one is as far as it was, in the
-- same life, and still waits for all for which it waited, but for this one. Nothing was told; nodes are at rest, and all see one another.
pub record IsLeftWaiting (n : Node) (s t : SystemView) : Type 0 where
  pub itself : (node_at t n).phase ≡ phase.Waiting
  pub lacks : (k : Node) → k.0 ≢ n.0 → is_listed s.cluster n k ≡ true → is_alive_at s k ≡ false → is_awaited (node_at t n) k ≡ true
  pub others : (m : Node) → m.0 ≢ n.0 → ((node_at t m).life ≡ (node_at s m).life) × ((node_at t m).phase ≡ (node_at s m).phase)
  pub awaits : (m k : Node) → m.0 ≢ n.0 → k.0 ≢ n.0 → is_awaited (node_at s m) k ≡ true → is_awaited (node_at t m) k ≡ true
  pub events : t.events ≡ s.events
  pub rest : AreAtRest t
  pub sees : AllSeeAll t

-- So the node waits behind such a boot, and all that waited wait on, whatever order led there.
abbrev pub WaitingBootsLeaveAllWaiting : Type 0
WaitingBootsLeaveAllWaiting = (s t : SystemView) (n : Node) → IsReached s → AreAtRest s → IsThere n s → AllSeeAll s → WaitsOn n s
    → Reaches (booted n s) t → IsSettled t → IsLeftWaiting n s t

-- In any state that live nodes reach, two nodes that are alive, and both name one another, see one another, if the own file of each has it
-- wait: whichever began later has reached the other at its begin.
abbrev pub NodesThatNameOneAnotherSeeOneAnother : Type 0
NodesThatNameOneAnotherSeeOneAnother = (s : SystemView) (n m : Node) → IsReached s → n.0 ≢ m.0
    → HasItWait (wait_at s n) → HasItWait (wait_at s m) → is_listed s.cluster n m ≡ true → is_listed s.cluster m n ≡ true
    → is_alive_at s n ≡ true → is_alive_at s m ≡ true → are_linked n m s.links ≡ true
